-- Begin of an accepted call hands out an access, or is done where there is nothing to do, and leaves a block that a step takes.
-- Assumes nothing.
use mathlib.Core.Path.{◌≡◌, refl, ap, subst, ◌∙◌}
use mathlib.Core.Bool.{Bool, true, false, cond, not, ◌&&◌, ◌||◌, true≢false}
use mathlib.Core.List.{List, [], ◌∷◌}
use mathlib.Core.Option.{none}
use Prim.Native.Nat.{ℕ, zero, suc, ◌≤◌}
use native.Mathlib.Omega.{arith}
use lib.Dec.{eqb, ltb}
use lib.ListN.{length}
use borrow.Author.Tests.{ne_eqb}
use Rattle.access.specs.declared.need.Need.{Need}
use Rattle.access.specs.declared.need.Need.TheVariants as need
use Rattle.access.specs.Endings.{done}
use Rattle.access.specs.Machine.{filled, is_end}
use Rattle.operations.specs.Operations.{is_read, direction_of, word_of, operations_of, shaped}
use Rattle.operations.specs.Runs.{Span, runs_of, runs_from, run_from, run_at, run_after, is_empty}
use Rattle.operations.proofs.RunLaws as run
use Rattle.block.specs.Bytes32.{block_size}
use Rattle.timing.specs.declared.settings.Timing.{Timing}
use Rattle.timing.specs.Rust.{timing}
use Rattle.timing.specs.Machine as init_machine
use Rattle.master.specs.declared.call.Call.{Call}
use Rattle.master.specs.declared.call.Setting.{Setting}
use Rattle.master.specs.declared.call.Kind.TheVariants as kind
use Rattle.master.specs.declared.state.Move.{Move}
use Rattle.master.specs.declared.stage.Stage.TheVariants.{Begin}
use Rattle.master.specs.Machine.{to, fresh, begun, write_bytes_move, owed, owed_at, start_with, start}
use Rattle.master.specs.Calls.{Lent, lent_with, refusal, setting_of, shape_of}
use Rattle.master.proofs.AcceptedFits.{states_fit}
use Rattle.slave.specs.declared.config.SlaveConfig.{SlaveConfig}
use Rattle.slave.specs.declared.state.Kind as slave
use Rattle.slave.specs.declared.state.Kind.TheVariants.{Listen, RespondToWrite, RespondToRead}
use Rattle.slave.specs.Init as initSlaveMachine
use Rattle.slave.specs.Machine as slaveMachine
use Rattle.slave.specs.Calls.{SlaveLent}
use Rattle.slave.specs.Calls as slaveCalls
use Rattle.slave.proofs.FitsKept as slaveFits
use Rattle.images.specs.Numbers.{chip_of}
use Rattle.images.specs.MasterImage.{frame_options_of}
use Rattle.registers.specs.declared.chip.Chip.{Chip}
use Rattle.call.specs.Left.{Left, left}
use Rattle.ch32_i2c.specs.Fed.{Entry, Begins}
use Rattle.ch32_i2c.specs.Fed as fed
use Rattle.ch32_i2c.specs.Init as cInit
use Rattle.ch32_i2c.specs.Transfer.{call_of}
use Rattle.ch32_i2c.specs.InitSlave as cInitSlave
use Rattle.ch32_i2c.specs.Demands.{init, init_slave, entry_of, takes, timed_refusal}
use Rattle.ch32_i2c.proofs.Carried.{filled_end}
use Rattle.ch32_i2c.proofs.Takes.{transfer_takes, response_takes, transfer_takes_lem, response_takes_lem, init_takes_lem, init_slave_takes_lem}
use Rattle.ch32_i2c.proofs.InitCarried.{init_image, init_slave_image}
use Rattle.timing.proofs.InRange.{settled_range}
use Rattle.ch32_i2c.proofs.TransferCarried as transfer
use Rattle.ch32_i2c.proofs.ResponseCarried as response
use Rattle.ch32_i2c.proofs.CallsRun.{init_begun, slave_begun}
use Rattle.std.specs.Prelude.{Result, Ok, Err}
use Rattle.access.specs.declared.ending.Error.{Error}

-- what a call that is over at once, or not, owes first
abbrev pub Starts : Bool → Need → Type 0
Starts true n = n ≡ need.End done
Starts false n = is_end n ≡ false

starts_end : (b : Bool) (n : Need) → Starts b n → is_end n ≡ b
starts_end true n s = ap is_end s
starts_end false n s = s

-- begin leaves the image of a state that owes n
module _ (e : Entry) (takes : List ℕ → List ℕ → Bool) (block bytes written image : List ℕ) (n : Need) (b : e.begin block bytes ≡ left (filled written n) image bytes) (t : takes image bytes ≡ not (is_end n)) where
  pub begins_with : (nothing : Bool) → Starts nothing n → Begins e takes nothing block bytes
  begins_with nothing s =
      record {
        access = λ q. ap (λ (h : Left). fed.is_end h.next) b ∙ filled_end written n ∙ starts_end nothing n s ∙ q;
        done = λ q. ap (λ (h : Left). h.next) b ∙ ap (filled written) (subst (λ (x : Bool). Starts x n) q s);
        taken = ap (λ (h : Left). takes h.block h.read) b ∙ t ∙ ap not (starts_end nothing n s);
        read = ap (λ (h : Left). h.read) b;
      }

-- ---- what an accepted transfer owes first

or_true : (b c : Bool) → c ≡ true → b || c ≡ true
or_true true c q = refl
or_true false c q = q

-- a run that begins with START
start_owes : (g : Setting) → g.frame.send_start ≡ true → (ss : List Span) → is_empty ss ≡ false
    → is_end (owed_at g (start_with g (run_at ss 0)).stage (start_with g (run_at ss 0)).progress) ≡ false
unfolding run_from
start_owes g s [] e = absurd (true≢false e)
start_owes g s (x ∷ ss) e =
    let r = run_after 0 0 x ss in
    ap (λ (b : Bool). is_end (owed_at g (cond b (to Begin fresh) (write_bytes_move g r (begun r fresh))).stage (cond b (to Begin fresh) (write_bytes_move g r (begun r fresh))).progress)) (or_true (is_read r.direction) g.frame.send_start s)

pub transaction_starts : (chip address : ℕ) (list written : List ℕ) (room : ℕ) → refusal (call_of chip address kind.Transaction) (lent_with list written room) ≡ none
    → Starts (is_empty list) (owed (shape_of (call_of chip address kind.Transaction) (lent_with list written room)) (start (shape_of (call_of chip address kind.Transaction) (lent_with list written room))))
unfolding owed refusal operations_of shaped runs_of run_from
transaction_starts chip address [] written room q = refl
transaction_starts chip address (d ∷ []) written room q = let z : ◌≡◌ {A = ℕ} 0 1 = cc in absurd (omega arith)
transaction_starts chip address (d ∷ a ∷ []) written room q = let z : ◌≡◌ {A = ℕ} 0 1 = cc in absurd (omega arith)
transaction_starts chip address (d ∷ a ∷ b ∷ l) written room q =
    start_owes (setting_of (call_of chip address kind.Transaction)) refl (runs_from (direction_of d) (word_of a b) (operations_of l)) (run.begun (direction_of d) (word_of a b) (operations_of l))

-- a write frame, by its option and whether it has bytes
six : (P : ℕ → Type 0) (n : ℕ) → n ≤ 5 → P 0 → P 1 → P 2 → P 3 → P 4 → P 5 → P n
six P zero h a b c d e f = a
six P (suc zero) h a b c d e f = b
six P (suc (suc zero)) h a b c d e f = c
six P (suc (suc (suc zero))) h a b c d e f = d
six P (suc (suc (suc (suc zero)))) h a b c d e f = e
six P (suc (suc (suc (suc (suc zero))))) h a b c d e f = f
six P (suc (suc (suc (suc (suc (suc n)))))) h a b c d e f = absurd (omega arith)

abbrev FrameStarts : ℕ → ℕ → List ℕ → ℕ → Type 0
FrameStarts chip address written option =
    Starts (is_empty written && (eqb option 3 || eqb option 5))
    (owed (shape_of (call_of chip address (kind.Write (frame_options_of option))) (lent_with [] written 0)) (start (shape_of (call_of chip address (kind.Write (frame_options_of option))) (lent_with [] written 0))))

pub frame_starts : (chip address : ℕ) (written : List ℕ) (option : ℕ) → option ≤ 5 → FrameStarts chip address written option
unfolding owed run_from
frame_starts chip address [] option h = six (FrameStarts chip address []) option h refl refl refl refl refl refl
frame_starts chip address (x ∷ w) option h =
    let q : eqb (suc (length w)) 0 ≡ false = ne_eqb (suc (length w)) 0 (λ e. omega (arith, e)) in
    six (FrameStarts chip address (x ∷ w)) option h refl refl refl (rw q refl) (rw q refl) (rw q refl)

pub write_read_starts : (chip address : ℕ) (written : List ℕ) (room : ℕ)
    → Starts false (owed (shape_of (call_of chip address kind.WriteRead) (lent_with [] written room)) (start (shape_of (call_of chip address kind.WriteRead) (lent_with [] written room))))
unfolding owed run_from
write_read_starts chip address written room = refl

pub read_starts : (chip address option room : ℕ)
    → Starts false (owed (shape_of (call_of chip address (kind.Read (frame_options_of option))) (lent_with [] [] room)) (start (shape_of (call_of chip address (kind.Read (frame_options_of option))) (lent_with [] [] room))))
unfolding owed run_from
read_starts chip address option room = refl

-- ---- begin of each kind

module _ (c : Call) (l : Lent) (accepted : refusal c l ≡ none) (block bytes : List ℕ) (room : length bytes ≡ l.room) (e : Entry) (takes : List ℕ → List ℕ → Bool) (nothing : Bool) where
  abbrev first : Move
  first = start (shape_of c l)

  pub transfer_begins : e.begin block bytes ≡ left (filled l.written (owed (shape_of c l) first)) (transfer.image_of c l first) bytes
      → takes (transfer.image_of c l first) bytes ≡ transfer_takes c l (transfer.image_of c l first) bytes
      → Starts nothing (owed (shape_of c l) first) → Begins e takes nothing block bytes
  transfer_begins b t s =
      begins_with e takes block bytes l.written (transfer.image_of c l first) (owed (shape_of c l) first) b (t ∙ transfer_takes_lem c l accepted first bytes (states_fit.begins c l accepted) room) nothing s

response_starts : (chip : Chip) (x : slave.Kind) (l : SlaveLent) → is_end (slaveMachine.owed (slaveCalls.setting_of chip x l) (slaveMachine.start x)) ≡ false
unfolding slaveMachine.owed
response_starts chip Listen l = refl
response_starts chip RespondToWrite l = refl
response_starts chip RespondToRead l = refl

module _ (chip : Chip) (x : slave.Kind) (l : SlaveLent) (accepted : slaveCalls.Accepted x l) (block bytes : List ℕ) (room : length bytes ≡ l.room) (e : Entry) (takes : List ℕ → List ℕ → Bool) where
  pub response_begins : e.begin block bytes ≡ left (filled (slaveCalls.bytes_of x l) (slaveMachine.owed (slaveCalls.setting_of chip x l) (slaveMachine.start x))) (response.image_of chip x l (slaveMachine.start x)) bytes
      → takes (response.image_of chip x l (slaveMachine.start x)) bytes ≡ response_takes x l (response.image_of chip x l (slaveMachine.start x)) bytes
      → Begins e takes false block bytes
  response_begins b t =
      begins_with e takes block bytes (slaveCalls.bytes_of x l) (response.image_of chip x l (slaveMachine.start x)) (slaveMachine.owed (slaveCalls.setting_of chip x l) (slaveMachine.start x)) b
      (t ∙ response_takes_lem chip x l accepted (slaveMachine.start x) bytes ((slaveFits.states_fit).begins (slaveCalls.setting_of chip x l)) room) false (response_starts chip x l)

init_starts : (chip : Chip) (t : Timing) → is_end (init_machine.owed (init_machine.started chip t)) ≡ false
unfolding init_machine.owed
init_starts chip t = refl

init_slave_starts : (c : SlaveConfig) → is_end (initSlaveMachine.owed (initSlaveMachine.started c)) ≡ false
unfolding initSlaveMachine.owed
init_slave_starts c = refl

module _ (chip input frequency duty : ℕ) (block : List ℕ) (size : length block ≡ block_size) (known : ltb 3 chip || ltb 1 duty ≡ false) where
  init_begins_at : (x : Result Timing Error) → timing (chip_of chip) input frequency (cInit.duty_of duty) ≡ x → timed_refusal x ≡ none → Begins (entry_of (init chip input frequency duty)) (takes (init chip input frequency duty)) false block []
  init_begins_at (Err e) q r = let z : ◌≡◌ {A = ℕ} 0 1 = cc in absurd (omega arith)
  init_begins_at (Ok t) q r =
      begins_with (entry_of (init chip input frequency duty)) (takes (init chip input frequency duty)) block [] [] (init_image (init_machine.started (chip_of chip) t)) (init_machine.owed (init_machine.started (chip_of chip) t))
      (init_begun chip input frequency duty block size known t q) (init_takes_lem (init_machine.started (chip_of chip) t) [] (settled_range (chip_of chip) input frequency (cInit.duty_of duty) t q)) false (init_starts (chip_of chip) t)

  pub init_begins : timed_refusal (timing (chip_of chip) input frequency (cInit.duty_of duty)) ≡ none → Begins (entry_of (init chip input frequency duty)) (takes (init chip input frequency duty)) false block []
  init_begins r = init_begins_at (timing (chip_of chip) input frequency (cInit.duty_of duty)) refl r

module _ (ten address has second general stretching : ℕ) (block : List ℕ) (size : length block ≡ block_size) (known : cInitSlave.unknown_flags ten has general stretching ≡ false) where
  pub init_slave_begins : initSlaveMachine.init_refusal (cInitSlave.config_of ten address has second general stretching) ≡ none
      → Begins (entry_of (init_slave ten address has second general stretching)) (takes (init_slave ten address has second general stretching)) false block []
  init_slave_begins r =
      let s = initSlaveMachine.started (cInitSlave.config_of ten address has second general stretching) in
      begins_with (entry_of (init_slave ten address has second general stretching)) (takes (init_slave ten address has second general stretching)) block [] [] (init_slave_image s) (initSlaveMachine.owed s)
      (slave_begun ten address has second general stretching block size known r) (init_slave_takes_lem s [] r) false (init_slave_starts (cInitSlave.config_of ten address has second general stretching))
