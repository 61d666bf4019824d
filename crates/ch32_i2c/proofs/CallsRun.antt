-- What is seen of an accepted call, whichever it is: its machine's, and so layer 1's.
-- Assumes nothing.
use mathlib.Core.Path.{◌≡◌, refl, ap, sym, subst, ◌∙◌}
use mathlib.Core.Bool.{Bool, true, false, not, ◌||◌}
use mathlib.Core.List.{List, [], ◌∷◌, ◌++◌}
use mathlib.Core.Option.{Option, none, some}
use Prim.Native.Nat.{ℕ, ◌≤◌}
use native.Mathlib.Omega.{arith}
use lib.Dec.{eqb, ltb}
use lib.ListN.{length}
use borrow.Author.Tests.{eqb-true, eq-eqb, ltb-false, not-false, le-ltb}
use Rattle.access.specs.declared.ending.Error.{Error}
use Rattle.access.specs.declared.ending.Error.TheVariants.{InvalidState, InvalidArgument, InvalidAddress, BufferTooLong, ReservedAddress}
use Rattle.access.specs.Endings.{Ending, failed}
use Rattle.access.specs.Record.{Shown, no_more}
use Rattle.access.specs.Machine.{filled, is_end, shown_from}
use Rattle.block.specs.Bytes32.{block_size}
use Rattle.timing.specs.declared.settings.Timing.{Timing}
use Rattle.timing.specs.declared.init.Stage as timingStage
use Rattle.timing.specs.declared.init.Stage.TheVariants as timingStages
use Rattle.timing.specs.declared.init.State as timingState
use Rattle.timing.specs.Rust.{timing}
use Rattle.timing.specs.Machine as init_machine
use Rattle.master.specs.declared.call.Call as master
use Rattle.master.specs.declared.state.Move.{Move}
use Rattle.master.specs.Machine.{master, start, owed}
use Rattle.master.specs.Calls.{Lent, lent_with, refusal, call_shown, seen_after, shape_of}
use Rattle.master.proofs.CallAgrees.{passed_cause}
use Rattle.master.proofs.AcceptedFits.{states_fit}
use Rattle.slave.specs.declared.config.SlaveConfig.{SlaveConfig}
use Rattle.slave.specs.declared.init.InitStage.{InitStage}
use Rattle.slave.specs.declared.init.InitStage.TheVariants as initStage
use Rattle.slave.specs.declared.init.InitState.{InitState}
use Rattle.slave.specs.declared.state.Setting.{Setting}
use Rattle.slave.specs.declared.state.Kind as slave
use Rattle.slave.specs.Reserved.{config_reserved}
use Rattle.slave.specs.Init as initSlaveMachine
use Rattle.slave.specs.Machine as slaveMachine
use Rattle.slave.specs.Calls.{SlaveLent, size_of, size_refusal, setting_of, init_shown, slave_shown}
use Rattle.slave.specs.Calls as slaveCalls
use Rattle.slave.proofs.CallAgrees.{accepted_shown}
use Rattle.slave.specs.Fits.{is_respond_to_read}
use Rattle.slave.proofs.FitsKept as slaveFits
use Rattle.slave_driver.specs.Lent as slaveLent
use Rattle.images.specs.Numbers.{chip_of}
use Rattle.call.specs.OnBlock.{begin_on}
use Rattle.calls.specs.Init as initCall
use Rattle.calls.specs.Response.{response_begin}
use Rattle.call.specs.Left.{left, refused_with, begin_left}
use Rattle.ch32_i2c.specs.Fed.{Entry, last_from, Makes}
use Rattle.ch32_i2c.specs.Init as cInit
use Rattle.ch32_i2c.specs.Transfer.{master_begin}
use Rattle.ch32_i2c.specs.InitSlave as cInitSlave
use Rattle.ch32_i2c.specs.Demands.{Call, unknown, own_refusal, Accepted, timed_refusal, init_ends, transfer_ends, response_ends, IsMet}
use Rattle.ch32_i2c.proofs.Carried.{Carries, carried, still_open, over, shown_over, unread, carries_unread}
use Rattle.ch32_i2c.proofs.Recorded.{Recorded, recorded}
use Rattle.ch32_i2c.proofs.MetEnds.{MetNeed, shown_met}
use Rattle.timing.proofs.InRange.{settled_range}
use Rattle.ch32_i2c.proofs.InitCarried.{init_image, init_entry, init_carries, init_slave_image, init_slave_entry, init_slave_carries, InitFit, InitSlaveFit}
use Rattle.timing.proofs.SettingsStay.{settings_stay}
use Rattle.slave_driver.proofs.ConfigStays.{config_stays}
use Rattle.ch32_i2c.proofs.TransferCarried.{transfer_entry, transfer_carries}
use Rattle.ch32_i2c.proofs.TransferCarried as transfer
use Rattle.ch32_i2c.proofs.Takes.{transfer_takes, response_takes, init_takes, init_slave_takes, transfer_takes_lem, response_takes_lem, init_takes_lem, init_slave_takes_lem}
use Rattle.ch32_i2c.proofs.TransferMet.{transfer_met}
use Rattle.ch32_i2c.proofs.ResponseCarried.{response_entry, response_carries}
use Rattle.ch32_i2c.proofs.ResponseCarried as response-carried
use Rattle.ch32_i2c.proofs.ResponseMet.{response_met}
use Rattle.std.specs.Prelude.{Result, Ok, Err}

-- ---- what an accepted call is

pub record Parts (c : Call) (block bytes : List ℕ) : Type 0 where
  pub size : length block ≡ block_size
  pub known : unknown c ≡ false
  pub own : own_refusal c (length bytes) ≡ none

pub parts : (c : Call) (block bytes : List ℕ) → Accepted c block bytes → Parts c block bytes
parts c block bytes a =
    let p = passed_cause (not (eqb (length block) block_size)) InvalidState _ a in
    let q = passed_cause (unknown c) InvalidArgument _ p.1 in
    record { size = eqb-true (length block) block_size (not-false _ p.0); known = q.0; own = q.1 }

-- ---- what is seen

-- a call through its entry e, with these ends, shows this after each list of answers
pub record Runs (can : Ending → Bool) (e : Entry) (takes : List ℕ → List ℕ → Bool) (block bytes : List ℕ) (shown : List ℕ → Shown) : Type 0 where
  pub makes : (answers : List ℕ) → Makes e block bytes answers (shown answers)
  pub recorded : (answers : List ℕ) → Recorded (shown answers) answers
  pub met : (answers : List ℕ) → IsMet can (shown answers).end
  -- while there is no end a step takes the block that is left
  pub still_open : (answers : List ℕ) → (shown answers).end ≡ none → takes (last_from e (e.begin block bytes) answers).block (last_from e (e.begin block bytes) answers).read ≡ true
  -- behind an end the same is shown, and what is left stays
  pub stays : (answers more : List ℕ) (x : Ending) → (shown answers).end ≡ some x → shown (answers ++ more) ≡ shown answers
  pub over : (answers : List ℕ) (x : Ending) → (shown answers).end ≡ some x → (a : ℕ)
      → last_from e (e.begin block bytes) (answers ++ (a ∷ [])) ≡ refused_with InvalidState (last_from e (e.begin block bytes) answers).block (last_from e (e.begin block bytes) answers).read

-- the same, shown in other words
runs_as : {can : Ending → Bool} {e : Entry} {takes : List ℕ → List ℕ → Bool} {block bytes : List ℕ} (f g : List ℕ → Shown) → ((answers : List ℕ) → f answers ≡ g answers) → Runs can e takes block bytes f → Runs can e takes block bytes g
runs_as {can} {e} {takes} {block} {bytes} f g q r =
    record {
      makes = λ answers. subst (λ (s : Shown). Makes e block bytes answers s) (q answers) (r.makes answers);
      recorded = λ answers. subst (λ (s : Shown). Recorded s answers) (q answers) (r.recorded answers);
      met = λ answers. subst (λ (s : Shown). IsMet can s.end) (q answers) (r.met answers);
      still_open = λ answers h. r.still_open answers (ap (λ (s : Shown). s.end) (q answers) ∙ h);
      stays = λ answers more x h. sym (q (answers ++ more)) ∙ r.stays answers more x (ap (λ (s : Shown). s.end) (q answers) ∙ h) ∙ q answers;
      over = λ answers x h. r.over answers x (ap (λ (s : Shown). s.end) (q answers) ∙ h);
    }

-- ---- transfers

module _ (c : master.Call) (l : Lent) (accepted : refusal c l ≡ none) where
  abbrev machine_shown : List ℕ → Shown
  machine_shown answers = shown_from (master (shape_of c l)) l.written (start (shape_of c l)) answers

  pub call_shown_lem : (answers : List ℕ) → machine_shown answers ≡ call_shown c l answers
  unfolding call_shown
  call_shown_lem answers = ap (λ (o : Option Error). seen_after o c l answers) (sym accepted)

  module _ (u : Bool) (block bytes : List ℕ) (size : length block ≡ block_size) (known : u ≡ false) (room : length bytes ≡ l.room) where
    pub begin_left_lem : (transfer_entry c l u).begin block bytes ≡ left (filled l.written (owed (shape_of c l) (start (shape_of c l)))) (transfer.image_of c l (start (shape_of c l))) bytes
    unfolding master_begin begin_on refusal owed
    begin_left_lem = rw (eq-eqb (length block) block_size size, known, room, accepted)

    transfer_runs_with : (e : Entry) (takes : List ℕ → List ℕ → Bool) → Carries (master (shape_of c l)) l.written l.room e (transfer.image_of c l) (transfer.Fit c l)
        → ((m : Move) (r : List ℕ) → transfer.Fit c l m → length r ≡ l.room → takes (transfer.image_of c l m) r ≡ not (is_end (owed (shape_of c l) m)))
        → e.begin block bytes ≡ left (filled l.written (owed (shape_of c l) (start (shape_of c l)))) (transfer.image_of c l (start (shape_of c l))) bytes → Runs (transfer_ends c.chip) e takes block bytes (call_shown c l)
    transfer_runs_with e takes k t b =
        runs_as machine_shown (call_shown c l) call_shown_lem
        (record {
          makes = λ answers. carried k (start (shape_of c l)) block bytes (states_fit.begins c l accepted) room b answers;
          recorded = λ answers. recorded (master (shape_of c l)) l.written (start (shape_of c l)) answers;
          met = λ answers. shown_met (transfer_ends c.chip) (master (shape_of c l)) l.written (transfer.Fit c l) (λ m a g. states_fit.kept c l accepted m a g) (transfer_met (shape_of c l)) (start (shape_of c l)) (states_fit.begins c l accepted) answers;
          still_open = λ answers h. still_open k takes t (start (shape_of c l)) block bytes (states_fit.begins c l accepted) room b answers h;
          stays = λ answers more x h. shown_over (master (shape_of c l)) l.written (start (shape_of c l)) answers more x h;
          over = λ answers x h. over k (start (shape_of c l)) block bytes (states_fit.begins c l accepted) room b answers x h;
        })

    pub transfer_runs : Runs (transfer_ends c.chip) (transfer_entry c l u) (transfer_takes c l) block bytes (call_shown c l)
    transfer_runs = transfer_runs_with (transfer_entry c l u) (transfer_takes c l) (transfer_carries c l accepted u) (transfer_takes_lem c l accepted) begin_left_lem

-- a write lends nothing to read
pub write_runs : (c : master.Call) (written : List ℕ) → refusal c (lent_with [] written 0) ≡ none → (u : Bool) (block : List ℕ) → length block ≡ block_size → u ≡ false
    → Runs (transfer_ends c.chip) (unread (transfer_entry c (lent_with [] written 0) u)) (λ b r. transfer_takes c (lent_with [] written 0) b []) block [] (call_shown c (lent_with [] written 0))
write_runs c written accepted u block size known =
    transfer_runs_with c (lent_with [] written 0) accepted u block [] size known refl (unread (transfer_entry c (lent_with [] written 0) u)) (λ b r. transfer_takes c (lent_with [] written 0) b [])
    (carries_unread (transfer_carries c (lent_with [] written 0) accepted u)) (λ m r g e. transfer_takes_lem c (lent_with [] written 0) accepted m [] g refl) (begin_left_lem c (lent_with [] written 0) accepted u block [] size known refl)

-- ---- listening, receives and replies

pub small : (n : ℕ) → size_refusal n ≡ none → n ≤ 65535
small n q = ltb-false 65535 n (passed_cause (ltb 65535 n) BufferTooLong none q).0

module _ (chip : ℕ) (x : slave.Kind) (l : SlaveLent) (accepted : size_of x l ≤ 65535) (block bytes : List ℕ) (size : length block ≡ block_size) (known : ltb 3 chip ≡ false) (room : length bytes ≡ l.room) where
  abbrev setting : Setting
  setting = setting_of (chip_of chip) x l

  pub response_left : (response_entry (chip_of chip) x l chip).begin block bytes ≡ left (filled (slaveCalls.bytes_of x l) (slaveMachine.owed setting (slaveMachine.start x))) (response-carried.image_of (chip_of chip) x l (slaveMachine.start x)) bytes
  unfolding begin_on slaveMachine.owed
  response_left =
      ap (λ (n : ℕ). begin_left (slaveCalls.bytes_of x l) (response_begin (size_of x (slaveLent.lent_with l.reply n)) chip x block) bytes) room
      ∙ rw (eq-eqb (length block) block_size size, known, le-ltb 65535 (size_of x l) accepted)

  response_runs_with : (e : Entry) (takes : List ℕ → List ℕ → Bool) → Carries (slaveMachine.slave setting) (slaveCalls.bytes_of x l) l.room e (response-carried.image_of (chip_of chip) x l) (response-carried.Fit (chip_of chip) x l)
      → ((m : (slaveMachine.slave setting).State) (r : List ℕ) → response-carried.Fit (chip_of chip) x l m → length r ≡ l.room → takes (response-carried.image_of (chip_of chip) x l m) r ≡ not (is_end (slaveMachine.owed setting m)))
      → e.begin block bytes ≡ left (filled (slaveCalls.bytes_of x l) (slaveMachine.owed setting (slaveMachine.start x))) (response-carried.image_of (chip_of chip) x l (slaveMachine.start x)) bytes
      → Runs (response_ends (chip_of chip) (is_respond_to_read x)) e takes block bytes (slave_shown (chip_of chip) x l)
  response_runs_with e takes k t b =
      runs_as (λ answers. shown_from (slaveMachine.slave setting) (slaveCalls.bytes_of x l) (slaveMachine.start x) answers) (slave_shown (chip_of chip) x l) (λ answers. sym (accepted_shown (chip_of chip) x l accepted answers))
      (record {
        makes = λ answers. carried k (slaveMachine.start x) block bytes ((slaveFits.states_fit).begins setting) room b answers;
        recorded = λ answers. recorded (slaveMachine.slave setting) (slaveCalls.bytes_of x l) (slaveMachine.start x) answers;
        met = λ answers. shown_met (response_ends (chip_of chip) (is_respond_to_read x)) (slaveMachine.slave setting) (slaveCalls.bytes_of x l) (response-carried.Fit (chip_of chip) x l) (λ m a g. (slaveFits.states_fit).kept setting m a g) (response_met setting) (slaveMachine.start x) ((slaveFits.states_fit).begins setting) answers;
        still_open = λ answers h. still_open k takes t (slaveMachine.start x) block bytes ((slaveFits.states_fit).begins setting) room b answers h;
        stays = λ answers more y h. shown_over (slaveMachine.slave setting) (slaveCalls.bytes_of x l) (slaveMachine.start x) answers more y h;
        over = λ answers y h. over k (slaveMachine.start x) block bytes ((slaveFits.states_fit).begins setting) room b answers y h;
      })

  pub response_runs : Runs (response_ends (chip_of chip) (is_respond_to_read x)) (response_entry (chip_of chip) x l chip) (response_takes x l) block bytes (slave_shown (chip_of chip) x l)
  response_runs = response_runs_with (response_entry (chip_of chip) x l chip) (response_takes x l) (response_carries (chip_of chip) x l accepted chip) (response_takes_lem (chip_of chip) x l accepted) response_left

-- listening and a reply lend nothing to read
pub unread_runs : (chip : ℕ) (x : slave.Kind) (reply : List ℕ) → size_of x (slaveLent.lent_with reply 0) ≤ 65535 → (block : List ℕ) → length block ≡ block_size → ltb 3 chip ≡ false
    → Runs (response_ends (chip_of chip) (is_respond_to_read x)) (unread (response_entry (chip_of chip) x (slaveLent.lent_with reply 0) chip)) (λ b r. response_takes x (slaveLent.lent_with reply 0) b []) block [] (slave_shown (chip_of chip) x (slaveLent.lent_with reply 0))
unread_runs chip x reply accepted block size known =
    response_runs_with chip x (slaveLent.lent_with reply 0) accepted block [] size known refl (unread (response_entry (chip_of chip) x (slaveLent.lent_with reply 0) chip))
    (λ b r. response_takes x (slaveLent.lent_with reply 0) b []) (carries_unread (response_carries (chip_of chip) x (slaveLent.lent_with reply 0) accepted chip))
    (λ m r g e. response_takes_lem (chip_of chip) x (slaveLent.lent_with reply 0) accepted m [] g refl) (response_left chip x (slaveLent.lent_with reply 0) accepted block [] size known refl)

-- ---- init

abbrev pub shown_timed : ℕ → Result Timing Error → List ℕ → Shown
shown_timed chip (Ok t) answers = shown_from init_machine.init_machine [] (init_machine.started (chip_of chip) t) answers
shown_timed chip (Err e) answers = no_more (some (failed e))

init_stage_met : (st : timingStage.Stage) (s : timingState.State) → MetNeed init_ends (init_machine.owed_at st s)
init_stage_met timingStages.DisableRead s = tt
init_stage_met timingStages.DisableWrite s = tt
init_stage_met timingStages.ResetRead s = tt
init_stage_met timingStages.ResetWrite s = tt
init_stage_met timingStages.ReleaseRead s = tt
init_stage_met timingStages.ReleaseWrite s = tt
init_stage_met timingStages.FrequencyRead s = tt
init_stage_met timingStages.FrequencyWrite s = tt
init_stage_met timingStages.RiseWrite s = tt
init_stage_met timingStages.ClockWrite s = tt
init_stage_met timingStages.EnableRead s = tt
init_stage_met timingStages.EnableWrite s = tt
init_stage_met timingStages.Ended s = refl

pub init_met : (s : timingState.State) → MetNeed init_ends (init_machine.owed s)
unfolding init_machine.owed
init_met s = init_stage_met s.stage s

module _ (chip input frequency duty : ℕ) (block : List ℕ) (size : length block ≡ block_size) (known : ltb 3 chip || ltb 1 duty ≡ false) where
  pub init_begun : (t : Timing) → timing (chip_of chip) input frequency (cInit.duty_of duty) ≡ Ok t
      → cInit.init_begin block chip input frequency duty ≡ left (filled [] (init_machine.owed (init_machine.started (chip_of chip) t))) (init_image (init_machine.started (chip_of chip) t)) []
  unfolding cInit.init_begin begin_on
  init_begun t q = rw (eq-eqb (length block) block_size size, known, q)

  init_runs_at : (x : Result Timing Error) → timing (chip_of chip) input frequency (cInit.duty_of duty) ≡ x → timed_refusal x ≡ none → Runs init_ends (init_entry chip input frequency duty) init_takes block [] (shown_timed chip x)
  init_runs_at (Err e) q r = let z : ◌≡◌ {A = ℕ} 0 1 = cc in absurd (omega arith)
  init_runs_at (Ok t) q r =
      let fit = settled_range (chip_of chip) input frequency (cInit.duty_of duty) t q in
      record {
        makes = λ answers. carried (init_carries chip input frequency duty) (init_machine.started (chip_of chip) t) block [] fit refl (init_begun t q) answers;
        recorded = λ answers. recorded init_machine.init_machine [] (init_machine.started (chip_of chip) t) answers;
        met = λ answers. shown_met init_ends init_machine.init_machine [] InitFit (λ s a g. ap initCall.in_range (settings_stay s a) ∙ g) (λ s g. init_met s) (init_machine.started (chip_of chip) t) fit answers;
        still_open = λ answers h. still_open (init_carries chip input frequency duty) init_takes (λ s r g e. init_takes_lem s r g) (init_machine.started (chip_of chip) t) block [] fit refl (init_begun t q) answers h;
        stays = λ answers more x h. shown_over init_machine.init_machine [] (init_machine.started (chip_of chip) t) answers more x h;
        over = λ answers x h. over (init_carries chip input frequency duty) (init_machine.started (chip_of chip) t) block [] fit refl (init_begun t q) answers x h;
      }

  pub init_runs : timed_refusal (timing (chip_of chip) input frequency (cInit.duty_of duty)) ≡ none → Runs init_ends (init_entry chip input frequency duty) init_takes block [] (shown_timed chip (timing (chip_of chip) input frequency (cInit.duty_of duty)))
  init_runs r = init_runs_at (timing (chip_of chip) input frequency (cInit.duty_of duty)) refl r

-- ---- init_slave

init_slave_stage_met : (st : InitStage) (s : InitState) → MetNeed init_ends (initSlaveMachine.owed_at st s)
init_slave_stage_met initStage.DisableRead s = tt
init_slave_stage_met initStage.DisableWrite s = tt
init_slave_stage_met initStage.BufferRead s = tt
init_slave_stage_met initStage.BufferWrite s = tt
init_slave_stage_met initStage.Own s = tt
init_slave_stage_met initStage.Second s = tt
init_slave_stage_met initStage.EnableRead s = tt
init_slave_stage_met initStage.EnableWrite s = tt
init_slave_stage_met initStage.Ended s = refl

pub init_slave_met : (s : InitState) → MetNeed init_ends (initSlaveMachine.owed s)
unfolding initSlaveMachine.owed
init_slave_met s = init_slave_stage_met s.stage s

pub config_passed : (c : SlaveConfig) → initSlaveMachine.init_refusal c ≡ none → initSlaveMachine.config_fault c ≡ false
config_passed c q = (passed_cause (initSlaveMachine.config_fault c) InvalidAddress _ q).0

pub config_unreserved : (c : SlaveConfig) → initSlaveMachine.init_refusal c ≡ none → config_reserved c ≡ false
config_unreserved c q = (passed_cause (config_reserved c) ReservedAddress none (passed_cause (initSlaveMachine.config_fault c) InvalidAddress _ q).1).0

pub init_shown_lem : (c : SlaveConfig) → initSlaveMachine.init_refusal c ≡ none → (answers : List ℕ) → shown_from initSlaveMachine.init_machine [] (initSlaveMachine.started c) answers ≡ init_shown c answers
unfolding init_shown
init_shown_lem c accepted answers = ap (λ (o : Option Error). slaveCalls.seen_after o (shown_from initSlaveMachine.init_machine [] (initSlaveMachine.started c) answers)) (sym accepted)

module _ (ten address has second general stretching : ℕ) (block : List ℕ) (size : length block ≡ block_size) (known : cInitSlave.unknown_flags ten has general stretching ≡ false) where
  abbrev config : SlaveConfig
  config = cInitSlave.config_of ten address has second general stretching

  module _ (accepted : initSlaveMachine.init_refusal config ≡ none) where
    pub slave_begun : cInitSlave.init_slave_begin block ten address has second general stretching ≡ left (filled [] (initSlaveMachine.owed (initSlaveMachine.started config))) (init_slave_image (initSlaveMachine.started config)) []
    unfolding cInitSlave.init_slave_begin begin_on
    slave_begun = rw (eq-eqb (length block) block_size size, known, accepted)

    pub init_slave_runs : Runs init_ends (init_slave_entry ten address has second general stretching) init_slave_takes block [] (init_shown config)
    init_slave_runs =
        runs_as (λ answers. shown_from initSlaveMachine.init_machine [] (initSlaveMachine.started config) answers) (init_shown config) (init_shown_lem config accepted)
        (record {
          makes = λ answers. carried (init_slave_carries ten address has second general stretching) (initSlaveMachine.started config) block [] accepted refl slave_begun answers;
          recorded = λ answers. recorded initSlaveMachine.init_machine [] (initSlaveMachine.started config) answers;
          met = λ answers. shown_met init_ends initSlaveMachine.init_machine [] InitSlaveFit (λ s a g. ap initSlaveMachine.init_refusal (config_stays s a) ∙ g) (λ s g. init_slave_met s) (initSlaveMachine.started config) accepted answers;
          still_open = λ answers h. still_open (init_slave_carries ten address has second general stretching) init_slave_takes (λ s r g e. init_slave_takes_lem s r g) (initSlaveMachine.started config) block [] accepted refl slave_begun answers h;
          stays = λ answers more x h. shown_over initSlaveMachine.init_machine [] (initSlaveMachine.started config) answers more x h;
          over = λ answers x h. over (init_slave_carries ten address has second general stretching) (initSlaveMachine.started config) block [] accepted refl slave_begun answers x h;
        })
