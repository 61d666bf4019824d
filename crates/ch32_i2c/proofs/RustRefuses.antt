-- A call whose first cause is 6 or 9 is refused by the Rust with the same error, before any access; without an added cause there is no other.
-- Assumes nothing.
use mathlib.Core.Path.{◌≡◌, refl, ap, sym, ◌∙◌}
use mathlib.Core.Bool.{Bool, true, false, cond, not, ◌||◌, ◌&&◌, true≢false}
use mathlib.Core.List.{List, [], ◌∷◌}
use mathlib.Core.Option.{Option, none, some}
use Prim.Native.Nat.{ℕ, ◌+◌, ◌*◌, ◌/◌, ◌≤◌, ◌^◌, max}
use native.Mathlib.Omega.{arith}
use lib.Dec.{eqb, ltb, leb}
use lib.ListN.{length, take, drop, length-take}
use borrow.Author.Tests.{ltb-false, le-ltb, lt-ltb, eq-eqb}
use Rattle.registers.specs.declared.chip.Chip.{Chip}
use Rattle.access.specs.declared.ending.Error.{Error}
use Rattle.access.specs.declared.ending.Error.TheVariants.{Overrun, BufferTooLong, InvalidAddress, TooManyOperations, LengthMismatch, InvalidArgument, ReservedAddress}
use Rattle.access.specs.declared.ending.Failure.{Failure}
use Rattle.access.specs.Endings.{failure_of, failed, done}
use Rattle.access.specs.Program.{Program, finish, call_of}
use Rattle.access.specs.Record.{no_more, shown_of}
use Rattle.access.proofs.Choice.{chosen}
use Rattle.operations.specs.declared.operation.Direction.{Direction}
use Rattle.operations.specs.declared.operation.Direction.TheVariants as direction
use Rattle.operations.specs.declared.operation.Operation.{Operation}
use Rattle.operations.specs.Operations.{direction_of, word_of, is_read, operation_of, empty_read, operations_of, shaped}
use Rattle.operations.specs.Runs.{written_sum, read_sum}
use Rattle.operations.specs.Search.{fault_from}
use Rattle.operations.proofs.SumLaws.{each_span, written_runs_lem, read_runs, both_sums}
use Rattle.timing.specs.declared.settings.Duty.{Duty}
use Rattle.timing.specs.Rust.{timing, div_ceil, factor_of, floor_of}
use Rattle.master.specs.declared.call.Call.{Call}
use Rattle.master.specs.declared.call.Frame.{Frame}
use Rattle.master.specs.declared.call.Kind.{Kind}
use Rattle.master.specs.declared.call.Kind.TheVariants as kind
use Rattle.master.specs.Rust as rust
use Rattle.master.specs.Calls.{Lent, cut, refuse, or_next, mismatch, refusal, refusal_at, NoAddedCause, function, rust_with}
use Rattle.slave.specs.declared.config.SlaveConfig.{SlaveConfig}
use Rattle.slave.specs.Reserved.{config_reserved}
use Rattle.slave.specs.Init.{config_fault, init_refusal}
use Rattle.ch32_i2c.specs.Demands.{timed_refusal, the_rusts}
use Rattle.std.specs.Prelude.{Result, Ok, Err}
use Rattle.timing.specs.declared.settings.Timing.{Timing}

-- ---- causes one by one

-- the first cause holds and is the refusal, or what follows is
peeled : {P : Type 0} (b : Bool) (x : Error) (next : Option Error) (e : Error) → refuse b x next ≡ some e → (b ≡ true → x ≡ e → P) → (b ≡ false → next ≡ some e → P) → P
peeled true x next e q f g = f refl (cc)
peeled false x next e q f g = g refl q

-- an added cause is none of the Rust's
added : {P : Type 0} (x e : Error) → the_rusts x ≡ false → the_rusts e ≡ true → x ≡ e → P
added x e f t z = absurd (true≢false (sym t ∙ ap the_rusts (sym z) ∙ f))

none_left : {P : Type 0} (e : Error) → none ≡ some e → P
none_left e q = let y : ◌≡◌ {A = ℕ} 0 1 = cc in absurd (omega arith)

abbrev stops : Failure → Program
stops f = finish (Err f)

-- ---- the Rust's checks

module _ (chip : Chip) (n : ℕ) (k : Unit {0} → Program) where
  -- the bytes may be fewer than the list says
  list_refuses : (l w : List ℕ) (t u : ℕ) (e : Error) → u ≤ t → t ≤ 65535 → fault_from t l ≡ some e → the_rusts e ≡ true → rust.validate_from chip u (cut (operations_of l) w) false n stops k ≡ stops (failure_of e)
  unfolding operations_of fault_from rust.validate_from rust.checked_add
  list_refuses [] w t u e p s q r = let z : ◌≡◌ {A = ℕ} 0 1 = cc in absurd (omega arith)
  list_refuses (d ∷ []) w t u e p s q r = let z : InvalidArgument ≡ e = cc in added InvalidArgument e refl r z
  list_refuses (d ∷ a ∷ []) w t u e p s q r = let z : InvalidArgument ≡ e = cc in added InvalidArgument e refl r z
  list_refuses (d ∷ a ∷ b ∷ l) w t u e p s q r = go (ltb 1 d) (direction_of d) q (λ w t u p s q. list_refuses l w t u e p s q r)
    where
      m : ℕ
      m = word_of a b

      go : (large : Bool) (x : Direction) → cond large (some InvalidArgument) (cond (is_read x && eqb m 0) (some Overrun) (cond (ltb 65535 (t + m)) (some BufferTooLong) (fault_from (t + m) l))) ≡ some e
          → ((w : List ℕ) (t u : ℕ) → u ≤ t → t ≤ 65535 → fault_from t l ≡ some e → rust.validate_from chip u (cut (operations_of l) w) false n stops k ≡ stops (failure_of e))
          → rust.validate_from chip u (cond (is_read x) (rust.Read m ∷ cut (operations_of l) w) (rust.Write (take m w) ∷ cut (operations_of l) (drop m w))) false n stops k ≡ stops (failure_of e)
      go true x q rest = let z : InvalidArgument ≡ e = cc in added InvalidArgument e refl r z
      go false direction.Write q rest =
          peeled (ltb 65535 (t + m)) BufferTooLong (fault_from (t + m) l) e q (λ _ z. added BufferTooLong e refl r z)
          (λ f q.
          let c = length (take m w) in
          let bound : u + c ≤ t + m = omega (arith, length-take m w) in
          let small : t + m ≤ 65535 = ltb-false 65535 (t + m) f in
          rw (lt-ltb (u + c) (2 ^ 32) (omega (arith, bound, small))) (rest (drop m w) (t + m) (u + c) bound small q))
      go false direction.Read q rest =
          peeled (eqb m 0) Overrun _ e q (λ f z. rw f (ap (λ (x : Error). stops (failure_of x)) z))
          (λ g q. peeled (ltb 65535 (t + m)) BufferTooLong (fault_from (t + m) l) e q (λ _ z. added BufferTooLong e refl r z)
          (λ f q.
          let small : t + m ≤ 65535 = ltb-false 65535 (t + m) f in
          rw (g, lt-ltb (u + m) (2 ^ 32) (omega (arith, small))) (rest w (t + m) (u + m) (omega arith) small q)))

module _ (chip : Chip) (address : ℕ) (n : ℕ) (k : Unit {0} → Program) where
  abbrev write_bytes : List ℕ → Frame → Program
  write_bytes bytes f = rust.write_bytes chip (rust.the_rust chip).check (rust.the_rust chip).validate (rust.the_rust chip).start address bytes f n stops k

  abbrev read_iter : ℕ → Frame → Program
  read_iter size f = rust.blocking_read_iter chip (rust.the_rust chip).check (rust.the_rust chip).validate (rust.the_rust chip).start address size f n stops k

  write_refuses : (bytes : List ℕ) (f : Frame) → ltb 0x7f address ≡ true → write_bytes bytes f ≡ stops (failure_of InvalidAddress)
  unfolding rust.write_bytes rust.validate_address
  write_refuses bytes f e = rw e

  read_refuses : (size : ℕ) (f : Frame) → ltb 0x7f address ≡ true → read_iter size f ≡ stops (failure_of InvalidAddress)
  unfolding rust.blocking_read_iter rust.validate_address
  read_refuses size f e = rw e

  empty_refuses : (size : ℕ) (f : Frame) → ltb 0x7f address ≡ false → eqb size 0 ≡ true → read_iter size f ≡ stops (failure_of Overrun)
  unfolding rust.blocking_read_iter rust.validate_address
  empty_refuses size f ok e = rw (ok, e)

-- ---- the master's calls

module _ (chip : Chip) (address : ℕ) (l : Lent) (n : ℕ) (answers : List ℕ) (e : Error) (r : the_rusts e ≡ true) where
  abbrev call_by : Kind → Call
  call_by x = record { chip = chip; address = address; kind = x }

  -- a program that stops with this error at once
  at_once : (p : Program) (x : Error) → p ≡ stops (failure_of x) → x ≡ e → shown_of 0 p answers ≡ no_more (some (failed e))
  at_once p x q z = ap (λ (p : Program). shown_of 0 p answers) q ∙ ap (λ (x : Error). no_more (some (failed x))) z

  abbrev program : Kind → Program
  program x = call_of (function (rust.the_rust chip) chip address x l) (λ _. done) n

  transaction_address : ltb 0x7f address ≡ true → program kind.Transaction ≡ stops (failure_of InvalidAddress)
  unfolding rust.blocking_transaction rust.validate_address
  transaction_address f = rw f

  transaction_list : ltb 0x7f address ≡ false → fault_from 0 l.list ≡ some e → program kind.Transaction ≡ stops (failure_of e)
  unfolding rust.blocking_transaction rust.validate_address rust.validate_operations
  transaction_list f q = rw f (list_refuses chip n _ l.list l.written 0 0 e (omega arith) (omega arith) q r)

  write_read_empty : eqb l.room 0 ≡ true → program kind.WriteRead ≡ stops (failure_of Overrun)
  unfolding rust.blocking_write_read
  write_read_empty f = rw f

  write_read_address : eqb l.room 0 ≡ false → ltb 0x7f address ≡ true → program kind.WriteRead ≡ stops (failure_of InvalidAddress)
  unfolding rust.blocking_write_read rust.write_bytes rust.validate_address
  write_read_address g f = rw (g, f)

  by_list : (o : Option Error) → fault_from 0 l.list ≡ o → ltb 127 address ≡ false → or_next o (refuse (mismatch l.list (length l.written) l.room) LengthMismatch none) ≡ some e
      → shown_of 0 (program kind.Transaction) answers ≡ no_more (some (failed e))
  by_list none p f q = peeled (mismatch l.list (length l.written) l.room) LengthMismatch none e q (λ _ z. added LengthMismatch e refl r z) (λ _ z. none_left e z)
  by_list (some x) p f q = at_once (program kind.Transaction) e (transaction_list f (p ∙ q)) refl

  transaction_refused : refusal_at kind.Transaction address l ≡ some e → rust_with n (call_by kind.Transaction) l answers ≡ no_more (some (failed e))
  unfolding rust_with
  transaction_refused q =
      peeled (not (shaped l.list)) InvalidArgument _ e q (λ _ z. added InvalidArgument e refl r z)
      (λ _ q. peeled (ltb 127 address) InvalidAddress _ e q (λ f z. at_once (program kind.Transaction) InvalidAddress (transaction_address f) z)
      (λ f q. peeled (ltb 768 (length l.list)) TooManyOperations _ e q (λ _ z. added TooManyOperations e refl r z)
      (λ _ q. by_list (fault_from 0 l.list) refl f q)))

  write_read_refused : refusal_at kind.WriteRead address l ≡ some e → rust_with n (call_by kind.WriteRead) l answers ≡ no_more (some (failed e))
  unfolding rust_with
  write_read_refused q =
      peeled (eqb l.room 0) Overrun _ e q (λ f z. at_once (program kind.WriteRead) Overrun (write_read_empty f) z)
      (λ g q. peeled (ltb 127 address) InvalidAddress _ e q (λ f z. at_once (program kind.WriteRead) InvalidAddress (write_read_address g f) z)
      (λ _ q. peeled (ltb 65535 (length l.written + l.room)) BufferTooLong none e q (λ _ z. added BufferTooLong e refl r z) (λ _ z. none_left e z)))

  frame_refused : (x : Kind) → refusal_at x address l ≡ some e → rust_with n (call_by x) l answers ≡ no_more (some (failed e))
  unfolding rust_with rust.blocking_read_timeout
  frame_refused kind.Transaction q = transaction_refused q
  frame_refused kind.WriteRead q = write_read_refused q
  frame_refused (kind.Write o) q =
      peeled (ltb 127 address) InvalidAddress _ e q (λ f z. at_once _ InvalidAddress (write_refuses chip address n _ l.written (rust.frame o) f) z)
      (λ _ q. peeled (ltb 65535 (length l.written)) BufferTooLong none e q (λ _ z. added BufferTooLong e refl r z) (λ _ z. none_left e z))
  frame_refused (kind.Read o) q =
      peeled (ltb 127 address) InvalidAddress _ e q (λ f z. at_once _ InvalidAddress (read_refuses chip address n _ l.room (rust.frame o) f) z)
      (λ g q. peeled (eqb l.room 0) Overrun _ e q (λ f z. at_once _ Overrun (empty_refuses chip address n _ l.room (rust.frame o) g f) z)
      (λ _ q. peeled (ltb 65535 l.room) BufferTooLong none e q (λ _ z. added BufferTooLong e refl r z) (λ _ z. none_left e z)))

pub master_refused : (c : Call) (l : Lent) (n : ℕ) (answers : List ℕ) (e : Error) → the_rusts e ≡ true → refusal c l ≡ some e → rust_with n c l answers ≡ no_more (some (failed e))
unfolding refusal
master_refused c l n answers e r q = frame_refused c.chip c.address l n answers e r c.kind q

-- ---- the clock settings' causes are added

abbrev Adds : Result Timing Error → Type 0
Adds (Ok t) = Unit {0}
Adds (Err x) = the_rusts x ≡ false

timing_adds : (chip : Chip) (input frequency : ℕ) (duty : Duty) → Adds (timing chip input frequency duty)
unfolding timing
timing_adds chip input frequency duty =
    let fast = ltb 100_000 frequency in
    chosen Adds (ltb 0 frequency && leb frequency 400_000)
    (λ _. chosen Adds (not chip.ch32v4 || leb 4 (input / 1_000_000))
    (λ _. chosen Adds (leb (max (div_ceil input (frequency * factor_of fast duty)) (floor_of fast)) 0xfff) (λ _. tt) (λ _. refl)) (λ _. refl)) (λ _. refl)

pub timing_added : {P : Type 0} (chip : Chip) (input frequency : ℕ) (duty : Duty) (e : Error) → the_rusts e ≡ true → timed_refusal (timing chip input frequency duty) ≡ some e → P
timing_added {P} chip input frequency duty e r q = go (timing chip input frequency duty) (timing_adds chip input frequency duty) q
  where
    go : (x : Result Timing Error) → Adds x → timed_refusal x ≡ some e → P
    go (Ok t) a q = none_left e q
    go (Err x) a q = let z : x ≡ e = cc in added x e a r z

-- ---- without an added cause

-- a cause of the Rust's, or one that does not hold
ours_passed : (b : Bool) (x : Error) (next : Option Error) (e : Error) → refuse b x next ≡ some e → (b ≡ true → the_rusts x ≡ true) → (next ≡ some e → the_rusts e ≡ true) → the_rusts e ≡ true
ours_passed b x next e q f g = peeled b x next e q (λ h z. ap the_rusts (sym z) ∙ f h) (λ _ q. g q)

-- a list in form whose bytes are few enough has no other fault than an empty read
fault_rusts : (l : List ℕ) (t : ℕ) (e : Error) → shaped l ≡ true → t + (written_sum (each_span (operations_of l)) + read_sum (each_span (operations_of l))) ≤ 65535 → fault_from t l ≡ some e → the_rusts e ≡ true
unfolding shaped operations_of fault_from
fault_rusts [] t e s b q = let z : ◌≡◌ {A = ℕ} 0 1 = cc in absurd (omega arith)
fault_rusts (d ∷ []) t e s b q = absurd (true≢false (sym s))
fault_rusts (d ∷ a ∷ []) t e s b q = absurd (true≢false (sym s))
fault_rusts (d ∷ a ∷ c ∷ l) t e s b q = go (ltb 1 d) s q (fault_rusts l (t + word_of a c) e)
  where
    o : Operation
    o = operation_of d a c

    bound : t + word_of a c + (written_sum (each_span (operations_of l)) + read_sum (each_span (operations_of l))) ≤ 65535
    bound = omega (arith, b, both_sums o)

    go : (large : Bool) → cond large false (shaped l) ≡ true
        → cond large (some InvalidArgument) (cond (empty_read o) (some Overrun) (cond (ltb 65535 (t + word_of a c)) (some BufferTooLong) (fault_from (t + word_of a c) l))) ≡ some e
        → (shaped l ≡ true → t + word_of a c + (written_sum (each_span (operations_of l)) + read_sum (each_span (operations_of l))) ≤ 65535 → fault_from (t + word_of a c) l ≡ some e → the_rusts e ≡ true)
        → the_rusts e ≡ true
    go true s q rest = absurd (true≢false (sym s))
    go false s q rest =
        ours_passed (empty_read o) Overrun _ e q (λ _. refl)
        (λ q. ours_passed (ltb 65535 (t + word_of a c)) BufferTooLong _ e q (λ h. absurd (true≢false (sym h ∙ le-ltb 65535 (t + word_of a c) (omega (arith, bound))))) (λ q. rest s bound q))

module _ (address : ℕ) (l : Lent) (e : Error) where
  by_kind : (x : Kind) → NoAddedCause x l → refusal_at x address l ≡ some e → the_rusts e ≡ true
  by_kind kind.WriteRead f q =
      ours_passed (eqb l.room 0) Overrun _ e q (λ _. refl)
      (λ q. ours_passed (ltb 127 address) InvalidAddress _ e q (λ _. refl)
      (λ q. ours_passed (ltb 65535 (length l.written + l.room)) BufferTooLong none e q (λ h. absurd (true≢false (sym h ∙ le-ltb 65535 (length l.written + l.room) f))) (none_left e)))
  by_kind (kind.Write o) f q =
      ours_passed (ltb 127 address) InvalidAddress _ e q (λ _. refl)
      (λ q. ours_passed (ltb 65535 (length l.written)) BufferTooLong none e q (λ h. absurd (true≢false (sym h ∙ le-ltb 65535 (length l.written) f))) (none_left e))
  by_kind (kind.Read o) f q =
      ours_passed (ltb 127 address) InvalidAddress _ e q (λ _. refl)
      (λ q. ours_passed (eqb l.room 0) Overrun _ e q (λ _. refl)
      (λ q. ours_passed (ltb 65535 l.room) BufferTooLong none e q (λ h. absurd (true≢false (sym h ∙ le-ltb 65535 l.room f))) (none_left e)))
  by_kind kind.Transaction f q =
      ours_passed (not (shaped l.list)) InvalidArgument _ e q (λ h. absurd (true≢false (sym h ∙ ap not f.shape)))
      (λ q. ours_passed (ltb 127 address) InvalidAddress _ e q (λ _. refl)
      (λ q. ours_passed (ltb 768 (length l.list)) TooManyOperations _ e q (λ h. absurd (true≢false (sym h ∙ le-ltb 768 (length l.list) f.few)))
      (λ q. by_list (fault_from 0 l.list) refl q)))
    where
      no_mismatch : mismatch l.list (length l.written) l.room ≡ false
      no_mismatch = rw (eq-eqb _ _ f.written, eq-eqb _ _ f.read)

      by_list : (o : Option Error) → fault_from 0 l.list ≡ o → or_next o (refuse (mismatch l.list (length l.written) l.room) LengthMismatch none) ≡ some e → the_rusts e ≡ true
      by_list none p q = ours_passed (mismatch l.list (length l.written) l.room) LengthMismatch none e q (λ h. absurd (true≢false (sym h ∙ no_mismatch))) (none_left e)
      by_list (some x) p q = fault_rusts l.list 0 e f.shape (omega (arith, f.written, f.read, f.total, written_runs_lem (operations_of l.list), read_runs (operations_of l.list))) (p ∙ q)

pub master_unadded : (c : Call) (l : Lent) (e : Error) → NoAddedCause c.kind l → refusal c l ≡ some e → the_rusts e ≡ true
unfolding refusal
master_unadded c l e f q = by_kind c.address l e c.kind f q

-- ---- a slave's configuration

-- 9 is the only cause that the Rust has too
pub config_faulty : (c : SlaveConfig) (e : Error) → the_rusts e ≡ true → init_refusal c ≡ some e → config_fault c ≡ true
config_faulty c e r q =
    peeled (config_fault c) InvalidAddress _ e q (λ f _. f)
    (λ _ q. peeled (config_reserved c) ReservedAddress none e q (λ _ z. added ReservedAddress e refl r z) (λ _ z. none_left e z))

pub config_unadded : (c : SlaveConfig) (e : Error) → config_reserved c ≡ false → init_refusal c ≡ some e → the_rusts e ≡ true
config_unadded c e n q =
    ours_passed (config_fault c) InvalidAddress _ e q (λ _. refl)
    (λ q. ours_passed (config_reserved c) ReservedAddress none e q (λ h. absurd (true≢false (sym h ∙ n))) (none_left e))
