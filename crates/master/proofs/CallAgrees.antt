-- The calls of the master show what the Rust shows: every kind, refused calls included.
-- Assumes nothing.
use Rattle.std.specs.Prelude.{Err}
use mathlib.Core.Path.{◌≡◌, refl, sym, ap, ◌∙◌}
use mathlib.Core.Bool.{Bool, true, false, cond, not, ◌||◌, true≢false}
use mathlib.Core.List.{List, [], ◌∷◌, map, append-nil}
use mathlib.Core.Option.{Option, none, some}
use Prim.Native.Nat.{ℕ, suc, pred, ◌+◌, ◌≤◌, ◌<◌}
use native.Mathlib.Nat.{zero-add}
use native.Mathlib.Omega.{arith}
use borrow.Author.Tests.{le-ltb, eq-eqb, ltb-false, eqb-true, not-false}
use lib.Dec.{eqb, ltb}
use lib.ListN.{length, length-map}
use Rattle.registers.specs.declared.chip.Chip.{Chip}
use Rattle.access.specs.declared.ending.Error.{Error}
use Rattle.access.specs.declared.ending.Error.TheVariants.{Overrun, BufferTooLong, InvalidAddress, TooManyOperations, LengthMismatch, InvalidArgument}
use Rattle.access.specs.declared.ending.Failure.{Failure}
use Rattle.access.specs.Endings.{done, failure_of}
use Rattle.access.specs.Program.{Program, finish}
use Rattle.access.specs.Record.{Shown, shown_of}
use Rattle.access.specs.Machine.{shown_from}
use Rattle.access.proofs.Agreement.{ends}
use Rattle.operations.specs.declared.operation.Operation.{Operation}
use Rattle.operations.specs.Operations.{operations_of, shaped}
use Rattle.operations.specs.Runs.{Span, runs_of, run_from, run_at, written_sum, read_sum}
use Rattle.operations.specs.Search.{fault_from}
use Rattle.operations.proofs.RunLaws.{few_runs, few_operations}
use Rattle.operations.proofs.SumLaws.{each_span, written_runs_lem, read_runs, fault_free_small}
use Rattle.master.specs.declared.call.FrameOptions.{FrameOptions}
use Rattle.master.specs.declared.call.Frame.{Frame}
use Rattle.master.specs.declared.call.Kind.{Kind}
use Rattle.master.specs.declared.call.Kind.TheVariants as kind
use Rattle.master.specs.declared.call.Call.{Call}
use Rattle.master.specs.Rust as rust
use Rattle.master.specs.Ours as ours
use Rattle.master.specs.Joined.{Joined, JW, JR, framed, joined, runs_program}
use Rattle.master.specs.Machine.{Shape, counted, fresh, master, start, owed}
use Rattle.master.specs.Calls.{Lent, cut, refuse, or_next, mismatch, refusal_at, refusal, InForm, NoAddedCause, Accepted, shape_of, seen_after, call_shown, ours_with}
use Rattle.master.specs.Claims.{MasterIsOurs}
use Rattle.master.proofs.Counts.{positive, suc_of}
use Rattle.master.proofs.MasterAgrees.{write_bytes_agrees, blocking_read_iter_agrees}
use Rattle.master.proofs.Joining.{seven_bits, transaction_joins}
use Rattle.master.proofs.LentLaws.{span_j, bytes_j, FilledJ, list_spans, list_bytes, list_filled, verdict, validate_operations_agrees, fault_free_filled}
use Rattle.master.proofs.RunsAgree.{resumes, runs_agree}

-- what follows an error in a whole call, and its answer
abbrev h : Failure → Program
h x = finish (Err x)

abbrev k : Unit {0} → Program
k _ = finish done

-- a cause of the Rust: where it holds, the program is the refusal
refused_as : (c : Call) (l : Lent) (answers : List ℕ) (b : Bool) (e : Error) (next : Option Error) (p : Program) → (b ≡ true → p ≡ h (failure_of e))
    → (b ≡ false → seen_after next c l answers ≡ shown_of 0 p answers) → seen_after (refuse b e next) c l answers ≡ shown_of 0 p answers
refused_as c l answers true e next p q f = ap (λ p. shown_of 0 p answers) (sym (q refl))
refused_as c l answers false e next p q f = f refl

-- the program's first test is this cause
refused_first : (c : Call) (l : Lent) (answers : List ℕ) (b : Bool) (e : Error) (next : Option Error) (p : Program)
    → (b ≡ false → seen_after next c l answers ≡ shown_of 0 p answers) → seen_after (refuse b e next) c l answers ≡ shown_of 0 (cond b (h (failure_of e)) p) answers
refused_first c l answers true e next p f = refl
refused_first c l answers false e next p f = f refl

-- an added cause, which does not hold
not_refused : (c : Call) (l : Lent) (answers : List ℕ) (b : Bool) (e : Error) (next : Option Error) (r : Shown) → b ≡ false → seen_after next c l answers ≡ r → seen_after (refuse b e next) c l answers ≡ r
not_refused c l answers b e next r q f = ap (λ (b : Bool). seen_after (refuse b e next) c l answers) q ∙ f

-- the verdict on a list
list_refused : (c : Call) (l : Lent) (answers : List ℕ) (o next : Option Error) (p : Unit {0} → Program)
    → (o ≡ none → seen_after next c l answers ≡ shown_of 0 (p tt) answers) → seen_after (or_next o next) c l answers ≡ shown_of 0 (verdict o h p) answers
list_refused c l answers none next p f = f refl
list_refused c l answers (some e) next p f = refl

-- the refusals of the Rust's frames
module _ (chip : Chip) (address : ℕ) (f : Frame) (n : ℕ) where
  write_refuses : (bs : List ℕ) (m : Unit {0} → Program) → ltb 0x7f address ≡ true → ours.write_bytes chip address bs f n h m ≡ h (failure_of InvalidAddress)
  unfolding rust.write_bytes rust.validate_address
  write_refuses bs m e = rw e

  read_refuses : (size : ℕ) → ltb 0x7f address ≡ true → ours.blocking_read_iter chip address size f n h k ≡ h (failure_of InvalidAddress)
  unfolding rust.blocking_read_iter rust.validate_address
  read_refuses size e = rw e

  read_refuses_empty : (size : ℕ) → ltb 0x7f address ≡ false → eqb size 0 ≡ true → ours.blocking_read_iter chip address size f n h k ≡ h (failure_of Overrun)
  unfolding rust.blocking_read_iter rust.validate_address
  read_refuses_empty size ok e = rw (ok, e)

module _ (chip : Chip) (address : ℕ) (l : Lent) (n : ℕ) (answers : List ℕ) (enough : length answers < n) where
  abbrev call : Kind → Call
  call x = record { chip = chip; address = address; kind = x }

  -- ---- runs with a START each

  module _ (js : List Joined) (ok : ltb 0x7f address ≡ false) (short : length l.written ≤ 65535) where
    abbrev runs_shape : List Span → Shape
    runs_shape runs = record { setting = record { chip = chip; address = address; frame = framed true true }; runs = runs }

    starts : start (runs_shape (map span_j js)) ≡ resumes js fresh
    unfolding run_from
    starts = go js
      where
        go : (js : List Joined) → start (runs_shape (map span_j js)) ≡ resumes js fresh
        go [] = refl
        go (JW bs ∷ js) = refl
        go (JR m ∷ js) = refl

    runs_shown : bytes_j js ≡ l.written → FilledJ js → length js ≤ 65536 → read_sum (map span_j js) ≤ 65535
        → shown_from (master (runs_shape (map span_j js))) l.written (start (runs_shape (map span_j js))) answers ≡ shown_of 0 (runs_program chip (ours.ours chip) address js n h k) answers
    runs_shown bytes filled few small =
        ap (λ s. shown_from (master (runs_shape (map span_j js))) l.written s answers) starts
        ∙ (runs_agree chip address ok (map span_j js) l.written short js n 0 0 0 fresh
        (record { number = refl; ending = refl; list = λ k. ap (λ (x : ℕ). run_at (map span_j js) x) (zero-add k); left = sym bytes; filled = filled; few = omega arith; small = omega arith })
        ).same answers enough

  blocking_write_read_agrees : NoAddedCause kind.WriteRead l → call_shown (call kind.WriteRead) l answers ≡ ours_with n (call kind.WriteRead) l answers
  unfolding call_shown refusal ours_with rust.blocking_write_read rust.blocking_read_timeout runs_program
  blocking_write_read_agrees small =
      refused_first (call kind.WriteRead) l answers (eqb l.room 0) Overrun _ _ (λ e.
      refused_as (call kind.WriteRead) l answers (ltb 0x7f address) InvalidAddress _ _ (write_refuses chip address (framed true false) n l.written _) (λ ok.
      not_refused (call kind.WriteRead) l answers _ BufferTooLong none _ (le-ltb 65535 (length l.written + l.room) small)
      (runs_shown (JW l.written ∷ JR l.room ∷ []) ok (omega (arith, small)) (append-nil l.written) (tt, (positive l.room e, tt)) (omega arith) (omega (arith, small)))))

  -- ---- the list

  module _ (f : InForm l) where
    abbrev operations : List Operation
    operations = operations_of l.list

    abbrev js : List Joined
    js = joined (cut operations l.written)

    written_is : written_sum (each_span operations) ≡ length l.written
    written_is = sym (f.written ∙ written_runs_lem operations)

    spans : map span_j js ≡ runs_of operations
    spans = list_spans operations l.written (omega (arith, written_is))

    short : length l.written ≤ 65535
    short = omega (arith, f.total)

    few : length js ≤ 65536
    few = omega (arith, length-map js span_j, ap (λ (runs : List Span). length runs) spans, few_runs operations, few_operations l.list, f.few)

    small : read_sum (map span_j js) ≤ 65535
    small = omega (arith, ap (λ (runs : List Span). read_sum runs) spans, f.read, f.total)

    no_mismatch : mismatch l.list (length l.written) l.room ≡ false
    no_mismatch = rw (eq-eqb _ _ f.written, eq-eqb _ _ f.read)

    sum_small : 0 + (written_sum (each_span operations) + read_sum (each_span operations)) ≤ 65535
    sum_small = omega (arith, written_is, f.read, read_runs operations, f.total)

    -- what an accepted list comes to
    list_shown : ltb 0x7f address ≡ false → fault_from 0 l.list ≡ none
        → seen_after none (call kind.Transaction) l answers ≡ shown_of 0 (ours.transact chip address (length (cut operations l.written)) (cut operations l.written) n h k) answers
    list_shown ok clean =
        ap (λ (runs : List Span). shown_from (master (runs_shape js ok short runs)) l.written (start (runs_shape js ok short runs)) answers) (sym spans)
        ∙ runs_shown js ok short (list_bytes operations l.written written_is) (list_filled operations l.written (fault_free_filled l.list 0 clean)) few small
        ∙ ap (λ p. shown_of 0 p answers) (sym (transaction_joins chip (ours.ours chip) address (seven_bits chip address ok) n h k (length (cut operations l.written)) (cut operations l.written) (omega arith)))

    blocking_transaction_agrees : call_shown (call kind.Transaction) l answers ≡ ours_with n (call kind.Transaction) l answers
    unfolding call_shown refusal ours_with rust.blocking_transaction rust.validate_address rust.validate_operations
    blocking_transaction_agrees =
        not_refused (call kind.Transaction) l answers _ InvalidArgument _ _ (ap not f.shape)
        (refused_first (call kind.Transaction) l answers (ltb 0x7f address) InvalidAddress _ _ (λ ok.
        not_refused (call kind.Transaction) l answers _ TooManyOperations _ _ (le-ltb 768 (length l.list) f.few)
        (list_refused (call kind.Transaction) l answers (fault_from 0 l.list) _ _ (λ clean.
        not_refused (call kind.Transaction) l answers _ LengthMismatch none _ no_mismatch (list_shown ok clean))
        ∙ ap (λ p. shown_of 0 p answers) (sym (validate_operations_agrees chip n h _ l.list l.written 0 f.shape (omega (arith, written_is)) sum_small)))))

  -- ---- frames

  blocking_write_agrees : (o : FrameOptions) → NoAddedCause (kind.Write o) l → call_shown (call (kind.Write o)) l answers ≡ ours_with n (call (kind.Write o)) l answers
  unfolding call_shown refusal ours_with run_from owed
  blocking_write_agrees o small =
      refused_as (call (kind.Write o)) l answers (ltb 0x7f address) InvalidAddress _ _ (write_refuses chip address (rust.frame o) n l.written k) (λ ok.
      not_refused (call (kind.Write o)) l answers _ BufferTooLong none _ (le-ltb 65535 (length l.written) small)
      ((write_bytes_agrees (shape_of (call (kind.Write o)) l) l.written ok n 0 k l.written [] 0 fresh refl small (sym (append-nil l.written)) (λ v q _. ends done refl)).same answers enough))

  read_shown : (o : FrameOptions) → ltb 0x7f address ≡ false → l.room ≤ 65535 → (m : ℕ) → l.room ≡ suc m
      → seen_after none (call (kind.Read o)) l answers ≡ shown_of 0 (ours.blocking_read_iter chip address l.room (rust.frame o) n h k) answers
  unfolding run_from owed
  read_shown o ok small m e =
      (blocking_read_iter_agrees (shape_of (call (kind.Read o)) l) l.written ok n 0 k m fresh (ap (λ (x : ℕ). counted true x 0 fresh) e) (omega arith) (λ v. ends done refl)).same answers enough
      ∙ ap (λ (x : ℕ). shown_of 0 (ours.blocking_read_iter chip address x (rust.frame o) n h k) answers) (sym e)

  blocking_read_agrees : (o : FrameOptions) → NoAddedCause (kind.Read o) l → call_shown (call (kind.Read o)) l answers ≡ ours_with n (call (kind.Read o)) l answers
  unfolding call_shown refusal ours_with rust.blocking_read_timeout
  blocking_read_agrees o small =
      refused_as (call (kind.Read o)) l answers (ltb 0x7f address) InvalidAddress _ _ (read_refuses chip address (rust.frame o) n l.room) (λ ok.
      refused_as (call (kind.Read o)) l answers (eqb l.room 0) Overrun _ _ (read_refuses_empty chip address (rust.frame o) n l.room ok) (λ e.
      not_refused (call (kind.Read o)) l answers _ BufferTooLong none _ (le-ltb 65535 l.room small)
      (read_shown o ok small (pred l.room) (suc_of l.room (positive l.room e)))))

-- ---- the master is the Rust

same_by_kind : (chip : Chip) (address : ℕ) (x : Kind) (l : Lent) → NoAddedCause x l → (turns : ℕ) (answers : List ℕ) → length answers < turns
    → call_shown (record { chip = chip; address = address; kind = x }) l answers ≡ ours_with turns (record { chip = chip; address = address; kind = x }) l answers
same_by_kind chip address kind.Transaction l f turns answers q = blocking_transaction_agrees chip address l turns answers q f
same_by_kind chip address kind.WriteRead l f turns answers q = blocking_write_read_agrees chip address l turns answers q f
same_by_kind chip address (kind.Write o) l f turns answers q = blocking_write_agrees chip address l turns answers q o f
same_by_kind chip address (kind.Read o) l f turns answers q = blocking_read_agrees chip address l turns answers q o f

-- ---- an accepted call has no added cause

-- a cause that is passed does not hold, and what follows passes too
pub passed_cause : (b : Bool) (e : Error) (next : Option Error) → refuse b e next ≡ none → (b ≡ false) × (next ≡ none)
passed_cause true e next q = let z : ◌≡◌ {A = ℕ} 0 1 = cc in absurd (omega arith)
passed_cause false e next q = (refl, q)

pub passed_list : (o next : Option Error) → or_next o next ≡ none → (o ≡ none) × (next ≡ none)
passed_list none next q = (refl, q)
passed_list (some e) next q = let z : ◌≡◌ {A = ℕ} 0 1 = cc in absurd (omega arith)

both_hold : (a b : Bool) → not a || not b ≡ false → (a ≡ true) × (b ≡ true)
both_hold true true q = (refl, refl)
both_hold true false q = absurd (true≢false q)
both_hold false b q = absurd (true≢false q)

-- the list has no fault
pub list_passed : (address : ℕ) (l : Lent) → refusal_at kind.Transaction address l ≡ none → fault_from 0 l.list ≡ none
list_passed address l q =
    let a = passed_cause (not (shaped l.list)) InvalidArgument _ q in
    let b = passed_cause (ltb 127 address) InvalidAddress _ a.1 in
    let c = passed_cause (ltb 768 (length l.list)) TooManyOperations _ b.1 in
    (passed_list (fault_from 0 l.list) _ c.1).0

pub in_form : (address : ℕ) (l : Lent) → refusal_at kind.Transaction address l ≡ none → InForm l
in_form address l q =
    let a = passed_cause (not (shaped l.list)) InvalidArgument _ q in
    let b = passed_cause (ltb 127 address) InvalidAddress _ a.1 in
    let c = passed_cause (ltb 768 (length l.list)) TooManyOperations _ b.1 in
    let d = passed_list (fault_from 0 l.list) _ c.1 in
    let e = passed_cause (mismatch l.list (length l.written) l.room) LengthMismatch none d.1 in
    let m = both_hold (eqb (length l.written) (written_sum (runs_of (operations_of l.list)))) (eqb l.room (read_sum (runs_of (operations_of l.list)))) e.0 in
    let w : length l.written ≡ written_sum (runs_of (operations_of l.list)) = eqb-true _ _ m.0 in
    let r : l.room ≡ read_sum (runs_of (operations_of l.list)) = eqb-true _ _ m.1 in
    record {
      shape = not-false _ a.0;
      few = ltb-false 768 (length l.list) c.0;
      written = w;
      read = r;
      total = omega (arith, written_runs_lem (operations_of l.list), read_runs (operations_of l.list), fault_free_small l.list 0 (omega arith) d.0);
    }

pub covered : (address : ℕ) (x : Kind) (l : Lent) → refusal_at x address l ≡ none → NoAddedCause x l
covered address kind.Transaction l q = in_form address l q
covered address kind.WriteRead l q =
    let a = passed_cause (eqb l.room 0) Overrun _ q in
    let b = passed_cause (ltb 127 address) InvalidAddress _ a.1 in
    ltb-false 65535 (length l.written + l.room) (passed_cause (ltb 65535 (length l.written + l.room)) BufferTooLong none b.1).0
covered address (kind.Write o) l q =
    let a = passed_cause (ltb 127 address) InvalidAddress _ q in
    ltb-false 65535 (length l.written) (passed_cause (ltb 65535 (length l.written)) BufferTooLong none a.1).0
covered address (kind.Read o) l q =
    let a = passed_cause (ltb 127 address) InvalidAddress _ q in
    let b = passed_cause (eqb l.room 0) Overrun _ a.1 in
    ltb-false 65535 l.room (passed_cause (ltb 65535 l.room) BufferTooLong none b.1).0

accepted_covered : (c : Call) (l : Lent) → Accepted c l → NoAddedCause c.kind l
unfolding refusal
accepted_covered c l q = covered c.address c.kind l q

pub master_is_ours : MasterIsOurs
master_is_ours =
    record {
      same = λ c l. same_by_kind c.chip c.address c.kind l;
      covers = accepted_covered;
    }
