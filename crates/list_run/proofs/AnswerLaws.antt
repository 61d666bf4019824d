-- The answer by what is known of the list.
-- Assumes nothing.
use Prim.Native.Nat.{ℕ, ◌+◌, ◌≤◌, ◌<◌}
use mathlib.Core.Path.{◌≡◌, refl, sym, ◌∙◌, subst}
use mathlib.Core.Bool.{Bool, true, false, cond, not, ◌||◌, true≢false}
use mathlib.Core.List.{List}
use mathlib.Core.Option.{Option, none, some}
use native.Mathlib.Omega.{arith}
use borrow.Author.Tests.{le-ltb, ltb-false, eq-eqb, eqb-true}
use lib.Dec.{ltb, leb, eqb}
use lib.ListN.{length, drop}
use Rattle.std.specs.Prelude.{Some, None}
use Rattle.std.specs.Prelude as prelude
use Rattle.access.specs.declared.ending.Error.{Error}
use Rattle.access.specs.declared.ending.Error.TheVariants.{InvalidAddress, TooManyOperations, LengthMismatch}
use Rattle.operations.specs.declared.search.Run.{Run}
use Rattle.operations.specs.Operations.{is_read, operations_of}
use Rattle.operations.specs.Runs.{span, runs_of, written_sum, read_sum, run_after, run_from, run_at}
use Rattle.operations.proofs.ListLaws.{no_operation}
use Rattle.operations.specs.Search.{fault_from}
use Rattle.operations.proofs.FoundLaws.{found_small}
use Rattle.operations.proofs.SumLaws.{written_runs_lem, read_runs, fault_free_small}
use Rattle.master.specs.declared.call.Kind.TheVariants as kind
use Rattle.master.specs.Calls.{cause_at, mismatch}
use Rattle.master.proofs.CallAgrees.{passed_cause, passed_list}
use Rattle.master_lent.specs.Look.{looked_with, look}
use Rattle.list_run.specs.declared.find.Found.{Found}
use Rattle.list_run.specs.declared.runs.Place.{Place}
use Rattle.list_run.specs.Passing.{fine, runs_after, direction_at, Ahead, Next, Summed}
use Rattle.list_run.specs.Answer.{found_of}
use Rattle.list_run.proofs.FineLaws.{fault_free_fine, fine_fault_free}
use Rattle.list_run.proofs.PassLaws.{more_is, written_next, read_next}

-- an acceptable list
pub record Accepts (l : List ℕ) (w r : ℕ) : Type 0 where
  pub few : length l ≤ 768
  pub sound : fine l ≡ true
  pub total : written_sum (runs_of (operations_of l)) + read_sum (runs_of (operations_of l)) ≤ 65535
  pub written : w ≡ written_sum (runs_of (operations_of l))
  pub read : r ≡ read_sum (runs_of (operations_of l))

module _ (l : List ℕ) (w r : ℕ) where
  accepts : cause_at kind.Transaction 0 l w r ≡ none → Accepts l w r
  accepts q =
      let a = passed_cause (ltb 127 0) InvalidAddress _ q in
      let b = passed_cause (ltb 768 (length l)) TooManyOperations _ a.1 in
      let c = passed_list (fault_from 0 l) _ b.1 in
      let d = passed_cause (mismatch l w r) LengthMismatch _ c.1 in
      let e = matched (eqb w (written_sum (runs_of (operations_of l)))) (eqb r (read_sum (runs_of (operations_of l)))) d.0 in
      record {
        few = ltb-false 768 (length l) b.0;
        sound = fault_free_fine l 0 c.0;
        total = omega (arith, written_runs_lem (operations_of l), read_runs (operations_of l), fault_free_small l 0 (omega arith) c.0);
        written = eqb-true w (written_sum (runs_of (operations_of l))) e.0;
        read = eqb-true r (read_sum (runs_of (operations_of l))) e.1;
      }
    where
      matched : (x y : Bool) → not x || not y ≡ false → (x ≡ true) × (y ≡ true)
      matched true true e = (refl, refl)
      matched true false e = absurd (true≢false e)
      matched false y e = absurd (true≢false e)

  accepted : Accepts l w r → cause_at kind.Transaction 0 l w r ≡ none
  accepted a =
      rw (
        le-ltb 768 (length l) a.few,
        fine_fault_free l 0 a.sound (omega (arith, written_runs_lem (operations_of l), read_runs (operations_of l), a.total)),
        eq-eqb w (written_sum (runs_of (operations_of l))) a.written,
        eq-eqb r (read_sum (runs_of (operations_of l))) a.read,
      )

  module _ (k : ℕ) where
    pub not_found : (Accepts l w r → run_at (runs_of (operations_of l)) k ≡ None) → None ≡ found_of (look kind.Transaction 0 l w r k)
    unfolding look
    not_found f = go (cause_at kind.Transaction 0 l w r) refl
      where
        go : (o : Option Error) → cause_at kind.Transaction 0 l w r ≡ o → None ≡ found_of (looked_with o (run_at (runs_of (operations_of l)) k))
        go (some e) q = refl
        go none q = rw (f (accepts q))

    pub is_found : Accepts l w r → (t : Run) → run_at (runs_of (operations_of l)) k ≡ Some t
        → Some (record { reading = is_read t.direction; length = t.length; before = t.before; more = t.more }) ≡ found_of (look kind.Transaction 0 l w r k)
    unfolding look
    is_found a t e = rw (accepted a, e)

    -- the run's numbers fit 16 bits
    pub found_fits : (x : Found) → Some x ≡ found_of (look kind.Transaction 0 l w r k) → (x.length < 65536) × (x.before < 65536)
    unfolding look
    found_fits x ex = subst Fits (sym ex) (go (cause_at kind.Transaction 0 l w r) (run_at (runs_of (operations_of l)) k) refl refl)
      where
        Fits : prelude.Option Found → Type 0
        Fits (Some x) = (x.length < 65536) × (x.before < 65536)
        Fits None = Unit {0}

        go : (o : Option Error) (f : prelude.Option Run) → cause_at kind.Transaction 0 l w r ≡ o → run_at (runs_of (operations_of l)) k ≡ f
            → Fits (found_of (looked_with o f))
        go (some e) f q e' = tt
        go none None q e' = tt
        go none (Some t) q e' =
            let small : t.before + t.length ≤ 0 + written_sum (runs_of (operations_of l)) + (0 + read_sum (runs_of (operations_of l))) = found_small (runs_of (operations_of l)) 0 0 k t e' in
            let total : written_sum (runs_of (operations_of l)) + read_sum (runs_of (operations_of l)) ≤ 65535 = (accepts q).total in
            (omega arith, omega arith)

-- ---- the places of the search

-- fewer bytes than an operation has
pub short_list : (l : List ℕ) (k : ℕ) → length l < 3 → run_at (runs_of (operations_of l)) k ≡ None
unfolding runs_of run_from
short_list l k h = rw (no_operation l 0 (omega arith))

-- p is before the run, q behind it, e at the list's end
module _ (l : List ℕ) (last k : ℕ) (p q e : Place) (a : Ahead l last k 0 p) (x : Next l p q) where
  pub rest_flawed : fine (drop q.at l) ≡ false → fine l ≡ true → run_at (runs_of (operations_of l)) k ≡ None
  rest_flawed f z = absurd (true≢false (sym z ∙ sym a.sound ∙ sym x.sound ∙ f))

  module _ (s : Summed l q e) where
    good : fine l ≡ true
    good = sym a.sound ∙ sym x.sound ∙ s.sound

    all_written : e.written ≡ written_sum (runs_of (operations_of l))
    all_written = s.written ∙ written_next l p q x (a.sound ∙ good) ∙ a.written good

    all_read : e.read ≡ read_sum (runs_of (operations_of l))
    all_read = s.read ∙ read_next l p q x (a.sound ∙ good) ∙ a.read good

    -- what the list comes to is too much, or not what is lent
    module _ (w r : ℕ) (n : Accepts l w r) where
      pub too_long : 65535 < e.written + e.read → run_at (runs_of (operations_of l)) k ≡ None
      too_long h = absurd (omega (arith, n.total, all_written, all_read))

      pub other_written : (w ≡ e.written → ⊥) → run_at (runs_of (operations_of l)) k ≡ None
      other_written h = absurd (h (n.written ∙ sym all_written))

      pub other_read : (r ≡ e.read → ⊥) → run_at (runs_of (operations_of l)) k ≡ None
      other_read h = absurd (h (n.read ∙ sym all_read))

    the_run : run_at (runs_of (operations_of l)) k ≡ Some (run_after p.written p.read (span (direction_at l p.at) q.sum) (runs_after l q.at))
    unfolding run_from
    the_run = sym (a.run good) ∙ rw (x.runs (a.sound ∙ good))

    pub answer : (w r before : ℕ) → before ≡ cond q.reading p.read p.written → e.written + e.read ≤ 65535 → w ≡ e.written → r ≡ e.read
        → Some (record { reading = q.reading; length = q.sum; before = before; more = leb q.at last }) ≡ found_of (look kind.Transaction 0 l w r k)
    answer w r before eb total ew er =
        rw (eb, x.reading, more_is l last q.at a.place.whole)
        (is_found l w r k
        (record {
          few = a.place.few;
          sound = good;
          total = omega (arith, all_written, all_read);
          written = ew ∙ all_written;
          read = er ∙ all_read;
        })
        (run_after p.written p.read (span (direction_at l p.at) q.sum) (runs_after l q.at)) the_run)
