-- An accepted call begins with a state that fits what is lent, and every step keeps it so.
-- Assumes nothing.
use mathlib.Core.Path.{◌≡◌, refl, sym, ap, ◌∙◌, subst}
use mathlib.Core.Bool.{true, true≢false}
use mathlib.Core.List.{List, [], ◌∷◌, map}
use mathlib.Core.Option.{none}
use Prim.Native.Nat.{ℕ, zero, suc, ◌+◌, ◌≤◌}
use native.Mathlib.Omega.{arith}
use lib.Dec.{eqb, ltb}
use lib.ListN.{length}
use Rattle.std.specs.Prelude.{Some}
use Rattle.access.specs.declared.ending.Error.TheVariants.{Overrun, InvalidAddress}
use Rattle.operations.specs.declared.search.Run.{Run}
use Rattle.operations.specs.Operations.{operations_of}
use Rattle.operations.specs.Runs.{Span, runs_of, run_from, run_at, written_sum, read_sum}
use Rattle.operations.proofs.RunLaws.{few_runs, few_operations}
use Rattle.operations.proofs.SumLaws.{written_runs_lem}
use Rattle.operations.proofs.FoundLaws.{FilledRuns, same_run, not_found, found_filled, found_small, found_below, found_next}
use Rattle.master.specs.declared.call.Kind.{Kind}
use Rattle.master.specs.declared.call.Kind.TheVariants as kind
use Rattle.master.specs.declared.call.Call.{Call}
use Rattle.master.specs.declared.call.Setting.{Setting}
use Rattle.master.specs.Joined.{Joined, JW, JR, joined}
use Rattle.master.specs.Calls.{Lent, cut, Accepted, refusal_at, refusal, shape_of}
use Rattle.master.specs.Claims.{StatesFit}
use Rattle.master.proofs.Counts.{next_place, positive}
use Rattle.master.proofs.LentLaws.{span_j, FilledJ, list_spans, list_filled, fault_free_filled}
use Rattle.master.proofs.CallAgrees.{passed_cause, list_passed, in_form, covered}
use Rattle.master.proofs.FitsKept.{Sound, fits_kept, fits_start}

-- joined runs without an empty read
joined_runs : (js : List Joined) → FilledJ js → FilledRuns (map span_j js)
joined_runs [] f = tt
joined_runs (JW bytes ∷ js) f = ((λ e. absurd (true≢false (sym e))), joined_runs js f.1)
joined_runs (JR n ∷ js) f = ((λ _. f.0), joined_runs js f.1)

-- runs without an empty read, few and small
sound_runs : (g : Setting) (rs : List Span) → FilledRuns rs → length rs ≤ 65535 → written_sum rs + read_sum rs ≤ 65535
    → ((k : ℕ) (r : Run) → run_at rs k ≡ Some r → r.more ≡ true → g.frame.send_start ≡ true) → Sound (record { setting = g; runs = rs })
sound_runs g rs filled few small starts =
    record {
      readable = λ k r f. found_filled rs 0 0 k r filled f;
      small = λ k r f. omega (arith, small, found_small rs 0 0 k r f);
      follows = λ k r f m. next k r f (found_next rs 0 0 k r f m);
      started = starts;
    }
  where
    next : (k : ℕ) (r : Run) → run_at rs k ≡ Some r → (t : Run) × (run_at rs (suc k) ≡ Some t) → (t : Run) × (run_at rs (Rattle.master.specs.Machine.next16 k) ≡ Some t)
    next k r f t = (t.0, ap (λ (x : ℕ). run_at rs x) (next_place k (omega (arith, few, found_below rs 0 0 k r f, found_below rs 0 0 (suc k) t.0 t.1))) ∙ t.1)

-- a single run is the last
last_alone : (s : Span) (k : ℕ) (r : Run) → run_at (s ∷ []) k ≡ Some r → r.more ≡ true → ⊥
unfolding run_from
last_alone s zero r f m = true≢false (sym (ap (λ (y : Run). y.more) (same_run f) ∙ m))
last_alone s (suc k) r f m = not_found f

module _ (c : Call) (l : Lent) where
  abbrev call : Kind → Call
  call x = record { chip = c.chip; address = c.address; kind = x }

  sound_list : refusal_at kind.Transaction c.address l ≡ none → Sound (shape_of (call kind.Transaction) l)
  sound_list q =
      let f = in_form c.address l q in
      let os = operations_of l.list in
      sound_runs _ (runs_of os)
      (subst FilledRuns (list_spans os l.written (omega (arith, f.written, written_runs_lem os))) (joined_runs (joined (cut os l.written)) (list_filled os l.written (fault_free_filled l.list 0 (list_passed c.address l q)))))
      (omega (arith, few_runs os, few_operations l.list, f.few))
      (omega (arith, f.written, f.read, f.total))
      (λ _ _ _ _. refl)

  sound_by_kind : (x : Kind) → refusal_at x c.address l ≡ none → Sound (shape_of (call x) l)
  sound_by_kind kind.Transaction q = sound_list q
  sound_by_kind kind.WriteRead q =
      let n = covered c.address kind.WriteRead l q in
      let p = positive l.room (passed_cause (eqb l.room 0) Overrun _ q).0 in
      sound_runs _ _ ((λ e. absurd (true≢false (sym e))), ((λ _. p), tt)) (omega arith) (omega (arith, n)) (λ _ _ _ _. refl)
  sound_by_kind (kind.Write o) q =
      let n = covered c.address (kind.Write o) l q in
      sound_runs _ _ ((λ e. absurd (true≢false (sym e))), tt) (omega arith) (omega (arith, n)) (λ k r f m. absurd (last_alone _ k r f m))
  sound_by_kind (kind.Read o) q =
      let n = covered c.address (kind.Read o) l q in
      let p = positive l.room (passed_cause (eqb l.room 0) Overrun _ (passed_cause (ltb 127 c.address) InvalidAddress _ q).1).0 in
      sound_runs _ _ ((λ _. p), tt) (omega arith) (omega (arith, n)) (λ k r f m. absurd (last_alone _ k r f m))

  accepted_sound : Accepted c l → Sound (shape_of c l)
  unfolding refusal
  accepted_sound q = sound_by_kind c.kind q

pub states_fit : StatesFit
states_fit =
    record {
      begins = λ c l q. fits_start (shape_of c l) (accepted_sound c l q);
      kept = λ c l q m a. fits_kept (shape_of c l) (accepted_sound c l q) m a;
    }
