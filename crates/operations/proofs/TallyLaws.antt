-- When all runs are passed, the tally has their sums and the run that was asked for.
-- Assumes nothing.
use Prim.Native.Nat.{ℕ, zero, suc, ◌+◌}
use mathlib.Core.Path.{◌≡◌, refl, sym, ap, ◌∙◌}
use mathlib.Core.Bool.{Bool, cond, not}
use mathlib.Core.List.{List, [], ◌∷◌}
use native.Mathlib.Nat.{add_assoc, add-zero}
use native.Mathlib.Numerals.{add-one}
use lib.Dec.{eqb-suc-suc, eqb-suc-zero}
use Rattle.std.specs.Prelude.{Option, Some, None}
use Rattle.operations.specs.declared.search.Run.{Run}
use Rattle.operations.specs.declared.search.Tally.{Tally}
use Rattle.operations.specs.Runs.{Span, written_in, read_in, written_sum, read_sum, is_empty, run_after, run_from, run_at}
use Rattle.operations.specs.Tally.{passed, passed_all, none_passed}

pub all_written : (t : Tally) (ss : List Span) → (passed_all t ss).written ≡ t.written + written_sum ss
unfolding passed_all
all_written t [] = sym (add-zero t.written)
all_written t (s ∷ ss) = all_written (passed t s (not (is_empty ss))) ss ∙ add_assoc t.written (written_in s) (written_sum ss)

pub all_read : (t : Tally) (ss : List Span) → (passed_all t ss).read ≡ t.read + read_sum ss
unfolding passed_all
all_read t [] = sym (add-zero t.read)
all_read t (s ∷ ss) = all_read (passed t s (not (is_empty ss))) ss ∙ add_assoc t.read (read_in s) (read_sum ss)

-- once it is found, it stays
found_stays : (w r : ℕ) (f : Option Run) (ss : List Span) → (passed_all (record { written = w; read = r; ahead = 0; found = f }) ss).found ≡ f
unfolding passed_all
found_stays w r f [] = refl
found_stays w r f (s ∷ ss) = found_stays (w + written_in s) (r + read_in s) f ss

found_from : (w r k : ℕ) (ss : List Span) → (passed_all (record { written = w; read = r; ahead = suc k; found = None }) ss).found ≡ run_from w r ss k
unfolding passed_all run_from
found_from w r k [] = refl
found_from w r zero (s ∷ ss) = found_stays (w + written_in s) (r + read_in s) (Some (run_after w r s ss)) ss
found_from w r (suc k) (s ∷ ss) =
    ap (λ (b : Bool). (passed_all (record { written = w + written_in s; read = r + read_in s; ahead = suc k; found = cond b (Some (run_after w r s ss)) None }) ss).found)
    (eqb-suc-suc (suc k) 0 ∙ eqb-suc-zero k)
    ∙ found_from (w + written_in s) (r + read_in s) k ss

pub all_found : (k : ℕ) (ss : List Span) → (passed_all (none_passed k) ss).found ≡ run_at ss k
all_found k ss = ap (λ (n : ℕ). (passed_all (record { written = 0; read = 0; ahead = n; found = None }) ss).found) (add-one k) ∙ found_from 0 0 k ss
