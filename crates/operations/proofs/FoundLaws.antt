-- The run of a number: where there is one it lies within the list's sums, and one follows if it says so.
-- Assumes nothing.
use Prim.Native.Nat.{ℕ, zero, suc, ◌+◌, ◌≤◌, ◌<◌}
use mathlib.Core.Path.{◌≡◌, refl, sym, ap, ◌∙◌, subst}
use mathlib.Core.Bool.{Bool, true, false, cond, true≢false}
use mathlib.Core.List.{List, [], ◌∷◌}
use native.Mathlib.Omega.{arith}
use lib.ListN.{length}
use Rattle.std.specs.Prelude.{Option, Some, None}
use Rattle.operations.specs.declared.operation.Direction.{Direction}
use Rattle.operations.specs.declared.operation.Direction.TheVariants.{Write, Read}
use Rattle.operations.specs.declared.search.Run.{Run}
use Rattle.operations.specs.Operations.{is_read}
use Rattle.operations.specs.Runs.{Span, span, written_in, read_in, written_sum, read_sum, run_after, run_from}

abbrev run_or : Run → Option Run → Run
run_or r (Some x) = x
run_or r None = r

pub same_run : {x y : Run} → Some x ≡ Some y → x ≡ y
same_run {x} e = ap (run_or x) e

abbrev is_found : Option Run → Bool
is_found (Some x) = true
is_found None = false

pub not_found : {x : Run} → None ≡ Some x → ⊥
not_found e = true≢false (sym (ap is_found e))

-- no read run is empty
abbrev pub FilledRuns : List Span → Type 0
FilledRuns [] = Unit {0}
FilledRuns (s ∷ ss) = (is_read s.direction ≡ true → 0 < s.length) × FilledRuns ss

pub found_filled : (ss : List Span) (w r k : ℕ) (x : Run) → FilledRuns ss → run_from w r ss k ≡ Some x → is_read x.direction ≡ true → 0 < x.length
unfolding run_from
found_filled [] w r k x f e = absurd (not_found e)
found_filled (s ∷ ss) w r zero x f e = subst (λ (y : Run). is_read y.direction ≡ true → 0 < y.length) (same_run e) f.0
found_filled (s ∷ ss) w r (suc k) x f e = found_filled ss (w + written_in s) (r + read_in s) k x f.1 e

pub found_small : (ss : List Span) (w r k : ℕ) (x : Run) → run_from w r ss k ≡ Some x → x.before + x.length ≤ w + written_sum ss + (r + read_sum ss)
unfolding run_from
found_small [] w r k x e = absurd (not_found e)
found_small (s ∷ ss) w r zero x e =
    subst (λ (y : Run). y.before + y.length ≤ w + (written_in s + written_sum ss) + (r + (read_in s + read_sum ss))) (same_run e) (go s.direction)
  where
    go : (d : Direction) → cond (is_read d) r w + s.length ≤ w + (written_in (span d s.length) + written_sum ss) + (r + (read_in (span d s.length) + read_sum ss))
    go Write = omega arith
    go Read = omega arith
found_small (s ∷ ss) w r (suc k) x e = omega (arith, found_small ss (w + written_in s) (r + read_in s) k x e)

pub found_below : (ss : List Span) (w r k : ℕ) (x : Run) → run_from w r ss k ≡ Some x → k < length ss
unfolding run_from
found_below [] w r k x e = absurd (not_found e)
found_below (s ∷ ss) w r zero x e = omega arith
found_below (s ∷ ss) w r (suc k) x e = omega (arith, found_below ss (w + written_in s) (r + read_in s) k x e)

pub found_next : (ss : List Span) (w r k : ℕ) (x : Run) → run_from w r ss k ≡ Some x → x.more ≡ true → (t : Run) × (run_from w r ss (suc k) ≡ Some t)
unfolding run_from
found_next [] w r k x e m = absurd (not_found e)
found_next (s ∷ []) w r zero x e m = absurd (true≢false (sym (ap (λ (y : Run). y.more) (same_run e) ∙ m)))
found_next (s ∷ t ∷ ss) w r zero x e m = (run_after (w + written_in s) (r + read_in s) t ss, refl)
found_next (s ∷ ss) w r (suc k) x e m = found_next ss (w + written_in s) (r + read_in s) k x e m
