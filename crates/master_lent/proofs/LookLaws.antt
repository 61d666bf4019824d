-- The run of a number, where a call has one run or two.
-- Assumes nothing.
use mathlib.Core.Path.{◌≡◌, refl, sym, ap}
use mathlib.Core.Bool.{false}
use mathlib.Core.List.{List, [], ◌∷◌}
use Prim.Native.Nat.{ℕ, zero, suc}
use Rattle.std.specs.Prelude.{Some, None}
use Rattle.operations.specs.declared.operation.Direction.{Direction}
use Rattle.operations.specs.declared.operation.Direction.TheVariants as direction
use Rattle.operations.specs.Runs.{Span, span, run_after, run_from, run_at}

pub first_run : (s : Span) (ss : List Span) (k : ℕ) → k ≡ 0 → Some (run_after 0 0 s ss) ≡ run_at (s ∷ ss) k
unfolding run_from
first_run s ss k e = ap (λ (k : ℕ). run_at (s ∷ ss) k) (sym e)

pub only_run : (d : Direction) (n k : ℕ) → k ≡ 0 → Some (record { direction = d; length = n; before = 0; more = false }) ≡ run_at (span d n ∷ []) k
unfolding run_from
only_run direction.Write n k e = first_run (span direction.Write n) [] k e
only_run direction.Read n k e = first_run (span direction.Read n) [] k e

pub second_run : (a b : ℕ) (k : ℕ) → k ≡ 1 → Some (run_after a 0 (span direction.Read b) []) ≡ run_at (span direction.Write a ∷ span direction.Read b ∷ []) k
unfolding run_from
second_run a b k e = ap (λ (k : ℕ). run_at (span direction.Write a ∷ span direction.Read b ∷ []) k) (sym e)

pub no_second : (s : Span) (k : ℕ) → (k ≡ 0 → ⊥) → None ≡ run_at (s ∷ []) k
unfolding run_from
no_second s zero n = absurd (n refl)
no_second s (suc k) n = refl

pub no_third : (s t : Span) (k : ℕ) → (k ≡ 0 → ⊥) → (k ≡ 1 → ⊥) → None ≡ run_at (s ∷ t ∷ []) k
unfolding run_from
no_third s t zero n m = absurd (n refl)
no_third s t (suc zero) n m = absurd (m refl)
no_third s t (suc (suc k)) n m = refl
