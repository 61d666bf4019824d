-- Document 01's run: a longest stretch of one direction.
use Rattle.std.specs.Prelude.{ℕ, zero, suc, ◌+◌, Bool, true, false, cond, not, List, [], ◌∷◌, Option, Some, None}
use Rattle.operations.specs.declared.operation.Direction.{Direction}
use Rattle.operations.specs.declared.operation.Direction.TheVariants.{Write, Read}
use Rattle.operations.specs.declared.operation.Operation.{Operation}
use Rattle.operations.specs.declared.search.Run.{Run}
use Rattle.operations.specs.declared.search.Sums.{Sums}
use Rattle.operations.specs.Operations.{is_read}

-- a direction, and the sum of the lengths
pub record Span : Type 0 where
  pub direction : Direction
  pub length : ℕ

abbrev pub span : Direction → ℕ → Span
span d n = record { direction = d; length = n }

abbrev pub same : Direction → Direction → Bool
same Write Write = true
same Write Read = false
same Read Write = false
same Read Read = true

-- the runs of what follows a stretch of n bytes that is not ended yet
unfoldable pub runs_from : Direction → ℕ → List Operation → List Span
runs_from d n [] = span d n ∷ []
runs_from d n (o ∷ os) = cond (same d o.direction) (runs_from d (n + o.length) os) (span d n ∷ runs_from o.direction o.length os)

unfoldable pub runs_of : List Operation → List Span
runs_of [] = []
runs_of (o ∷ os) = runs_from o.direction o.length os

abbrev pub is_empty {ℓ} : {A : Type ℓ} → List A → Bool
is_empty [] = true
is_empty (x ∷ xs) = false

-- the bytes that a run writes, and those that it reads
abbrev pub written_in : Span → ℕ
written_in s = cond (is_read s.direction) 0 s.length

abbrev pub read_in : Span → ℕ
read_in s = cond (is_read s.direction) s.length 0

abbrev pub sum_of : (Span → ℕ) → List Span → ℕ
sum_of count [] = 0
sum_of count (s ∷ ss) = count s + sum_of count ss

abbrev pub written_sum : List Span → ℕ
written_sum ss = sum_of written_in ss

abbrev pub read_sum : List Span → ℕ
read_sum ss = sum_of read_in ss

abbrev pub sums_of : List Span → Sums
sums_of ss = record { written = written_sum ss; read = read_sum ss }

-- a run before which w bytes are written and r are read
abbrev pub run_after : ℕ → ℕ → Span → List Span → Run
run_after w r s rest = record { direction = s.direction; length = s.length; before = cond (is_read s.direction) r w; more = not (is_empty rest) }

-- the run of number k, where w bytes are written and r are read before the first of these
unfoldable pub run_from : ℕ → ℕ → List Span → ℕ → Option Run
run_from w r [] k = None
run_from w r (s ∷ ss) zero = Some (run_after w r s ss)
run_from w r (s ∷ ss) (suc k) = run_from (w + written_in s) (r + read_in s) ss k

abbrev pub run_at : List Span → ℕ → Option Run
run_at ss k = run_from 0 0 ss k
