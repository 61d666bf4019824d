-- What the runs of a list write and read is what its operations write and read; without a fault it is 65,535 at most.
-- Assumes nothing.
use Prim.Native.Nat.{ℕ, ◌+◌, ◌≤◌}
use mathlib.Core.Path.{◌≡◌, refl, ap, ◌∙◌}
use mathlib.Core.Bool.{Bool, true, false, cond}
use mathlib.Core.List.{List, [], ◌∷◌}
use mathlib.Core.Option.{none, some}
use native.Mathlib.Nat.{add_assoc}
use native.Mathlib.Omega.{arith}
use borrow.Author.Tests.{ltb-false}
use lib.Dec.{ltb}
use Rattle.access.specs.declared.ending.Error.TheVariants.{Overrun, BufferTooLong, InvalidArgument}
use Rattle.operations.specs.declared.operation.Direction.{Direction}
use Rattle.operations.specs.declared.operation.Direction.TheVariants.{Write, Read}
use Rattle.operations.specs.declared.operation.Operation.{Operation}
use Rattle.operations.specs.Operations.{word_of, operation_of, empty_read, operations_of}
use Rattle.operations.specs.Runs.{Span, span, same, runs_from, runs_of, written_in, read_in, sum_of, written_sum, read_sum}
use Rattle.operations.specs.Search.{fault_from}

-- an operation as a stretch of its own
abbrev pub span_of : Operation → Span
span_of o = span o.direction o.length

abbrev pub each_span : List Operation → List Span
each_span [] = []
each_span (o ∷ os) = span_of o ∷ each_span os

-- a count by direction: joined operations count as much as each by itself
module _ (count : Span → ℕ) (adds : (d : Direction) (m n : ℕ) → count (span d (m + n)) ≡ count (span d m) + count (span d n)) where
  sum_from : (d : Direction) (n : ℕ) (os : List Operation) → sum_of count (runs_from d n os) ≡ count (span d n) + sum_of count (each_span os)
  unfolding runs_from
  sum_from d n [] = refl
  sum_from d n (o ∷ os) = go d o.direction (λ d n. sum_from d n os)
    where
      go : (d e : Direction) → ((d : Direction) (n : ℕ) → sum_of count (runs_from d n os) ≡ count (span d n) + sum_of count (each_span os))
          → sum_of count (cond (same d e) (runs_from d (n + o.length) os) (span d n ∷ runs_from e o.length os)) ≡ count (span d n) + (count (span e o.length) + sum_of count (each_span os))
      go Write Write rest = rest Write (n + o.length) ∙ ap (λ (x : ℕ). x + sum_of count (each_span os)) (adds Write n o.length) ∙ add_assoc (count (span Write n)) (count (span Write o.length)) (sum_of count (each_span os))
      go Read Read rest = rest Read (n + o.length) ∙ ap (λ (x : ℕ). x + sum_of count (each_span os)) (adds Read n o.length) ∙ add_assoc (count (span Read n)) (count (span Read o.length)) (sum_of count (each_span os))
      go Write Read rest = ap (λ (x : ℕ). count (span Write n) + x) (rest Read o.length)
      go Read Write rest = ap (λ (x : ℕ). count (span Read n) + x) (rest Write o.length)

  pub sum_runs : (os : List Operation) → sum_of count (runs_of os) ≡ sum_of count (each_span os)
  unfolding runs_of
  sum_runs [] = refl
  sum_runs (o ∷ os) = sum_from o.direction o.length os

written_adds : (d : Direction) (m n : ℕ) → written_in (span d (m + n)) ≡ written_in (span d m) + written_in (span d n)
written_adds Write m n = refl
written_adds Read m n = refl

read_adds : (d : Direction) (m n : ℕ) → read_in (span d (m + n)) ≡ read_in (span d m) + read_in (span d n)
read_adds Write m n = refl
read_adds Read m n = refl

pub written_runs_lem : (os : List Operation) → written_sum (runs_of os) ≡ written_sum (each_span os)
written_runs_lem = sum_runs written_in written_adds

pub read_runs : (os : List Operation) → read_sum (runs_of os) ≡ read_sum (each_span os)
read_runs = sum_runs read_in read_adds

-- written and read bytes together
pub both_sums : (o : Operation) → written_in (span_of o) + read_in (span_of o) ≡ o.length
both_sums o = go o.direction
  where
    go : (d : Direction) → written_in (span d o.length) + read_in (span d o.length) ≡ o.length
    go Write = omega arith
    go Read = omega arith

-- a list without a fault stays below the limit
pub fault_free_small : (l : List ℕ) (t : ℕ) → t ≤ 65535 → fault_from t l ≡ none → t + (written_sum (each_span (operations_of l)) + read_sum (each_span (operations_of l))) ≤ 65535
unfolding fault_from operations_of
fault_free_small [] t h e = omega arith
fault_free_small (d ∷ []) t h e = let z : ◌≡◌ {A = ℕ} 0 1 = cc in absurd (omega arith)
fault_free_small (d ∷ a ∷ []) t h e = let z : ◌≡◌ {A = ℕ} 0 1 = cc in absurd (omega arith)
fault_free_small (d ∷ a ∷ b ∷ l) t h e = go (ltb 1 d) (empty_read (operation_of d a b)) (ltb 65535 (t + word_of a b)) refl e (fault_free_small l (t + word_of a b))
  where
    go : (large empty long : Bool) → ltb 65535 (t + word_of a b) ≡ long
        → cond large (some InvalidArgument) (cond empty (some Overrun) (cond long (some BufferTooLong) (fault_from (t + word_of a b) l))) ≡ none
        → (t + word_of a b ≤ 65535 → fault_from (t + word_of a b) l ≡ none → t + word_of a b + (written_sum (each_span (operations_of l)) + read_sum (each_span (operations_of l))) ≤ 65535)
        → t + (written_in (span_of (operation_of d a b)) + written_sum (each_span (operations_of l)) + (read_in (span_of (operation_of d a b)) + read_sum (each_span (operations_of l)))) ≤ 65535
    go true y z q e rest = let z : ◌≡◌ {A = ℕ} 0 1 = cc in absurd (omega arith)
    go false true z q e rest = let z : ◌≡◌ {A = ℕ} 0 1 = cc in absurd (omega arith)
    go false false true q e rest = let z : ◌≡◌ {A = ℕ} 0 1 = cc in absurd (omega arith)
    go false false false q e rest =
        omega (arith, both_sums (operation_of d a b), rest (ltb-false 65535 (t + word_of a b) q) e)
