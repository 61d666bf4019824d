-- Runs of what follows an open stretch.
-- Assumes nothing.
use Prim.Native.Nat.{ℕ, zero, suc, ◌+◌, ◌*◌, ◌≤◌}
use mathlib.Core.Path.{◌≡◌, refl, sym, ap, ◌∙◌}
use mathlib.Core.Bool.{Bool, true, false, cond, not, true≢false}
use mathlib.Core.List.{List, [], ◌∷◌}
use native.Mathlib.Nat.{zero-add}
use native.Mathlib.Omega.{arith}
use native.Mathlib.Decide.{ℕ_discrete}
use lib.Dec.{leb}
use lib.ListN.{length, get_or}
use borrow.Author.Tests.{leb-true, le-leb}
use Rattle.access.proofs.Choice.{first_true, second_true, both_true}
use Rattle.operations.specs.declared.operation.Direction.{Direction}
use Rattle.operations.specs.declared.operation.Direction.TheVariants.{Write, Read}
use Rattle.operations.specs.declared.operation.Operation.{Operation}
use Rattle.operations.specs.Operations.{is_read, direction_of, operations_of}
use Rattle.operations.specs.Runs.{span, same, runs_from, runs_of, is_empty}
use Rattle.operations.specs.Search.{goes_on}

pub same_self : (d : Direction) → same d d ≡ true
same_self Write = refl
same_self Read = refl

-- two numbers 0 or 1 that differ are two directions
pub turned : (a b : ℕ) → a ≤ 1 → b ≤ 1 → (b ≡ a → ⊥) → same (direction_of a) (direction_of b) ≡ false
turned zero zero p q n = absurd (n refl)
turned zero (suc zero) p q n = refl
turned (suc zero) zero p q n = refl
turned (suc zero) (suc zero) p q n = absurd (n refl)
turned zero (suc (suc b)) p q n = absurd (omega arith)
turned (suc zero) (suc (suc b)) p q n = absurd (omega arith)
turned (suc (suc a)) b p q n = absurd (omega arith)

-- a direction beside a write
pub beside_write : (a b : Direction) (r : Bool) → a ≡ Write → r ≡ is_read b → not r ≡ same a b
beside_write a b r p q = ap not q ∙ go b ∙ ap (λ (x : Direction). same x b) (sym p)
  where
    go : (b : Direction) → not (is_read b) ≡ same Write b
    go Write = refl
    go Read = refl

-- the operation at a place goes on with a run, or not, by its number
pub goes_by_number : (l : List ℕ) (at d : ℕ) (x : Direction) → d ≤ 1 → x ≡ direction_of d → goes_on l at x ≡ true → get_or l at 0 ≡ d
goes_by_number l at d x h e q =
    let small : get_or l at 0 ≤ 1 = leb-true (get_or l at 0) 1 (first_true (leb (get_or l at 0) 1) (same x (direction_of (get_or l at 0))) q) in
    by (ℕ_discrete (get_or l at 0) d) small (second_true (leb (get_or l at 0) 1) (same x (direction_of (get_or l at 0))) q)
  where
    by : Dec (get_or l at 0 ≡ d) → get_or l at 0 ≤ 1 → same x (direction_of (get_or l at 0)) ≡ true → get_or l at 0 ≡ d
    by (yes r) s t = r
    by (no n) s t = absurd (true≢false (sym t ∙ ap (λ (y : Direction). same y (direction_of (get_or l at 0))) e ∙ turned d (get_or l at 0) h s n))

pub stops_by_number : (l : List ℕ) (at d : ℕ) (x : Direction) → d ≤ 1 → x ≡ direction_of d → goes_on l at x ≡ false → get_or l at 0 ≡ d → ⊥
stops_by_number l at d x h e q r =
    true≢false
    (sym (both_true (le-leb (get_or l at 0) 1 (omega (arith, r, h))) (ap (λ (n : ℕ). same x (direction_of n)) r ∙ ap (λ (y : Direction). same y (direction_of d)) e ∙ same_self (direction_of d))) ∙ q)

-- a stretch that is begun is a run at least
pub begun : (d : Direction) (n : ℕ) (os : List Operation) → is_empty (runs_from d n os) ≡ false
unfolding runs_from
begun d n [] = refl
begun d n (o ∷ os) = go (same d o.direction) (begun d (n + o.length) os)
  where
    go : (b : Bool) → is_empty (runs_from d (n + o.length) os) ≡ false → is_empty (cond b (runs_from d (n + o.length) os) (span d n ∷ runs_from o.direction o.length os)) ≡ false
    go true h = h
    go false h = refl

-- the first operation opens a stretch
pub opens : (o : Operation) (os : List Operation) → runs_of (o ∷ os) ≡ runs_from o.direction 0 (o ∷ os)
unfolding runs_of runs_from
opens o os = rw (same_self o.direction, zero-add o.length)

-- an operation of the same direction joins it, and one of another ends it
pub joins : (n : ℕ) (o : Operation) (os : List Operation) → runs_from o.direction n (o ∷ os) ≡ runs_from o.direction (n + o.length) os
unfolding runs_from
joins n o os = rw (same_self o.direction)

pub ends_by_turn : (d : Direction) (n : ℕ) (o : Operation) (os : List Operation) → same d o.direction ≡ false → runs_from d n (o ∷ os) ≡ span d n ∷ runs_of (o ∷ os)
unfolding runs_from runs_of
ends_by_turn d n o os e = rw e

pub ends_at_end : (d : Direction) (n : ℕ) → runs_from d n [] ≡ span d n ∷ runs_of []
unfolding runs_from runs_of
ends_at_end d n = refl

-- whether a run follows is whether an operation does
pub none_follows : is_empty (runs_of []) ≡ true
unfolding runs_of
none_follows = refl

pub some_follows : (o : Operation) (os : List Operation) → is_empty (runs_of (o ∷ os)) ≡ false
unfolding runs_of
some_follows o os = begun o.direction o.length os

-- there are no more runs than operations
few_from : (d : Direction) (n : ℕ) (os : List Operation) → length (runs_from d n os) ≤ suc (length os)
unfolding runs_from
few_from d n [] = omega arith
few_from d n (o ∷ os) = go (same d o.direction) (few_from d (n + o.length) os) (few_from o.direction o.length os)
  where
    go : (b : Bool) → length (runs_from d (n + o.length) os) ≤ suc (length os) → length (runs_from o.direction o.length os) ≤ suc (length os)
        → length (cond b (runs_from d (n + o.length) os) (span d n ∷ runs_from o.direction o.length os)) ≤ suc (suc (length os))
    go true g h = omega arith
    go false g h = omega arith

pub few_runs : (os : List Operation) → length (runs_of os) ≤ length os
unfolding runs_of
few_runs [] = omega arith
few_runs (o ∷ os) = few_from o.direction o.length os

-- three bytes for each operation
pub few_operations : (l : List ℕ) → length (operations_of l) * 3 ≤ length l
unfolding operations_of
few_operations [] = omega arith
few_operations (d ∷ []) = omega arith
few_operations (d ∷ a ∷ []) = omega arith
few_operations (d ∷ a ∷ b ∷ l) = omega (arith, few_operations l)
