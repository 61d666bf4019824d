-- Of a number that stands nowhere in a list, and of a list in which none stands twice.
-- Assumes nothing.
use Prim.Native.Nat.{ℕ, ◌≤◌, ◌<◌}
use mathlib.Core.Path.{◌≡◌, refl}
use mathlib.Core.Bool.{true, false, not}
use mathlib.Core.List.{List, [], ◌∷◌}
use native.Mathlib.Omega.{arith}
use lib.Dec.{eqb, ltb}
use borrow.Author.Tests.{ltb-true, eqb-false, ne_eqb, not-true}
use Rattle.access.proofs.Choice.{first_true, second_true, first_false, second_false}
use Rattle.class_count.specs.Order.{is_in, are_different, are_below}

module _ (n m : ℕ) (l : List ℕ) where
  -- it is not the first, and not in the rest
  pub first_differs : is_in n (m ∷ l) ≡ false → eqb n m ≡ false
  first_differs e = first_false (eqb n m) (is_in n l) e

  pub not_first : is_in n (m ∷ l) ≡ false → n ≡ m → ⊥
  not_first e = eqb-false n m (first_differs e)

  pub not_rest : is_in n (m ∷ l) ≡ false → is_in n l ≡ false
  not_rest e = second_false (eqb n m) (is_in n l) e

module _ (n : ℕ) (l : List ℕ) where
  -- the first is not in the rest, and of the rest none stands twice
  pub fresh : are_different (n ∷ l) ≡ true → is_in n l ≡ false
  fresh d = not-true (is_in n l) (first_true (not (is_in n l)) (are_different l) d)

  pub rest_different : are_different (n ∷ l) ≡ true → are_different l ≡ true
  rest_different d = second_true (not (is_in n l)) (are_different l) d

-- a number above them all is not in the list
pub above_all : (k n : ℕ) (l : List ℕ) → are_below k l ≡ true → k ≤ n → is_in n l ≡ false
above_all k n [] a h = refl
above_all k n (m ∷ l) a h =
    let below : m < k = ltb-true m k (first_true (ltb m k) (are_below k l) a) in
    rw (ne_eqb n m (λ e. omega arith)) (above_all k n l (second_true (ltb m k) (are_below k l) a) h)
