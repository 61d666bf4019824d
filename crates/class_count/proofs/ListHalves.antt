-- The formula for a list of classes: each counts the words of its flag's place.
-- Assumes nothing.
use Prim.Native.Nat.{ℕ, suc, ◌-◌, ◌^◌, ◌<◌}
use mathlib.Core.Path.{◌≡◌, refl, sym, ap, ◌∙◌, subst}
use mathlib.Core.Bool.{Bool, true, false, cond}
use mathlib.Core.List.{List, [], ◌∷◌}
use mathlib.Core.Option.{Option, none, some, map}
use native.Mathlib.Omega.{arith}
use lib.Dec.{eqb}
use lib.ListN.{length, length-map}
use borrow.Author.Tests.{eqb-true}
use Rattle.access.proofs.Choice.{chosen}
use Rattle.errors.specs.Classes.{Class, first_of}
use Rattle.class_count.specs.Counting.{count_words}
use Rattle.class_count.specs.Order.{first_at, is_in, are_different, is_order}
use Rattle.class_count.specs.ClassWords.{number_of, flags_in, numbers_in, place_of, taken_at, formula_of}
use Rattle.class_count.proofs.CountLaws.{words_same, words_nothing}
use Rattle.class_count.proofs.DifferentLaws.{fresh, rest_different}
use Rattle.class_count.proofs.HalvingLaws.{orders_halve}
use Rattle.class_count.proofs.PlaceLaws.{is_place, never_found, none_found, class_found}

-- a place is one of the list's
Within : Option ℕ → ℕ → Type 0
Within none m = Unit {0}
Within (some k) m = k < m

within : (n : ℕ) (l : List ℕ) → Within (place_of n l) (length l)
unfolding Within
within n [] = tt
within n (m ∷ l) = chosen (λ (p : Option ℕ). Within p (suc (length l))) (eqb n m) (λ h. omega arith) (λ h. further (place_of n l) (within n l))
  where
    further : (p : Option ℕ) → Within p (length l) → Within (map suc p) (suc (length l))
    further none h = tt
    further (some k) h = omega arith

-- a list of classes with different flags and different numbers, none of them 0
pub list_halves : (cs : List Class) → is_order (flags_in cs) ≡ true → are_different (0 ∷ numbers_in cs) ≡ true
    → (n : ℕ) → count_words (λ w. eqb n (number_of (first_of cs w))) ≡ formula_of cs n
unfolding Within
list_halves cs o d n = by_number (eqb n 0) refl
  where
    taken : (p : Option ℕ) → Within p (length (numbers_in cs)) → count_words (λ w. is_place p (first_at (flags_in cs) w)) ≡ taken_at p
    taken none h = words_nothing
    taken (some k) h = (orders_halve (flags_in cs) o).flag k (subst (λ (m : ℕ). k < m) (length-map cs _ ∙ sym (length-map cs _)) h)

    by_number : (b : Bool) → eqb n 0 ≡ b → count_words (λ w. eqb n (number_of (first_of cs w))) ≡ cond b (2 ^ (16 - length cs)) (taken_at (place_of n (numbers_in cs)))
    by_number true z =
        words_same _ _ (λ w. ap (λ (x : ℕ). eqb x (number_of (first_of cs w))) (eqb-true n 0 z) ∙ none_found cs w (fresh 0 (numbers_in cs) d))
        ∙ (orders_halve (flags_in cs) o).without ∙ ap (λ (m : ℕ). 2 ^ (16 - m)) (length-map cs _)
    by_number false z =
        words_same _ _ (λ w. class_found n cs w z (rest_different 0 (numbers_in cs) d)) ∙ taken (place_of n (numbers_in cs)) (within n (numbers_in cs))

-- a number that is no class's counts no words
pub no_words : (cs : List Class) (n : ℕ) → eqb n 0 ≡ false → is_in n (numbers_in cs) ≡ false → count_words (λ w. eqb n (number_of (first_of cs w))) ≡ 0
no_words cs n z a = words_same _ _ (λ w. never_found n cs w z a) ∙ words_nothing
