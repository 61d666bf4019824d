-- The formula for the classes of each chip and side.
-- Assumes nothing.
use Prim.Native.Nat.{ℕ}
use mathlib.Core.Path.{◌≡◌, refl, ap₂}
use mathlib.Core.Bool.{Bool, true, false}
use mathlib.Core.List.{List, [], ◌∷◌, map}
use native.Mathlib.Omega.{arith}
use borrow.Author.Tests.{ne_eqb}
use Rattle.registers.specs.declared.chip.Chip.{Chip}
use Rattle.errors.specs.Classes.{classes, error_of}
use Rattle.class_count.specs.Order.{are_different, are_below, is_order}
use Rattle.class_count.specs.ClassWords.{flags_in, numbers_in, words_of, formula_of, ClassesHalve, NoOtherClass}
use Rattle.class_count.proofs.DifferentLaws.{above_all}
use Rattle.class_count.proofs.ListHalves.{list_halves, no_words}

abbrev chip_of : Bool → Bool → Chip
chip_of v3 v4 = record { i2c_v3 = v3; ch32v4 = v4 }

-- what holds of the four chips, for a master and a slave, holds of all
pub by_chip : (P : Chip → Bool → Type 0)
    → P (chip_of true true) true → P (chip_of true true) false → P (chip_of true false) true → P (chip_of true false) false
    → P (chip_of false true) true → P (chip_of false true) false → P (chip_of false false) true → P (chip_of false false) false
    → (chip : Chip) (nack : Bool) → P chip nack
by_chip P a b c d e f g h chip nack = go chip.i2c_v3 chip.ch32v4 nack
  where
    go : (v3 v4 m : Bool) → P (chip_of v3 v4) m
    go true true true = a
    go true true false = b
    go true false true = c
    go true false false = d
    go false true true = e
    go false true false = f
    go false false true = g
    go false false false = h

flags_order : (chip : Chip) (nack : Bool) → is_order (flags_in (classes chip nack)) ≡ true
flags_order = by_chip (λ v m. is_order (flags_in (classes v m)) ≡ true) refl refl refl refl refl refl refl refl

numbers_different : (chip : Chip) (nack : Bool) → are_different (0 ∷ numbers_in (classes chip nack)) ≡ true
numbers_different = by_chip (λ v m. are_different (0 ∷ numbers_in (classes v m)) ≡ true) refl refl refl refl refl refl refl refl

numbers_small : (chip : Chip) (nack : Bool) → are_below 7 (numbers_in (classes chip nack)) ≡ true
numbers_small = by_chip (λ v m. are_below 7 (numbers_in (classes v m)) ≡ true) refl refl refl refl refl refl refl refl

pub classes_halve : ClassesHalve
unfolding words_of error_of
classes_halve chip nack n = list_halves (classes chip nack) (flags_order chip nack) (numbers_different chip nack) n

-- the same of several numbers
pub all_halve : (chip : Chip) (nack : Bool) (l : List ℕ) → map (words_of chip nack) l ≡ map (formula_of (classes chip nack)) l
all_halve chip nack [] = refl
all_halve chip nack (n ∷ l) = ap₂ ◌∷◌ (classes_halve chip nack n) (all_halve chip nack l)

pub no_class : NoOtherClass
unfolding words_of error_of
no_class chip nack n h = no_words (classes chip nack) n (ne_eqb n 0 (λ e. omega arith)) (above_all 7 n (numbers_in (classes chip nack)) (numbers_small chip nack) h)
