-- How many status words lead to each class, on a chip, for a master (`nack`) or a slave.
use Rattle.std.specs.Prelude as prelude
use Rattle.std.specs.Prelude.{ℕ, suc, ◌-◌, ◌^◌, ◌≤◌, ◌≡◌, Bool, cond, List, [], ◌∷◌, map, eqb, length, Some, None}
use Rattle.std.proofs.Math.Option
use Rattle.std.proofs.Math.Option.{Option, none, some}
use Rattle.registers.specs.declared.chip.Chip.{Chip}
use Rattle.access.specs.declared.ending.Failure.{Failure}
use Rattle.access.specs.Endings.{error_number}
use Rattle.errors.specs.Classes.{Class, classes, error_of}
use Rattle.class_count.specs.Counting.{count_words}

-- the number of the class that was found: 0 for none
abbrev pub number_of : prelude.Option Failure → ℕ
number_of None = 0
number_of (Some f) = error_number f.error

-- THE COUNT
unfoldable pub words_of : Chip → Bool → ℕ → ℕ
words_of chip nack n = count_words (λ w. eqb n (number_of (error_of chip nack w)))

-- ---- the formula of Halving.antt for a list of classes

abbrev pub flags_in : List Class → List ℕ
flags_in cs = map (λ c. c.flag) cs

abbrev pub numbers_in : List Class → List ℕ
numbers_in cs = map (λ c. error_number c.error) cs

-- the place, from 0, of a number in a list
abbrev pub place_of : ℕ → List ℕ → Option ℕ
place_of n [] = none
place_of n (m ∷ l) = cond (eqb n m) (some 0) (Option.map suc (place_of n l))

-- what the flag of a place takes: nothing where there is none
abbrev pub taken_at : Option ℕ → ℕ
taken_at none = 0
taken_at (some k) = 2 ^ (15 - k)

abbrev pub formula_of : List Class → ℕ → ℕ
formula_of cs n = cond (eqb n 0) (2 ^ (16 - length cs)) (taken_at (place_of n (numbers_in cs)))

abbrev pub ClassesHalve : Type 0
ClassesHalve = (chip : Chip) (nack : Bool) (n : ℕ) → words_of chip nack n ≡ formula_of (classes chip nack) n

-- the classes are numbered up to 6
abbrev pub NoOtherClass : Type 0
NoOtherClass = (chip : Chip) (nack : Bool) (n : ℕ) → 7 ≤ n → words_of chip nack n ≡ 0
