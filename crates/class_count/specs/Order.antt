-- An order of flags: a list of a word's bit numbers, of which the first that is set decides.
use Rattle.std.specs.Prelude.{ℕ, suc, Bool, true, false, cond, not, ◌&&◌, ◌||◌, List, [], ◌∷◌, eqb, ltb}
use Rattle.std.proofs.Math.Option.{Option, none, some, map}
use Rattle.registers.specs.Word.{has_bit}

-- the place, from 0, of the first bit number that is set in a word
abbrev pub first_at : List ℕ → ℕ → Option ℕ
first_at [] w = none
first_at (b ∷ l) w = cond (has_bit b w) (some 0) (map suc (first_at l w))

-- that place is the k-th; there is none
abbrev pub is_at : ℕ → Option ℕ → Bool
is_at k none = false
is_at k (some j) = eqb j k

abbrev pub is_none : Option ℕ → Bool
is_none none = true
is_none (some j) = false

abbrev pub is_in : ℕ → List ℕ → Bool
is_in b [] = false
is_in b (c ∷ l) = eqb b c || is_in b l

-- none stands twice
abbrev pub are_different : List ℕ → Bool
are_different [] = true
are_different (b ∷ l) = not (is_in b l) && are_different l

abbrev pub are_below : ℕ → List ℕ → Bool
are_below k [] = true
are_below k (b ∷ l) = ltb b k && are_below k l

-- numbers of a word's bits, none twice
abbrev pub is_order : List ℕ → Bool
is_order l = are_below 16 l && are_different l
