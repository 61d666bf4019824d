-- Windows at the edges, with what is found in them.
use Rattle.std.specs.Prelude.{ℕ, List, [], ◌∷◌, Option, Some, None}
use Rattle.speed_window.specs.declared.pair.Pair.{Pair}
use Rattle.speed_window.specs.Pairs.{Right, Finds}
use Rattle.speed_window.specs.Formula.{pair}

pub record Row : Type 0 where
  pub input : ℕ
  pub lowest : ℕ
  pub highest : ℕ
  pub answer : Option Pair

abbrev pub row : ℕ → ℕ → ℕ → Option Pair → Row
row input lowest highest answer = record { input = input; lowest = lowest; highest = highest; answer = answer }

abbrev pub edges : List Row
edges =
    -- document 02's kind of window
    row 36_000_000 95_000 100_000 (Some (pair 2 180))
    -- both ends in it: exactly 100,000 is factor 2's, exactly 400,000 is factor 3's
    ∷ row 36_000_000 100_000 100_000 (Some (pair 2 180)) ∷ row 36_000_000 400_000 400_000 (Some (pair 3 30))
    -- 100,000 is no speed of factor 3, nor with divider 3 of factor 2; 100,001 is factor 3's
    ∷ row 300_000 100_000 100_000 None ∷ row 600_000 100_000 100_000 None ∷ row 300_003 100_001 100_001 (Some (pair 3 1)) ∷ row 36_000_000 100_001 100_001 None
    -- 400,000 is the top, and 4 and 4095 are the ends of factor 2's dividers
    ∷ row 1_200_000 0 4_294_967_295 (Some (pair 3 1)) ∷ row 1_200_001 0 4_294_967_295 (Some (pair 3 2)) ∷ row 1_200_003 400_001 400_001 None
    ∷ row 8 0 1 (Some (pair 2 4)) ∷ row 81_900_000 0 10_000 (Some (pair 2 4095)) ∷ row 81_900_001 0 10_000 None
    -- among equals the smaller factor: 3 × 25 for 25 × 3
    ∷ row 30_000_000 400_000 400_000 (Some (pair 3 25)) ∷ row 10_000_000 400_000 400_000 (Some (pair 25 1))
    -- between two speeds, 387,096 and a bit and 400,000; and one hertz around the lower
    ∷ row 36_000_000 387_097 399_999 None ∷ row 36_000_000 387_096 387_097 (Some (pair 3 31))
    -- an input clock of 0 makes a speed of 0 alone
    ∷ row 0 0 0 (Some (pair 2 4)) ∷ row 0 0 400_000 (Some (pair 2 4)) ∷ row 0 1 400_000 None ∷ row 36_000_000 0 0 None
    -- the largest
    ∷ row 4_294_967_295 0 400_000 (Some (pair 3 3580)) ∷ row 4_294_967_295 0 100_000 None ∷ row 4_294_967_295 4_294_967_295 4_294_967_295 None
    -- upside down
    ∷ row 36_000_000 100_000 95_000 None ∷ row 36_000_000 400_000 399_999 None ∷ []

-- each row's answer is right and best, or no pair is right
abbrev pub AllFound : List Row → Type 0
AllFound [] = Unit {0}
AllFound (r ∷ rows) = Finds r.input (Right r.input r.lowest r.highest) r.answer × AllFound rows
