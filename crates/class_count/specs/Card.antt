-- THE SUPPORT CARD: on each chip, for a master and a slave, how many of the 65,536 status words lead to each class.
use Rattle.std.specs.Prelude.{ℕ, ◌+◌, ◌≡◌, Bool, true, false, List, [], ◌∷◌, map}
use Rattle.registers.specs.declared.chip.Chip.{Chip}
use Rattle.registers.specs.Chips.{chips}
use Rattle.class_count.specs.ClassWords.{words_of}

-- Arbitration, Bus, Timeout, Crc, Overrun, Nack and none: the order of decision with both flags
abbrev pub card_classes : List ℕ
card_classes = 2 ∷ 1 ∷ 4 ∷ 5 ∷ 6 ∷ 3 ∷ 0 ∷ []

abbrev pub card_row : Chip → Bool → List ℕ
card_row chip nack = map (words_of chip nack) card_classes

-- a master's and a slave's
abbrev pub card_rows : Chip → List (List ℕ)
card_rows chip = card_row chip true ∷ card_row chip false ∷ []

-- chip 0, with neither flag; 1, i2c_v3; 2, ch32v4; 3, both, with document 02's numbers
abbrev pub CardHolds : Type 0
CardHolds =
    map card_rows chips
    ≡ ((32768 ∷ 0 ∷ 0 ∷ 16384 ∷ 8192 ∷ 4096 ∷ 4096 ∷ []) ∷ (32768 ∷ 0 ∷ 0 ∷ 16384 ∷ 8192 ∷ 0 ∷ 8192 ∷ []) ∷ [])
    ∷ ((32768 ∷ 0 ∷ 16384 ∷ 8192 ∷ 4096 ∷ 2048 ∷ 2048 ∷ []) ∷ (32768 ∷ 0 ∷ 16384 ∷ 8192 ∷ 4096 ∷ 0 ∷ 4096 ∷ []) ∷ [])
    ∷ ((32768 ∷ 16384 ∷ 0 ∷ 8192 ∷ 4096 ∷ 2048 ∷ 2048 ∷ []) ∷ (32768 ∷ 16384 ∷ 0 ∷ 8192 ∷ 4096 ∷ 0 ∷ 4096 ∷ []) ∷ [])
    ∷ ((32768 ∷ 16384 ∷ 8192 ∷ 4096 ∷ 2048 ∷ 1024 ∷ 1024 ∷ []) ∷ (32768 ∷ 16384 ∷ 8192 ∷ 4096 ∷ 2048 ∷ 0 ∷ 2048 ∷ []) ∷ [])
    ∷ []

abbrev pub total : List ℕ → ℕ
total [] = 0
total (n ∷ l) = n + total l

-- the classes have every word, and each once
abbrev pub RowsAreWhole : Type 0
RowsAreWhole = (chip : Chip) (nack : Bool) → total (card_row chip nack) ≡ 65536
