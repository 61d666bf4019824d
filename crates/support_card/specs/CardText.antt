-- The support card as text. The letters are given by their codes, with the text in the comment.
use Rattle.std.specs.Prelude.{ℕ, Bool, true, false, cond, List, [], ◌∷◌, ◌++◌, eqb}
use Rattle.registers.specs.declared.chip.Chip.{Chip}
use Rattle.registers.specs.Chips.{chips}
use Rattle.class_count.specs.ClassWords.{words_of}
use Rattle.class_count.specs.Card.{card_classes}
use Rattle.bench_text.specs.Digits.{decimal_text}

-- the text of each, one behind the other
abbrev pub joined : {A : Type 0} → (A → List ℕ) → List A → List ℕ
joined f [] = []
joined f (a ∷ l) = f a ++ joined f l

-- `3 both    `; `1 i2c_v3  `; `2 ch32v4  `; `0 neither `
unfoldable pub chip_text : Chip → List ℕ
chip_text chip =
    cond chip.i2c_v3
    (cond chip.ch32v4 (51 ∷ 32 ∷ 98 ∷ 111 ∷ 116 ∷ 104 ∷ 32 ∷ 32 ∷ 32 ∷ 32 ∷ []) (49 ∷ 32 ∷ 105 ∷ 50 ∷ 99 ∷ 95 ∷ 118 ∷ 51 ∷ 32 ∷ 32 ∷ []))
    (cond chip.ch32v4 (50 ∷ 32 ∷ 99 ∷ 104 ∷ 51 ∷ 50 ∷ 118 ∷ 52 ∷ 32 ∷ 32 ∷ []) (48 ∷ 32 ∷ 110 ∷ 101 ∷ 105 ∷ 116 ∷ 104 ∷ 101 ∷ 114 ∷ 32 ∷ []))

-- `master `; `slave  `
unfoldable pub role_text : Bool → List ℕ
role_text nack = cond nack (109 ∷ 97 ∷ 115 ∷ 116 ∷ 101 ∷ 114 ∷ 32 ∷ []) (115 ∷ 108 ∷ 97 ∷ 118 ∷ 101 ∷ 32 ∷ 32 ∷ [])

-- by a class's number: `Bus         `; `Arbitration `; `Nack        `; `Timeout     `; `Crc         `; `Overrun     `; `none        `
unfoldable pub name_text : ℕ → List ℕ
name_text n =
    cond (eqb n 1) (66 ∷ 117 ∷ 115 ∷ 32 ∷ 32 ∷ 32 ∷ 32 ∷ 32 ∷ 32 ∷ 32 ∷ 32 ∷ 32 ∷ [])
    (cond (eqb n 2) (65 ∷ 114 ∷ 98 ∷ 105 ∷ 116 ∷ 114 ∷ 97 ∷ 116 ∷ 105 ∷ 111 ∷ 110 ∷ 32 ∷ [])
    (cond (eqb n 3) (78 ∷ 97 ∷ 99 ∷ 107 ∷ 32 ∷ 32 ∷ 32 ∷ 32 ∷ 32 ∷ 32 ∷ 32 ∷ 32 ∷ [])
    (cond (eqb n 4) (84 ∷ 105 ∷ 109 ∷ 101 ∷ 111 ∷ 117 ∷ 116 ∷ 32 ∷ 32 ∷ 32 ∷ 32 ∷ 32 ∷ [])
    (cond (eqb n 5) (67 ∷ 114 ∷ 99 ∷ 32 ∷ 32 ∷ 32 ∷ 32 ∷ 32 ∷ 32 ∷ 32 ∷ 32 ∷ 32 ∷ [])
    (cond (eqb n 6) (79 ∷ 118 ∷ 101 ∷ 114 ∷ 114 ∷ 117 ∷ 110 ∷ 32 ∷ 32 ∷ 32 ∷ 32 ∷ 32 ∷ [])
    (110 ∷ 111 ∷ 110 ∷ 101 ∷ 32 ∷ 32 ∷ 32 ∷ 32 ∷ 32 ∷ 32 ∷ 32 ∷ 32 ∷ []))))))

-- a class's line
unfoldable pub line_text : Chip → Bool → ℕ → List ℕ
line_text chip nack n = chip_text chip ++ (role_text nack ++ (name_text n ++ (decimal_text (words_of chip nack n) ++ (10 ∷ []))))

unfoldable pub side_text : Chip → Bool → List ℕ
side_text chip nack = joined (line_text chip nack) card_classes

-- a master's lines, and a slave's
unfoldable pub both_text : Chip → List ℕ
both_text chip = side_text chip true ++ side_text chip false

-- `chip      side   class       words` and the line feed
abbrev pub head_text : List ℕ
head_text = 99 ∷ 104 ∷ 105 ∷ 112 ∷ 32 ∷ 32 ∷ 32 ∷ 32 ∷ 32 ∷ 32 ∷ 115 ∷ 105 ∷ 100 ∷ 101 ∷ 32 ∷ 32 ∷ 32 ∷ 99 ∷ 108 ∷ 97 ∷ 115 ∷ 115 ∷ 32 ∷ 32 ∷ 32 ∷ 32 ∷ 32 ∷ 32 ∷ 32 ∷ 119 ∷ 111 ∷ 114 ∷ 100 ∷ 115 ∷ 10 ∷ []

abbrev pub card_text : List ℕ
card_text = head_text ++ joined both_text chips
