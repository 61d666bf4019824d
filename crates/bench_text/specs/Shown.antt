-- What the bench program prints. The letters are given by their codes, with the text in the comment.
use Rattle.std.specs.Prelude.{ℕ, List, [], ◌∷◌, ◌++◌}
use Rattle.registers.specs.declared.register.Register.{Register}
use Rattle.registers.specs.declared.register.Register.TheVariants.{Ctlr1, Ctlr2, Oaddr1, Oaddr2, Datar, Star1, Star2, Ckcfgr, Rtr}
use Rattle.bench_text.specs.Digits.{word_text, hex_text, decimal_text}

-- the registers' names
abbrev pub name_text : Register → List ℕ
name_text Ctlr1 = 67 ∷ 84 ∷ 76 ∷ 82 ∷ 49 ∷ []
name_text Ctlr2 = 67 ∷ 84 ∷ 76 ∷ 82 ∷ 50 ∷ []
name_text Oaddr1 = 79 ∷ 65 ∷ 68 ∷ 68 ∷ 82 ∷ 49 ∷ []
name_text Oaddr2 = 79 ∷ 65 ∷ 68 ∷ 68 ∷ 82 ∷ 50 ∷ []
name_text Datar = 68 ∷ 65 ∷ 84 ∷ 65 ∷ 82 ∷ []
name_text Star1 = 83 ∷ 84 ∷ 65 ∷ 82 ∷ 49 ∷ []
name_text Star2 = 83 ∷ 84 ∷ 65 ∷ 82 ∷ 50 ∷ []
name_text Ckcfgr = 67 ∷ 75 ∷ 67 ∷ 70 ∷ 71 ∷ 82 ∷ []
name_text Rtr = 82 ∷ 84 ∷ 82 ∷ []

-- `,`, four hex digits and the line feed
abbrev pub value_text : ℕ → List ℕ
value_text v = (44 ∷ []) ++ (word_text v ++ (10 ∷ []))

-- `r,` the register and the answer
abbrev pub read_text : Register → ℕ → List ℕ
read_text r a = (114 ∷ 44 ∷ []) ++ (name_text r ++ value_text a)

-- `w,` the register and the value
abbrev pub write_text : Register → ℕ → List ℕ
write_text r v = (119 ∷ 44 ∷ []) ++ (name_text r ++ value_text v)

-- `c,clock` and the answer
abbrev pub clock_text : ℕ → List ℕ
clock_text a = (99 ∷ 44 ∷ 99 ∷ 108 ∷ 111 ∷ 99 ∷ 107 ∷ []) ++ value_text a

-- `d,` and the bytes
abbrev pub arrived_text : List ℕ → List ℕ
arrived_text bytes = (100 ∷ 44 ∷ []) ++ (hex_text bytes ++ (10 ∷ []))

-- `,`, the answers used, and the error flags as a value
abbrev pub used_text : ℕ → ℕ → List ℕ
used_text n flags = (44 ∷ []) ++ (decimal_text n ++ value_text flags)

-- `end,` the number
abbrev pub end_text : ℕ → ℕ → ℕ → List ℕ
end_text number used flags = (101 ∷ 110 ∷ 100 ∷ 44 ∷ []) ++ (decimal_text number ++ used_text used flags)

-- `end,open`, without flags
abbrev pub open_text : ℕ → List ℕ
open_text used = (101 ∷ 110 ∷ 100 ∷ 44 ∷ 111 ∷ 112 ∷ 101 ∷ 110 ∷ []) ++ used_text used 0

-- `bad,` the line's number
abbrev pub bad_text : ℕ → List ℕ
bad_text line = (98 ∷ 97 ∷ 100 ∷ 44 ∷ []) ++ (decimal_text line ++ (10 ∷ []))
