-- Digits: what a byte of the input means, and how a number is printed.
use Rattle.std.specs.Prelude.{ℕ, ◌+◌, ◌-◌, ◌*◌, ◌/◌, ◌%◌, cond, List, [], ◌∷◌, ltb, Option, None, Some, option_and_then, option_map}

-- the value of a hex digit, `0` to `9` or `a` to `f`; any other byte has none
unfoldable pub digit_of : ℕ → Option ℕ
digit_of b = cond (ltb b 48) None (cond (ltb b 58) (Some (b - 48)) (cond (ltb b 97) None (cond (ltb b 103) (Some (b - 87)) None)))

-- the value of two hex digits, if both are digits
unfoldable pub pair_of : ℕ → ℕ → Option ℕ
pair_of high low = option_and_then (λ h. option_map (λ l. h * 16 + l) (digit_of low)) (digit_of high)

-- the value of four hex digits, if all are digits
unfoldable pub word_of : ℕ → ℕ → ℕ → ℕ → Option ℕ
word_of a b c d = option_and_then (λ h. option_map (λ l. h * 256 + l) (pair_of c d)) (pair_of a b)

-- the character of the last hex digit of a number, and of the last decimal digit
unfoldable pub glyph : ℕ → ℕ
glyph n = cond (ltb (n % 16) 10) (48 + n % 16) (87 + n % 16)

abbrev pub decimal_glyph : ℕ → ℕ
decimal_glyph n = 48 + n % 10

-- a word, a byte, and bytes joined, in hex
abbrev pub word_text : ℕ → List ℕ
word_text v = glyph (v / 4096) ∷ glyph (v / 256) ∷ glyph (v / 16) ∷ glyph v ∷ []

abbrev pub pair_text : ℕ → List ℕ
pair_text v = glyph (v / 16) ∷ glyph v ∷ []

unfoldable pub hex_text : List ℕ → List ℕ
hex_text [] = []
hex_text (b ∷ l) = glyph (b / 16) ∷ glyph b ∷ hex_text l

-- a number below 100,000 in decimal
unfoldable pub decimal_text : ℕ → List ℕ
decimal_text n =
    cond (ltb n 10) (decimal_glyph n ∷ [])
    (cond (ltb n 100) (decimal_glyph (n / 10) ∷ decimal_glyph n ∷ [])
    (cond (ltb n 1000) (decimal_glyph (n / 100) ∷ decimal_glyph (n / 10) ∷ decimal_glyph n ∷ [])
    (cond (ltb n 10000) (decimal_glyph (n / 1000) ∷ decimal_glyph (n / 100) ∷ decimal_glyph (n / 10) ∷ decimal_glyph n ∷ [])
    (decimal_glyph (n / 10000) ∷ decimal_glyph (n / 1000) ∷ decimal_glyph (n / 100) ∷ decimal_glyph (n / 10) ∷ decimal_glyph n ∷ []))))
