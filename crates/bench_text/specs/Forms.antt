-- The forms that a line may have.
use Rattle.std.specs.Prelude.{ℕ, ◌-◌, Bool, false, cond, ◌&&◌, List, [], ◌∷◌, eqb, ltb, length, get_or, Option, None, is_some, option_map, unwrap_or}
use Rattle.bench_text.specs.declared.line.Header.{Header}
use Rattle.bench_text.specs.Digits.{pair_of, word_of}

-- hex pairs, then the line feed
unfoldable pub pairs_then_end : List ℕ → Bool
pairs_then_end [] = false
pairs_then_end (a ∷ []) = eqb a 10
pairs_then_end (a ∷ b ∷ l) = cond (is_some (pair_of a b)) (pairs_then_end l) false

-- the bytes that pairs spell, and 0 for one that spells none
unfoldable pub bytes_of : List ℕ → List ℕ
bytes_of [] = []
bytes_of (a ∷ []) = []
bytes_of (a ∷ b ∷ l) = unwrap_or (pair_of a b) 0 ∷ bytes_of l

-- what stands behind a word: the line feed, or a comma and more words
abbrev pub words_behind : ℕ → List ℕ → Bool → Bool
words_behind s [] more = eqb s 10
words_behind s (b ∷ l) more = cond (eqb s 44) more false

-- one or more words of four hex digits, parted by commas, then the line feed
unfoldable pub words_then_end : List ℕ → Bool
words_then_end [] = false
words_then_end (a ∷ []) = false
words_then_end (a ∷ b ∷ []) = false
words_then_end (a ∷ b ∷ c ∷ []) = false
words_then_end (a ∷ b ∷ c ∷ d ∷ []) = false
words_then_end (a ∷ b ∷ c ∷ d ∷ s ∷ l) = cond (is_some (word_of a b c d)) (words_behind s l (words_then_end l)) false

-- the words, and 0 for one that is none
unfoldable pub words_of : List ℕ → List ℕ
words_of [] = []
words_of (a ∷ []) = []
words_of (a ∷ b ∷ []) = []
words_of (a ∷ b ∷ c ∷ []) = []
words_of (a ∷ b ∷ c ∷ d ∷ []) = []
words_of (a ∷ b ∷ c ∷ d ∷ s ∷ l) = unwrap_or (word_of a b c d) 0 ∷ words_of l

-- `T`, commas and the line feed where a header has them
unfoldable pub is_header : List ℕ → Bool
is_header l = (((eqb (length l) 7 && eqb (get_or l 0 0) 84) && eqb (get_or l 1 0) 44) && eqb (get_or l 3 0) 44) && eqb (get_or l 6 0) 10

-- the header with a chip from 0 to 3 and an address
unfoldable pub header_of : List ℕ → Option Header
header_of l =
    cond (is_header l)
    (cond (ltb (get_or l 2 0) 48) None
    (cond (ltb 51 (get_or l 2 0)) None
    (option_map (λ a. record { chip = get_or l 2 0 - 48; address = a }) (pair_of (get_or l 4 0) (get_or l 5 0)))))
    None

-- the length of an `R` line, if it is right
unfoldable pub read_length_of : List ℕ → Option ℕ
read_length_of l = cond (eqb (length l) 7) (cond (eqb (get_or l 6 0) 10) (word_of (get_or l 2 0) (get_or l 3 0) (get_or l 4 0) (get_or l 5 0)) None) None
