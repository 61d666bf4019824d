-- Document 01's lines: each ends with a line feed, which is kept; what follows the last line feed is a line too, and never right.
use Rattle.std.specs.Prelude.{ℕ, suc, cond, List, [], ◌∷◌, ◌++◌, eqb}

-- how long the first line is
unfoldable pub line_length : List ℕ → ℕ
line_length [] = 0
line_length (b ∷ l) = cond (eqb b 10) 1 (suc (line_length l))

-- what follows the last line feed
abbrev pub last_line : List ℕ → List (List ℕ)
last_line [] = []
last_line (b ∷ l) = (b ∷ l) ∷ []

-- the lines, where one has begun with these bytes
unfoldable pub lines_from : List ℕ → List ℕ → List (List ℕ)
lines_from begun [] = last_line begun
lines_from begun (b ∷ l) = cond (eqb b 10) ((begun ++ (b ∷ [])) ∷ lines_from [] l) (lines_from (begun ++ (b ∷ [])) l)

abbrev pub lines_of : List ℕ → List (List ℕ)
lines_of l = lines_from [] l
