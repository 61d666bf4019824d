-- The answers of an input along a program of layer 1: a word for each access.
use Rattle.std.specs.Prelude.{Bool, true, false, List, [], ◌∷◌, ℕ}
use Rattle.access.specs.Program.{Access, read, write, send, clock, Program, finish, access, keep, cut}

abbrev pub takes_answer : Access → Bool
takes_answer (read r) = true
takes_answer (write r v) = false
takes_answer (send b) = false
takes_answer clock = true

-- the next answer, and 0 behind the last
abbrev pub next_answer : List ℕ → ℕ
next_answer [] = 0
next_answer (a ∷ answers) = a

-- what goes on with the word of an access and the answers that are left then. A read or a question takes the next answer, if there is one. A
-- write takes none: its word is the next answer, which stays unread, since no text looks at the word of a write
abbrev pub handed : Bool → List ℕ → (ℕ → List ℕ → List ℕ) → List ℕ
handed true [] go = []
handed true (a ∷ answers) go = go a answers
handed false answers go = go (next_answer answers) answers

-- the words, up to the end, or to an access that takes an answer where none is left
abbrev pub laid : Program → List ℕ → List ℕ
laid (finish e) answers = []
laid (access x k) answers = handed (takes_answer x) answers (λ a left. a ∷ laid (k a) left)
laid (keep b p) answers = laid p answers
laid cut answers = []
