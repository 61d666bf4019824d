-- The whole input: the call that its lines say, or the number of the first bad line.
use Rattle.std.specs.Prelude.{ℕ, ◌+◌, ◌/◌, ◌%◌, Bool, true, false, cond, List, [], ◌∷◌, ◌++◌, eqb, ltb, length, get_or, drop}
use Rattle.std.proofs.Math.Option.{Option, none, some}
use Rattle.bench_text.specs.declared.line.Header.{Header}
use Rattle.std.specs.Prelude as rust
use Rattle.bench_text.specs.Lines.{lines_of}
use Rattle.bench_text.specs.Forms.{pairs_then_end, bytes_of, words_then_end, words_of, header_of, read_length_of}

-- what a line behind the header says
pub data Line : Type 0 where
  bad : Line
  writes : List ℕ → Line
  reads : ℕ → Line
  answers : List ℕ → Line

unfoldable pub writes_in : List ℕ → Line
writes_in l = cond (pairs_then_end (drop 2 l)) (writes (bytes_of (drop 2 l))) bad

abbrev pub read_line : rust.Option ℕ → Line
read_line rust.None = bad
read_line (rust.Some n) = reads n

unfoldable pub reads_in : List ℕ → Line
reads_in l = read_line (read_length_of l)

unfoldable pub answers_in : List ℕ → Line
answers_in l = cond (words_then_end (drop 2 l)) (answers (words_of (drop 2 l))) bad

-- by the first two bytes, `W,`, `R,` or `A,`; the shortest line is `W,` with its line feed
unfoldable pub line_of : List ℕ → Line
line_of l =
    cond (ltb (length l) 3) bad
    (cond (eqb (get_or l 1 0) 44)
    (cond (eqb (get_or l 0 0) 87) (writes_in l)
    (cond (eqb (get_or l 0 0) 82) (reads_in l)
    (cond (eqb (get_or l 0 0) 65) (answers_in l) bad)))
    bad)

-- what the lines so far say: the list of operations, the bytes to write, how many to read, the answers, and whether an `A` line came
pub record Said : Type 0 where
  pub list : List ℕ
  pub written : List ℕ
  pub room : ℕ
  pub answers : List ℕ
  pub answered : Bool

abbrev pub said_nothing : Said
said_nothing = record { list = []; written = []; room = 0; answers = []; answered = false }

-- an operation's three bytes
abbrev pub operation_bytes : ℕ → ℕ → List ℕ
operation_bytes direction n = direction ∷ n % 256 ∷ n / 256 % 256 ∷ []

-- 65,535 bytes are lent for more, which begin refuses before it looks at what is lent
abbrev pub room_with : ℕ → ℕ → ℕ
room_with room n = cond (ltb 65535 (room + n)) 65535 (room + n)

-- operations come before answers, which are 4,096 at most
unfoldable pub said_with : Said → Line → Option Said
said_with s bad = none
said_with s (writes bs) =
    cond s.answered none
    (some (record { list = s.list ++ operation_bytes 0 (length bs); written = s.written ++ bs; room = s.room; answers = s.answers; answered = false }))
said_with s (reads n) =
    cond s.answered none
    (some (record { list = s.list ++ operation_bytes 1 n; written = s.written; room = room_with s.room n; answers = s.answers; answered = false }))
said_with s (answers ws) =
    cond (ltb 4096 (length s.answers + length ws)) none
    (some (record { list = s.list; written = s.written; room = s.room; answers = s.answers ++ ws; answered = true }))

-- the first bad line's number, or the call: chip, address, and what the lines say
pub data Input : Type 0 where
  bad_line : ℕ → Input
  call : ℕ → ℕ → Said → Input

abbrev pub with_line : Option Said → ℕ → (Said → Input) → Input
with_line none k next = bad_line k
with_line (some s) k next = next s

-- behind k lines
unfoldable pub input_from : ℕ → ℕ → ℕ → Said → List (List ℕ) → Input
input_from chip address k s [] = call chip address s
input_from chip address k s (l ∷ ls) = with_line (said_with s (line_of l)) (k + 1) (λ (t : Said). input_from chip address (k + 1) t ls)

abbrev pub input_behind : rust.Option Header → List (List ℕ) → Input
input_behind rust.None ls = bad_line 1
input_behind (rust.Some h) ls = input_from h.chip h.address 1 said_nothing ls

abbrev pub input_in : List (List ℕ) → Input
input_in [] = bad_line 1
input_in (l ∷ ls) = input_behind (header_of l) ls

unfoldable pub input_of : List ℕ → Input
input_of text = cond (ltb 65536 (length text)) (bad_line 0) (input_in (lines_of text))
