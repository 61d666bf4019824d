-- What holds of an input's call, line by line: what each line keeps holds of what all say. So its numbers are within their bounds.
-- Assumes nothing.
use Prim.Native.Nat.{ℕ, ◌+◌, ◌-◌, ◌*◌, ◌≤◌}
use mathlib.Core.Path.{◌≡◌, refl}
use mathlib.Core.Bool.{Bool, true, false, cond}
use mathlib.Core.List.{List, [], ◌∷◌, ◌++◌}
use mathlib.Core.Option.{Option, none, some}
use native.Mathlib.Omega.{arith}
use borrow.Author.Tests.{ltb-true, ltb-false}
use lib.Dec.{eqb, ltb}
use lib.ListN.{length, get_or, drop, length-append, length-drop}
use Rattle.std.specs.Prelude as rust
use Rattle.bench_text.specs.declared.line.Header.{Header}
use Rattle.bench_text.specs.Digits.{digit_of, pair_of, word_of}
use Rattle.bench_text.specs.Lines.{lines_from, lines_of}
use Rattle.bench_text.specs.Forms.{pairs_then_end, bytes_of, words_then_end, is_header, header_of, read_length_of}
use Rattle.bench_text.specs.Input.{Line, bad, writes, reads, answers, writes_in, read_line, reads_in, answers_in, line_of, room_with, Said, said_nothing, said_with, Input, bad_line, call, with_line, input_from, input_behind, input_in, input_of}

-- what holds on both sides of a choice holds of it
either : {A : Type 0} (P : A → Type 0) (b : Bool) {x y : A} → (b ≡ true → P x) → (b ≡ false → P y) → P (cond b x y)
either P true p q = p refl
either P false p q = q refl

-- ---- lines of a text of 65,536 bytes at most

abbrev Short : ℕ → List (List ℕ) → Type 0
Short n [] = Unit {0}
Short n (l ∷ ls) = (length l ≤ n) × Short n ls

lines_short : (n : ℕ) (begun l : List ℕ) → length begun + length l ≤ n → Short n (lines_from begun l)
unfolding lines_from
lines_short n [] [] h = tt
lines_short n (b ∷ begun) [] h = (omega arith, tt)
lines_short n begun (b ∷ l) h =
    either (Short n) (eqb b 10)
    (λ _. (omega (arith, length-append begun (b ∷ [])), lines_short n [] l (omega arith)))
    (λ _. lines_short n (begun ++ (b ∷ [])) l (omega (arith, length-append begun (b ∷ []))))

-- numbers of 16 bits
abbrev pub Small : Line → Type 0
Small bad = Unit {0}
Small (writes bs) = length bs ≤ 65535
Small (reads n) = n ≤ 65535
Small (answers ws) = Unit {0}

few_bytes : (l : List ℕ) → length (bytes_of l) ≤ length l
unfolding bytes_of
few_bytes [] = omega arith
few_bytes (a ∷ []) = omega arith
few_bytes (a ∷ b ∷ l) = omega (arith, few_bytes l)

digit_small : (b : ℕ) → rust.IfSome (digit_of b) (λ d. d ≤ 15)
unfolding digit_of
digit_small b = let Q : rust.Option ℕ → Type 0 = (λ o. rust.IfSome o (λ d. d ≤ 15)) in
    either Q (ltb b 48) (λ _. tt) (λ _. either Q (ltb b 58) (λ e. omega (arith, ltb-true b 58 e)) (λ _. either Q (ltb b 97) (λ _. tt) (λ _. either Q (ltb b 103) (λ e. omega (arith, ltb-true b 103 e)) (λ _. tt))))

pair_small : (a b : ℕ) → rust.IfSome (pair_of a b) (λ n. n ≤ 255)
unfolding pair_of
pair_small a b = go (digit_of a) (digit_of b) (digit_small a) (digit_small b)
  where
    go : (h l : rust.Option ℕ) → rust.IfSome h (λ d. d ≤ 15) → rust.IfSome l (λ d. d ≤ 15) → rust.IfSome (rust.option_and_then (λ x. rust.option_map (λ y. x * 16 + y) l) h) (λ n. n ≤ 255)
    go rust.None l p q = tt
    go (rust.Some x) rust.None p q = tt
    go (rust.Some x) (rust.Some y) p q = omega arith

word_small : (a b c d : ℕ) → rust.IfSome (word_of a b c d) (λ n. n ≤ 65535)
unfolding word_of
word_small a b c d = go (pair_of a b) (pair_of c d) (pair_small a b) (pair_small c d)
  where
    go : (h l : rust.Option ℕ) → rust.IfSome h (λ n. n ≤ 255) → rust.IfSome l (λ n. n ≤ 255) → rust.IfSome (rust.option_and_then (λ x. rust.option_map (λ y. x * 256 + y) l) h) (λ n. n ≤ 65535)
    go rust.None l p q = tt
    go (rust.Some x) rust.None p q = tt
    go (rust.Some x) (rust.Some y) p q = omega arith

read_small : (l : List ℕ) → Small (read_line (read_length_of l))
unfolding read_length_of
read_small l =
    let Q : rust.Option ℕ → Type 0 = (λ o. Small (read_line o)) in
    either Q (eqb (length l) 7) (λ _. either Q (eqb (get_or l 6 0) 10) (λ _. go (word_of (get_or l 2 0) (get_or l 3 0) (get_or l 4 0) (get_or l 5 0)) (word_small (get_or l 2 0) (get_or l 3 0) (get_or l 4 0) (get_or l 5 0))) (λ _. tt)) (λ _. tt)
  where
    go : (o : rust.Option ℕ) → rust.IfSome o (λ n. n ≤ 65535) → Small (read_line o)
    go rust.None h = tt
    go (rust.Some n) h = h

line_small : (l : List ℕ) → length l ≤ 65536 → Small (line_of l)
unfolding line_of writes_in reads_in answers_in
line_small l h =
    either Small (ltb (length l) 3) (λ _. tt)
    (λ long. either Small (eqb (get_or l 1 0) 44)
    (λ _. either Small (eqb (get_or l 0 0) 87)
    (λ _. either Small (pairs_then_end (drop 2 l)) (λ _. omega (arith, few_bytes (drop 2 l), length-drop 2 l, ltb-false (length l) 3 long)) (λ _. tt))
    (λ _. either Small (eqb (get_or l 0 0) 82)
    (λ _. read_small l)
    (λ _. either Small (eqb (get_or l 0 0) 65) (λ _. either Small (words_then_end (drop 2 l)) (λ _. tt) (λ _. tt)) (λ _. tt))))
    (λ _. tt))

-- ---- from line to line

module _ (P : Said → Type 0) where
  abbrev pub Holds : Option Said → Type 0
  Holds none = Unit {0}
  Holds (some s) = P s

  abbrev HoldsCall : Input → Type 0
  HoldsCall (bad_line k) = Unit {0}
  HoldsCall (call chip address s) = (chip ≤ 3) × P s

  module _ (keeps : (s : Said) (l : Line) → Small l → P s → Holds (said_with s l)) (first : P said_nothing) where
    lines_keep : (chip address k : ℕ) (s : Said) (ls : List (List ℕ)) → Short 65536 ls → chip ≤ 3 → P s → HoldsCall (input_from chip address k s ls)
    unfolding input_from
    lines_keep chip address k s [] short c h = (c, h)
    lines_keep chip address k s (l ∷ ls) short c h = go (said_with s (line_of l)) (keeps s (line_of l) (line_small l short.0) h) (λ t. lines_keep chip address (k + 1) t ls short.1 c)
      where
        go : (o : Option Said) → Holds o → ((t : Said) → P t → HoldsCall (input_from chip address (k + 1) t ls)) → HoldsCall (with_line o (k + 1) (λ (t : Said). input_from chip address (k + 1) t ls))
        go none b again = tt
        go (some t) b again = again t b

    header_keeps : (l : List ℕ) (ls : List (List ℕ)) → Short 65536 ls → HoldsCall (input_behind (header_of l) ls)
    unfolding header_of
    header_keeps l ls short =
        let Q : rust.Option Header → Type 0 = (λ h. HoldsCall (input_behind h ls)) in
        either Q (is_header l)
        (λ _. either Q (ltb (get_or l 2 0) 48) (λ _. tt)
        (λ _. either Q (ltb 51 (get_or l 2 0)) (λ _. tt)
        (λ e. addressed (pair_of (get_or l 4 0) (get_or l 5 0)) (omega (arith, ltb-false 51 (get_or l 2 0) e)))))
        (λ _. tt)
      where
        addressed : (o : rust.Option ℕ) → get_or l 2 0 - 48 ≤ 3 → HoldsCall (input_behind (rust.option_map (λ (a : ℕ). record { chip = get_or l 2 0 - 48; address = a }) o) ls)
        addressed rust.None h = tt
        addressed (rust.Some a) h = lines_keep (get_or l 2 0 - 48) a 1 said_nothing ls short h first

    in_keeps : (ls : List (List ℕ)) → Short 65536 ls → HoldsCall (input_in ls)
    in_keeps [] short = tt
    in_keeps (l ∷ ls) short = header_keeps l ls short.1

    input_keeps : (text : List ℕ) → HoldsCall (input_of text)
    unfolding input_of
    input_keeps text = either HoldsCall (ltb 65536 (length text)) (λ _. tt) (λ e. in_keeps (lines_of text) (lines_short 65536 [] text (omega (arith, ltb-false 65536 (length text) e))))

    -- the chip is known, and what every line keeps holds of what all say
    pub said_keeps : (text : List ℕ) (chip address : ℕ) (s : Said) → input_of text ≡ call chip address s → (chip ≤ 3) × P s
    said_keeps text chip address s e = rw e at (input_keeps text)

-- ---- bounds: 4,096 answers, and 65,535 bytes to read

pub record Bounded (s : Said) : Type 0 where
  pub given : length s.answers ≤ 4096
  pub room : s.room ≤ 65535

room_small : (room n : ℕ) → room_with room n ≤ 65535
room_small room n = either (λ (x : ℕ). x ≤ 65535) (ltb 65535 (room + n)) (λ _. omega arith) (λ e. ltb-false 65535 (room + n) e)

line_bounded : (s : Said) (l : Line) → Small l → Bounded s → Holds Bounded (said_with s l)
unfolding said_with
line_bounded s bad t h = tt
line_bounded s (writes bs) t h = either (Holds Bounded) s.answered (λ _. tt) (λ _. record { given = h.given; room = h.room })
line_bounded s (reads n) t h = either (Holds Bounded) s.answered (λ _. tt) (λ _. record { given = h.given; room = room_small s.room n })
line_bounded s (answers ws) t h =
    either (Holds Bounded) (ltb 4096 (length s.answers + length ws)) (λ _. tt)
    (λ e. record { given = omega (arith, length-append s.answers ws, ltb-false 4096 (length s.answers + length ws) e); room = h.room })

pub call_bounded : (text : List ℕ) (chip address : ℕ) (s : Said) → input_of text ≡ call chip address s → Bounded s
call_bounded text chip address s e = (said_keeps Bounded line_bounded (record { given = omega arith; room = omega arith }) text chip address s e).1
