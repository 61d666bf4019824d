-- From line to line: what the lines that are left say leads to what the whole input says.
-- Assumes nothing.
use Prim.Native.Nat.{ℕ, suc, ◌+◌, ◌≤◌, ◌<◌}
use mathlib.Core.Path.{◌≡◌, refl, sym, ap, ◌∙◌}
use mathlib.Core.Bool.{Bool, true, false, cond}
use mathlib.Core.List.{List, [], ◌∷◌, ◌++◌, append_assoc, append-nil}
use mathlib.Core.Option.{Option, none, some}
use native.Mathlib.Nat.{zero-add}
use native.Mathlib.Omega.{arith}
use borrow.Author.Tests.{lt-ltb, le-ltb}
use lib.Dec.{eqb, ltb}
use lib.ListN.{length, take, drop, length-append, length-drop, length-take}
use lib.Seq.{sets, length-sets}
use Rattle.std.specs.Prelude as rust
use Rattle.std.specs.Result.{IsErrAnd}
use Rattle.std.proofs.lemmas.Result.{err_from_is_err_and}
use Rattle.bench_text.specs.declared.line.Header.{Header}
use Rattle.bench_text.specs.declared.input.Parts.{Parts}
use Rattle.bench_text.specs.Lines.{line_length, lines_from, lines_of}
use Rattle.bench_text.specs.Forms.{header_of, is_header}
use Rattle.bench_text.specs.Input.{Line, bad, writes, reads, answers, line_of, operation_bytes, Said, said_nothing, said_with, Input, bad_line, call, with_line, input_from, input_behind, input_in, input_of}
use Rattle.bench_text.specs.Taken.{parts_of, taken_with, list_with, written_with, answers_with, Grows, Room}
use Rattle.bench_text.proofs.PutLaws.{sets_append}

-- ---- lines

first_line : (begun l : List ℕ) → 0 < length begun + length l → lines_from begun l ≡ (begun ++ take (line_length l) l) ∷ lines_from [] (drop (line_length l) l)
unfolding lines_from line_length
first_line [] [] h = absurd (omega arith)
first_line (b ∷ begun) [] h = rw (append-nil (b ∷ begun))
first_line begun (x ∷ l) h = go (eqb x 10) (first_line (begun ++ (x ∷ [])) l (omega (arith, length-append begun (x ∷ []))))
  where
    go : (t : Bool) → lines_from (begun ++ (x ∷ [])) l ≡ ((begun ++ (x ∷ [])) ++ take (line_length l) l) ∷ lines_from [] (drop (line_length l) l)
        → cond t ((begun ++ (x ∷ [])) ∷ lines_from [] l) (lines_from (begun ++ (x ∷ [])) l)
        ≡ (begun ++ take (cond t 1 (suc (line_length l))) (x ∷ l)) ∷ lines_from [] (drop (cond t 1 (suc (line_length l))) (x ∷ l))
    go true e = refl
    go false e = e ∙ ap (λ (r : List ℕ). r ∷ lines_from [] (drop (line_length l) l)) (append_assoc begun (x ∷ []) (take (line_length l) l))

line_positive : (l : List ℕ) → 0 < length l → 0 < line_length l
unfolding line_length
line_positive [] h = absurd (omega arith)
line_positive (x ∷ l) h = go (eqb x 10)
  where
    go : (t : Bool) → 0 < cond t 1 (suc (line_length l))
    go true = omega arith
    go false = omega arith

-- a text's first line, and what stands behind it
pub record First (text line behind : List ℕ) : Type 0 where
  pub lines : lines_of text ≡ line ∷ lines_of behind
  pub whole : length line + length behind ≡ length text
  pub positive : 0 < length line

header_first : (text : List ℕ) → input_in (lines_of text) ≡ input_behind (header_of (take (line_length text) text)) (lines_of (drop (line_length text) text))
unfolding lines_from line_length header_of is_header
header_first [] = refl
header_first (x ∷ l) = rw (first_line [] (x ∷ l) (omega arith))

module _ (text : List ℕ) {line behind : List ℕ} {end : ℕ} (e : end ≡ line_length text) (l : line ≡ take end text) (b : behind ≡ drop end text) where
  pub first_of : 0 < length text → end ≤ length text → First text line behind
  first_of h inside =
      let long : length line ≡ end = omega (arith, ap length l, length-take end text) in
      let rest : length behind + end ≡ length text = omega (arith, ap length b, length-drop end text) in
      record {
        lines = rw (l, b, e) (first_line [] text (omega arith));
        whole = omega arith;
        positive = omega (arith, line_positive text h);
      }

  -- the header's line
  pub input_first : input_in (lines_of text) ≡ input_behind (header_of line) (lines_of behind)
  input_first = rw (l, b, e) (header_first text)

-- ---- what a line adds

module _ (list₀ written₀ words₀ : List ℕ) where
  -- the code's numbers and buffers follow what is said
  pub record Follows (s : Said) (l : Line) (t : Said) : Type 0 where
    pub parts : taken_with (parts_of s) l ≡ rust.Some (parts_of t)
    pub list : list_with (parts_of s) l (sets list₀ 0 s.list) ≡ sets list₀ 0 t.list
    pub written : written_with (parts_of s) l (sets written₀ 0 s.written) ≡ sets written₀ 0 t.written
    pub words : answers_with (parts_of s) l (sets words₀ 0 s.answers) ≡ sets words₀ 0 t.answers

  abbrev Fate : Said → Line → Option Said → Type 0
  Fate s l none = taken_with (parts_of s) l ≡ rust.None
  Fate s l (some t) = Follows s l t

  behind : (b xs ys : List ℕ) → sets (sets b 0 xs) (length xs) ys ≡ sets b 0 (xs ++ ys)
  behind b xs ys = ap (λ (k : ℕ). sets (sets b 0 xs) k ys) (sym (zero-add (length xs))) ∙ sets_append b 0 xs ys

  module _ (xs ws : List ℕ) (r : ℕ) (as' : List ℕ) where
    abbrev said : Bool → Said
    said a = record { list = xs; written = ws; room = r; answers = as'; answered = a }

    write_fate : (a : Bool) (bs : List ℕ) → Fate (said a) (writes bs) (said_with (said a) (writes bs))
    unfolding said_with taken_with list_with written_with answers_with
    write_fate true bs = refl
    write_fate false bs = record {
      parts = rw (length-append xs (operation_bytes 0 (length bs)), length-append ws bs);
      list = behind list₀ xs (operation_bytes 0 (length bs));
      written = behind written₀ ws bs;
      words = refl;
    }

    read_fate : (a : Bool) (n : ℕ) → Fate (said a) (reads n) (said_with (said a) (reads n))
    unfolding said_with taken_with list_with written_with answers_with
    read_fate true n = refl
    read_fate false n = record {
      parts = rw (length-append xs (operation_bytes 1 n));
      list = behind list₀ xs (operation_bytes 1 n);
      written = refl;
      words = refl;
    }

    answers_fate : (a : Bool) (vs : List ℕ) → Fate (said a) (answers vs) (said_with (said a) (answers vs))
    unfolding said_with taken_with list_with written_with answers_with
    answers_fate a vs = go (ltb 4096 (length as' + length vs)) refl
      where
        go : (t : Bool) → ltb 4096 (length as' + length vs) ≡ t → Fate (said a) (answers vs) (said_with (said a) (answers vs))
        go true e = rw e (rw e)
        go false e = rw e (record {
          parts = rw (e, length-append as' vs);
          list = refl;
          written = refl;
          words = rw e (behind words₀ as' vs);
        })

  fate : (s : Said) (l : Line) → Fate s l (said_with s l)
  unfolding said_with taken_with
  fate s bad = refl
  fate s (writes bs) = write_fate s.list s.written s.room s.answers s.answered bs
  fate s (reads n) = read_fate s.list s.written s.room s.answers s.answered n
  fate s (answers vs) = answers_fate s.list s.written s.room s.answers s.answered vs

-- ---- from line to line

module _ (text : List ℕ) (chip address : ℕ) (list₀ written₀ words₀ : List ℕ) where
  abbrev whole : Input
  whole = input_from chip address 1 said_nothing (lines_of text)

  -- behind some lines, with what is left of the text
  pub record Between (list written words left : List ℕ) (number : ℕ) (p : Parts) : Type 0 where
    pub said : Said
    pub parts : p ≡ parts_of said
    pub in_list : list ≡ sets list₀ 0 said.list
    pub in_written : written ≡ sets written₀ 0 said.written
    pub in_words : words ≡ sets words₀ 0 said.answers
    pub rest : input_from chip address number said (lines_of left) ≡ whole
    pub listed : p.listed + length left ≤ length text
    pub sent : p.written + length left ≤ length text
    pub room : p.room ≤ 65535
    pub given : p.answers ≤ 4096
    pub counted : number + length left ≤ length text + 1

  pub at_start : Between list₀ written₀ words₀ text 1 (parts_of said_nothing)
  at_start = record {
    said = said_nothing;
    parts = refl;
    in_list = refl;
    in_written = refl;
    in_words = refl;
    rest = refl;
    listed = omega arith;
    sent = omega arith;
    room = omega arith;
    given = omega arith;
    counted = omega arith;
  }

  module _ {list written words left : List ℕ} {number : ℕ} {p : Parts} (b : Between list written words left number p) where
    pub kept_list : length list ≡ length list₀
    kept_list = ap length b.in_list ∙ length-sets list₀ 0 b.said.list

    pub kept_written : length written ≡ length written₀
    kept_written = ap length b.in_written ∙ length-sets written₀ 0 b.said.written

    pub kept_words : length words ≡ length words₀
    kept_words = ap length b.in_words ∙ length-sets words₀ 0 b.said.answers

    pub all_said : length left ≡ 0 → call chip address b.said ≡ whole
    unfolding input_from lines_from
    all_said h = go left h b.rest
      where
        go : (l : List ℕ) → length l ≡ 0 → input_from chip address number b.said (lines_of l) ≡ whole → call chip address b.said ≡ whole
        go [] h e = e
        go (x ∷ l) h e = absurd (omega arith)

    module _ {line behind : List ℕ} (first : First left line behind) where
      pub has_room : length text ≤ 65536 → Room p line
      has_room q = record {
        listed = omega (arith, first.whole, b.listed);
        written = omega (arith, first.whole, b.sent);
        room = b.room;
        answers = b.given;
      }

      next : with_line (said_with b.said (line_of line)) (number + 1) (λ (t : Said). input_from chip address (number + 1) t (lines_of behind)) ≡ whole
      unfolding input_from
      next = rw first.lines at b.rest

      pub bad_line_lem : taken_with p (line_of line) ≡ rust.None → whole ≡ bad_line (number + 1)
      bad_line_lem q = go (said_with b.said (line_of line)) (fate list₀ written₀ words₀ b.said (line_of line)) next
        where
          go : (o : Option Said) → Fate list₀ written₀ words₀ b.said (line_of line) o → with_line o (number + 1) (λ (t : Said). input_from chip address (number + 1) t (lines_of behind)) ≡ whole
              → whole ≡ bad_line (number + 1)
          go none f n = sym n
          go (some t) f n = let z : ◌≡◌ {A = ℕ} 0 1 = cc (ap (λ (k : Parts). taken_with k (line_of line)) b.parts, f.parts) in absurd (omega arith)

      pub good_line : {list' written' words' : List ℕ} {q : Parts} → taken_with p (line_of line) ≡ rust.Some q → list' ≡ list_with p (line_of line) list → written' ≡ written_with p (line_of line) written
          → words' ≡ answers_with p (line_of line) words → Grows p (length line) (rust.Some q) → Between list' written' words' behind (number + 1) q
      good_line {list'} {written'} {words'} {q} g l w a grows = go (said_with b.said (line_of line)) (fate list₀ written₀ words₀ b.said (line_of line)) next
        where
          go : (o : Option Said) → Fate list₀ written₀ words₀ b.said (line_of line) o → with_line o (number + 1) (λ (t : Said). input_from chip address (number + 1) t (lines_of behind)) ≡ whole
              → Between list' written' words' behind (number + 1) q
          go none f n = let z : ◌≡◌ {A = ℕ} 0 1 = cc (ap (λ (k : Parts). taken_with k (line_of line)) b.parts, f) in absurd (omega arith)
          go (some t) f n = record {
            said = t;
            parts = cc (ap (λ (k : Parts). taken_with k (line_of line)) b.parts, f.parts);
            in_list = l ∙ rw (b.parts, b.in_list) f.list;
            in_written = w ∙ rw (b.parts, b.in_written) f.written;
            in_words = a ∙ rw (b.parts, b.in_words) f.words;
            rest = n;
            listed = omega (arith, first.whole, grows.0, b.listed);
            sent = omega (arith, first.whole, grows.1, b.sent);
            room = grows.2;
            given = grows.3;
            counted = omega (arith, first.whole, first.positive, b.counted);
          }

-- an error that `?` hands on
pub handed_on : {T T' E : Type 0} {x y : E} (r : rust.Result T E) → IsErrAnd r (λ e. e ≡ x) → ◌≡◌ {A = rust.Result T' E} (rust.Err x) (rust.Err y) → r ≡ rust.Err y
handed_on r h v = let p = err_from_is_err_and r h in cc (p.1, p.2, v)

-- ---- the whole input

module _ (text : List ℕ) where
  pub too_long : 65536 < length text → input_of text ≡ bad_line 0
  unfolding input_of
  too_long h = rw (lt-ltb 65536 (length text) h)

  module _ (line behind : List ℕ) (short : length text ≤ 65536) (first : input_in (lines_of text) ≡ input_behind (header_of line) (lines_of behind)) where
    by_header : input_of text ≡ input_behind (header_of line) (lines_of behind)
    unfolding input_of
    by_header = rw (le-ltb 65536 (length text) short) first

    pub header_bad : header_of line ≡ rust.None → input_of text ≡ bad_line 1
    header_bad q = by_header ∙ rw q

    pub header_good : {h : Header} → header_of line ≡ rust.Some h → input_of text ≡ input_from h.chip h.address 1 said_nothing (lines_of behind)
    header_good q = by_header ∙ rw q
