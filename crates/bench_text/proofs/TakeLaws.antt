-- What a line says, by the tests of the code.
-- Assumes nothing.
use Prim.Native.Nat.{ℕ, ◌≤◌, ◌<◌}
use mathlib.Core.Path.{◌≡◌, refl}
use mathlib.Core.Bool.{Bool, true, false, cond}
use mathlib.Core.List.{List}
use borrow.Author.Tests.{eq-eqb, ne_eqb, lt-ltb, le-ltb}
use lib.ListN.{length, get_or, drop}
use Rattle.std.specs.Prelude.{Option, None, Some}
use Rattle.bench_text.specs.Forms.{pairs_then_end, bytes_of, words_then_end, words_of, read_length_of}
use Rattle.bench_text.specs.declared.input.Parts.{Parts}
use Rattle.bench_text.specs.Taken.{list_with, written_with, answers_with}
use Rattle.bench_text.specs.Input.{bad, writes, answers, writes_in, read_line, reads_in, answers_in, line_of}

module _ (l : List ℕ) where
  pub line_short : length l < 3 → line_of l ≡ bad
  unfolding line_of
  line_short h = rw (lt-ltb (length l) 3 h)

  module _ (long : 3 ≤ length l) where
    pub line_unparted : (get_or l 1 0 ≡ 44 → ⊥) → line_of l ≡ bad
    unfolding line_of
    line_unparted n = rw (le-ltb (length l) 3 long, ne_eqb (get_or l 1 0) 44 n)

    module _ (comma : get_or l 1 0 ≡ 44) where
      pub line_writes : get_or l 0 0 ≡ 87 → line_of l ≡ writes_in l
      unfolding line_of
      line_writes e = rw (le-ltb (length l) 3 long, eq-eqb (get_or l 1 0) 44 comma, eq-eqb (get_or l 0 0) 87 e)

      module _ (not-w : get_or l 0 0 ≡ 87 → ⊥) where
        pub line_reads : get_or l 0 0 ≡ 82 → line_of l ≡ reads_in l
        unfolding line_of
        line_reads e = rw (le-ltb (length l) 3 long, eq-eqb (get_or l 1 0) 44 comma, ne_eqb (get_or l 0 0) 87 not-w, eq-eqb (get_or l 0 0) 82 e)

        module _ (not-r : get_or l 0 0 ≡ 82 → ⊥) where
          pub line_answers : get_or l 0 0 ≡ 65 → line_of l ≡ answers_in l
          unfolding line_of
          line_answers e = rw (le-ltb (length l) 3 long, eq-eqb (get_or l 1 0) 44 comma, ne_eqb (get_or l 0 0) 87 not-w, ne_eqb (get_or l 0 0) 82 not-r, eq-eqb (get_or l 0 0) 65 e)

          pub line_unknown : (get_or l 0 0 ≡ 65 → ⊥) → line_of l ≡ bad
          unfolding line_of
          line_unknown n = rw (le-ltb (length l) 3 long, eq-eqb (get_or l 1 0) 44 comma, ne_eqb (get_or l 0 0) 87 not-w, ne_eqb (get_or l 0 0) 82 not-r, ne_eqb (get_or l 0 0) 65 n)

-- a line changes only its own buffers
module _ (p : Parts) (l b : List ℕ) where
  pub write_leaves_answers : answers_with p (writes_in l) b ≡ b
  unfolding writes_in answers_with
  write_leaves_answers = go (pairs_then_end (drop 2 l))
    where
      go : (x : Bool) → answers_with p (cond x (writes (bytes_of (drop 2 l))) bad) b ≡ b
      go true = refl
      go false = refl

  pub read_leaves_written : written_with p (reads_in l) b ≡ b
  unfolding reads_in written_with
  read_leaves_written = go (read_length_of l)
    where
      go : (x : Option ℕ) → written_with p (read_line x) b ≡ b
      go None = refl
      go (Some n) = refl

  pub read_leaves_answers : answers_with p (reads_in l) b ≡ b
  unfolding reads_in answers_with
  read_leaves_answers = go (read_length_of l)
    where
      go : (x : Option ℕ) → answers_with p (read_line x) b ≡ b
      go None = refl
      go (Some n) = refl

  pub answers_leave_list : list_with p (answers_in l) b ≡ b
  unfolding answers_in list_with
  answers_leave_list = go (words_then_end (drop 2 l))
    where
      go : (x : Bool) → list_with p (cond x (answers (words_of (drop 2 l))) bad) b ≡ b
      go true = refl
      go false = refl

  pub answers_leave_written : written_with p (answers_in l) b ≡ b
  unfolding answers_in written_with
  answers_leave_written = go (words_then_end (drop 2 l))
    where
      go : (x : Bool) → written_with p (cond x (answers (words_of (drop 2 l))) bad) b ≡ b
      go true = refl
      go false = refl
