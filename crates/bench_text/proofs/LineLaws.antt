-- What a line says, and how long it is.
-- Assumes nothing.
use Prim.Native.Nat.{ℕ, zero, suc, ◌+◌, ◌*◌, ◌/◌, ◌≤◌, ◌<◌}
use mathlib.Core.Path.{◌≡◌, refl, sym, ap}
use mathlib.Core.Bool.{Bool, true, false, cond, not, ◌&&◌}
use Rattle.std.specs.Prelude.{Option, None, Some, ◌==◌, is_some, unwrap_or}
use Rattle.std.specs.List.{position, prefix_len, list_all}
use Rattle.std.specs.Cmp.Lexicographic.{pointwise}
use Rattle.std.specs.Simd.{first_chunks}
use mathlib.Core.List.{List, [], ◌∷◌, ◌++◌, map}
use native.Mathlib.Omega.{arith}
use borrow.Author.Tests.{ltb-true, ltb-false}
use lib.Dec.{eqb, ltb, eqb-suc-zero}
use lib.ListN.{length, get_or, drop}
use Rattle.bench_text.specs.Digits.{pair_of, word_of}
use Rattle.bench_text.specs.Lines.{line_length}
use Rattle.bench_text.specs.Forms.{pairs_then_end, bytes_of, words_behind, words_then_end, words_of}

-- a line is as long as its line feed's place says, and without one as the text
abbrev pub EndsBy : Option ℕ → List ℕ → Type 0
EndsBy None l = line_length l ≡ length l
EndsBy (Some i) l = (i + 1 ≡ line_length l) × (line_length l ≤ length l)

-- how many bytes stand before the line feed
abbrev before : List ℕ → ℕ
before l = prefix_len (λ x. not (x == 10)) l

feeds : (l : List ℕ) → (before l < length l → line_length l ≡ before l + 1) × (length l ≤ before l → line_length l ≡ length l)
unfolding line_length
feeds [] = (λ h. absurd (omega arith), λ h. refl)
feeds (x ∷ l) = go (eqb x 10) (feeds l).0 (feeds l).1
  where
    go : (t : Bool) → (before l < length l → line_length l ≡ before l + 1) → (length l ≤ before l → line_length l ≡ length l)
        → (cond (not t) (1 + before l) 0 < suc (length l) → cond t 1 (suc (line_length l)) ≡ cond (not t) (1 + before l) 0 + 1)
        × (suc (length l) ≤ cond (not t) (1 + before l) 0 → cond t 1 (suc (line_length l)) ≡ suc (length l))
    go true p q = (λ h. refl, λ h. absurd (omega arith))
    go false p q = (λ h. let e : line_length l ≡ before l + 1 = p (omega arith) in omega (arith, e), λ h. let e : line_length l ≡ length l = q (omega arith) in omega (arith, e))

pub line_feeds : (l : List ℕ) → EndsBy (position (λ x. x == 10) l) l
line_feeds l = go (ltb (before l) (length l)) refl
  where
    go : (t : Bool) → ltb (before l) (length l) ≡ t → EndsBy (cond t (Some (before l)) None) l
    go true e = let h : before l < length l = ltb-true _ _ e in let k : line_length l ≡ before l + 1 = (feeds l).0 h in (omega (arith, k), omega (arith, k, h))
    go false e = (feeds l).1 (ltb-false _ _ e)

-- ---- pairs, two bytes each

abbrev pub pair_in : List ℕ → Option ℕ
pair_in c = pair_of (get_or c 0 0) (get_or c 1 0)

abbrev pub byte_in : List ℕ → ℕ
byte_in c = unwrap_or (pair_in c) 0

abbrev pub pairs_in : List ℕ → List (List ℕ)
pairs_in l = first_chunks 2 (length l / 2) l

two_more : (n : ℕ) → suc (suc n) / 2 ≡ suc (n / 2)
two_more n = omega arith

pub bytes_mapped : (l : List ℕ) → map byte_in (pairs_in l) ≡ bytes_of l
unfolding bytes_of
bytes_mapped [] = refl
bytes_mapped (a ∷ []) = refl
bytes_mapped (a ∷ b ∷ l) = rw (two_more (length l)) (ap (λ (r : List ℕ). unwrap_or (pair_of a b) 0 ∷ r) (bytes_mapped l))

and_true : (b : Bool) → b && true ≡ b
and_true true = refl
and_true false = refl

checked : (l : List ℕ) → list_all (λ c. is_some (pair_in c)) (pairs_in l) && pointwise eqb (drop (length l / 2 * 2) l) (10 ∷ []) ≡ pairs_then_end l
unfolding pairs_then_end
checked [] = refl
checked (a ∷ []) = and_true (eqb a 10)
checked (a ∷ b ∷ l) =
    let k : suc (suc (length l)) / 2 * 2 ≡ suc (suc (length l / 2 * 2)) = omega arith in
    rw (k, two_more (length l)) (go (is_some (pair_of a b)) _ _ _ (checked l))
  where
    go : (t x y z : Bool) → x && y ≡ z → (t && x) && y ≡ cond t z false
    go true x y z e = e
    go false x y z e = refl

pub pairs_checked : (l : List ℕ) {pairs : List (List ℕ)} {end feed : List ℕ} {r s : Bool} → pairs ≡ pairs_in l → end ≡ drop (length l / 2 * 2) l → r ≡ list_all (λ c. is_some (pair_in c)) pairs → s ≡ pointwise eqb end feed → feed ≡ 10 ∷ []
    → r && s ≡ pairs_then_end l
pairs_checked l p e a b f = rw (a, b, p, e, f) (checked l)

-- ---- words, five bytes each with what stands behind

abbrev pub word_in : List ℕ → Option ℕ
word_in c = word_of (get_or c 0 0) (get_or c 1 0) (get_or c 2 0) (get_or c 3 0)

abbrev pub number_in : List ℕ → ℕ
number_in c = unwrap_or (word_in c) 0

abbrev pub words_in : List ℕ → List (List ℕ)
words_in l = first_chunks 5 (length l / 5) l

five_more : (n : ℕ) → suc (suc (suc (suc (suc n)))) / 5 ≡ suc (n / 5)
five_more n = omega arith

pub words_mapped : (l : List ℕ) → map number_in (words_in l) ≡ words_of l
unfolding words_of
words_mapped [] = refl
words_mapped (a ∷ []) = refl
words_mapped (a ∷ b ∷ []) = refl
words_mapped (a ∷ b ∷ c ∷ []) = refl
words_mapped (a ∷ b ∷ c ∷ d ∷ []) = refl
words_mapped (a ∷ b ∷ c ∷ d ∷ s ∷ l) = rw (five_more (length l)) (ap (λ (r : List ℕ). unwrap_or (word_of a b c d) 0 ∷ r) (words_mapped l))

pub words_counted : (l : List ℕ) → length (words_of l) ≡ length l / 5
unfolding words_of
words_counted [] = refl
words_counted (a ∷ []) = refl
words_counted (a ∷ b ∷ []) = refl
words_counted (a ∷ b ∷ c ∷ []) = refl
words_counted (a ∷ b ∷ c ∷ d ∷ []) = refl
words_counted (a ∷ b ∷ c ∷ d ∷ s ∷ l) = omega (arith, words_counted l)

short_words : (l : List ℕ) → length l < 5 → words_then_end l ≡ false
unfolding words_then_end
short_words [] h = refl
short_words (a ∷ []) h = refl
short_words (a ∷ b ∷ []) h = refl
short_words (a ∷ b ∷ c ∷ []) h = refl
short_words (a ∷ b ∷ c ∷ d ∷ []) h = refl
short_words (a ∷ b ∷ c ∷ d ∷ s ∷ l) h = absurd (omega arith)

-- the last word and those before it
abbrev ended_by : ℕ → List ℕ → Bool
ended_by e c = is_some (word_in c) && eqb (get_or c 4 0) e

abbrev words_checked : List ℕ → List (List ℕ) → List ℕ → Bool
words_checked l before last = (eqb (length (drop (length l / 5 * 5) l)) 0 && list_all (ended_by 44) before) && ended_by 10 last

no_words : (l : List ℕ) → words_in l ≡ [] → length l / 5 ≡ 0
no_words l e = go (length l / 5) l e
  where
    go : (n : ℕ) (l : List ℕ) → first_chunks 5 n l ≡ [] → n ≡ 0
    go zero l e = refl
    go (suc n) l e = let z : ◌≡◌ {A = ℕ} 0 1 = cc in absurd (omega arith)

no_last : (before : List (List ℕ)) (last : List ℕ) → [] ≡ before ++ (last ∷ []) → ⊥
no_last [] last e = let z : ◌≡◌ {A = ℕ} 0 1 = cc in omega arith
no_last (c ∷ before) last e = let z : ◌≡◌ {A = ℕ} 0 1 = cc in omega arith

-- the only word
only : (s : ℕ) (w : Bool) (l : List ℕ) → words_in l ≡ [] → (eqb (length (drop (length l / 5 * 5) l)) 0 && true) && (w && eqb s 10) ≡ cond w (words_behind s l (words_then_end l)) false
only s w l e = rw (no_words l e) (go l w (short_words l (omega (arith, no_words l e))))
  where
    shut : (w t : Bool) → false ≡ cond w (cond t false false) false
    shut true true = refl
    shut true false = refl
    shut false t = refl

    go : (l : List ℕ) (w : Bool) → words_then_end l ≡ false → (eqb (length l) 0 && true) && (w && eqb s 10) ≡ cond w (words_behind s l (words_then_end l)) false
    go [] true f = refl
    go [] false f = refl
    go (x ∷ l) w f = rw (eqb-suc-zero (length l), f) (shut w (eqb s 44))

-- one with others behind it
others : (e w t a z m : Bool) → (e && a) && z ≡ m → (e && ((w && t) && a)) && z ≡ cond w (cond t m false) false
others e true true a z m q = q
others true true false a z m q = refl
others true false t a z m q = refl
others false true false a z m q = refl
others false false t a z m q = refl

pub words_all : (l : List ℕ) (before : List (List ℕ)) (last : List ℕ) → words_in l ≡ before ++ (last ∷ []) → words_checked l before last ≡ words_then_end l
unfolding words_then_end
words_all [] before last e = absurd (no_last before last e)
words_all (a ∷ []) before last e = absurd (no_last before last e)
words_all (a ∷ b ∷ []) before last e = absurd (no_last before last e)
words_all (a ∷ b ∷ c ∷ []) before last e = absurd (no_last before last e)
words_all (a ∷ b ∷ c ∷ d ∷ []) before last e = absurd (no_last before last e)
words_all (a ∷ b ∷ c ∷ d ∷ s ∷ l) before last e =
    let k : suc (suc (suc (suc (suc (length l))))) / 5 * 5 ≡ suc (suc (suc (suc (suc (length l / 5 * 5))))) = omega arith in
    rw k (go before (rw (five_more (length l)) at e) (λ rs n. words_all l rs last n))
  where
    word : List ℕ
    word = a ∷ b ∷ c ∷ d ∷ s ∷ []

    go : (before : List (List ℕ)) → word ∷ words_in l ≡ before ++ (last ∷ []) → ((rs : List (List ℕ)) → words_in l ≡ rs ++ (last ∷ []) → words_checked l rs last ≡ words_then_end l)
        → (eqb (length (drop (length l / 5 * 5) l)) 0 && list_all (ended_by 44) before) && ended_by 10 last ≡ cond (is_some (word_of a b c d)) (words_behind s l (words_then_end l)) false
    go [] e more =
        let f : last ≡ word = cc in
        let n : words_in l ≡ [] = cc in
        rw f (only s (is_some (word_of a b c d)) l n)
    go (r ∷ rs) e more =
        let f : r ≡ word = cc in
        let n : words_in l ≡ rs ++ (last ∷ []) = cc in
        rw (f, turn l n) (others (eqb (length (drop (length l / 5 * 5) l)) 0) (is_some (word_of a b c d)) (eqb s 44) (list_all (ended_by 44) rs) (ended_by 10 last) (words_then_end l) (more rs n))
      where
        turn : (l : List ℕ) → words_in l ≡ rs ++ (last ∷ []) → words_behind s l (words_then_end l) ≡ cond (eqb s 44) (words_then_end l) false
        turn [] n = absurd (no_last rs last n)
        turn (x ∷ l) n = refl

pub no_words_at_all : (l : List ℕ) → length l / 5 ≡ 0 → false ≡ words_then_end l
no_words_at_all l e = sym (short_words l (omega arith))
