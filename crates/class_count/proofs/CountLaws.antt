-- Laws of counting below a bound.
-- Assumes nothing.
use Prim.Native.Nat.{ℕ, zero, suc, ◌+◌, ◌<◌}
use mathlib.Core.Path.{◌≡◌, refl, sym, ap, ap₂, ◌∙◌}
use mathlib.Core.Bool.{Bool, true, false, cond, not, ◌&&◌}
use native.Mathlib.Nat.{add-zero, add-suc}
use native.Mathlib.Numerals.{add-one}
use native.Mathlib.Omega.{arith}
use Rattle.class_count.specs.Counting.{count_below, count_words}

-- a range in two parts
pub count_add : (t : ℕ → Bool) (m n : ℕ) → count_below t (m + n) ≡ count_below t m + count_below (λ r. t (m + r)) n
unfolding count_below
count_add t m zero = ap (count_below t) (add-zero m) ∙ sym (add-zero (count_below t m))
count_add t m (suc n) = ap (count_below t) (add-suc m n) ∙ omega (arith, count_add t m n)

-- tests that agree below the bound
pub count_same : (s t : ℕ → Bool) (n : ℕ) → ((r : ℕ) → r < n → s r ≡ t r) → count_below s n ≡ count_below t n
unfolding count_below
count_same s t zero h = refl
count_same s t (suc n) h = ap₂ ◌+◌ (count_same s t n (λ r l. h r (omega arith))) (ap (λ (b : Bool). cond b 1 0) (h n (omega arith)))

pub words_same : (s t : ℕ → Bool) → ((w : ℕ) → s w ≡ t w) → count_words s ≡ count_words t
unfolding count_words
words_same s t h = count_same s t 65536 (λ w l. h w)

-- nothing passes; everything passes
pub count_nothing : (t : ℕ → Bool) (n : ℕ) → ((r : ℕ) → r < n → t r ≡ false) → count_below t n ≡ 0
unfolding count_below
count_nothing t n h = count_same t (λ r. false) n h ∙ never n
  where
    never : (n : ℕ) → count_below (λ r. false) n ≡ 0
    never zero = refl
    never (suc n) = add-zero _ ∙ never n

pub words_nothing : count_words (λ w. false) ≡ 0
unfolding count_words
words_nothing = count_nothing (λ w. false) 65536 (λ w l. refl)

pub count_all : (n : ℕ) → count_below (λ r. true) n ≡ n
unfolding count_below
count_all zero = refl
count_all (suc n) = add-one _ ∙ ap suc (count_all n)

-- those that pass a second test, and those that do not
pub count_split : (t s : ℕ → Bool) (n : ℕ) → count_below (λ r. t r && s r) n + count_below (λ r. t r && not (s r)) n ≡ count_below t n
unfolding count_below
count_split t s zero = refl
count_split t s (suc n) = omega (arith, count_split t s n, one (t n) (s n))
  where
    one : (a b : Bool) → cond (a && b) 1 0 + cond (a && not b) 1 0 ≡ cond a 1 0
    one true true = refl
    one true false = refl
    one false b = refl
