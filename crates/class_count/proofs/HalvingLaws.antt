-- The formula for any order of flags, by induction over the list: a test that ignores its flags is halved by each in turn.
-- Assumes nothing.
use Prim.Native.Nat.{ℕ, zero, suc, ◌-◌, ◌^◌, ◌<◌}
use mathlib.Core.Path.{◌≡◌, refl, ap, ◌∙◌}
use mathlib.Core.Bool.{Bool, true, false, cond, not, ◌&&◌, and-true}
use mathlib.Core.List.{List, [], ◌∷◌}
use mathlib.Core.Option.{Option, none, some, map}
use native.Mathlib.Nat.{pow-suc}
use native.Mathlib.Omega.{arith}
use lib.Dec.{ltb, eqb-zero-suc, eqb-suc-zero, eqb-suc-suc}
use lib.ListN.{length}
use borrow.Author.Tests.{ltb-true}
use Rattle.registers.specs.Word.{has_bit}
use Rattle.access.proofs.Choice.{first_true, second_true}
use Rattle.class_count.specs.Counting.{count_words}
use Rattle.class_count.specs.Order.{first_at, is_at, is_none, are_different, are_below}
use Rattle.class_count.specs.Halving.{OrdersHalve}
use Rattle.class_count.proofs.CountLaws.{words_same, count_all}
use Rattle.class_count.proofs.DifferentLaws.{fresh, rest_different}
use Rattle.class_count.proofs.BitHalves.{clear_half, set_half}
use Rattle.class_count.proofs.IgnoreLaws.{IgnoresAll, always_ignores, clear_ignores}

-- 2 ^ c words pass a test: what each flag takes of them, and what all leave
record Shares (t : ℕ → Bool) (l : List ℕ) (c : ℕ) : Type 0 where
  flag : (k : ℕ) → k < length l → count_words (λ w. t w && is_at k (first_at l w)) ≡ 2 ^ (c - suc k)
  without : count_words (λ w. t w && is_none (first_at l w)) ≡ 2 ^ (c - length l)

-- the first flag is that of place 0; without it the place is one more than in the rest
at_first : (a h : Bool) (o : Option ℕ) → a && is_at 0 (cond h (some 0) (map suc o)) ≡ a && h
at_first a true o = refl
at_first a false none = refl
at_first a false (some j) = ap (λ (x : Bool). a && x) (eqb-suc-zero j)

at_next : (a h : Bool) (k : ℕ) (o : Option ℕ) → a && is_at (suc k) (cond h (some 0) (map suc o)) ≡ (a && not h) && is_at k o
at_next false h k o = refl
at_next true true k o = eqb-zero-suc k
at_next true false k none = refl
at_next true false k (some j) = eqb-suc-suc j k

none_next : (a h : Bool) (o : Option ℕ) → a && is_none (cond h (some 0) (map suc o)) ≡ (a && not h) && is_none o
none_next false h o = refl
none_next true true o = refl
none_next true false none = refl
none_next true false (some j) = refl

power : {m n : ℕ} → m ≡ n → 2 ^ m ≡ 2 ^ n
power e = ap (λ (n : ℕ). 2 ^ n) e

shares : (l : List ℕ) → are_below 16 l ≡ true → are_different l ≡ true → (t : ℕ → Bool) → IgnoresAll t l → (c : ℕ) → count_words t ≡ 2 ^ c → Shares t l c
unfolding IgnoresAll
shares [] a d t f c e = record {
  flag = λ k h. absurd (omega arith);
  without = words_same _ t (λ w. and-true (t w)) ∙ e ∙ power (omega arith);
}
-- one word cannot be halved
shares (b ∷ l) a d t f zero e = absurd (omega (arith, set_half t b f.0 (ltb-true b 16 (first_true (ltb b 16) (are_below 16 l) a)), e))
shares (b ∷ l) a d t f (suc c) e =
    let small : b < 16 = ltb-true b 16 (first_true (ltb b 16) (are_below 16 l) a) in
    let half : count_words (λ w. t w && has_bit b w) ≡ 2 ^ c = omega (arith, set_half t b f.0 small, e, pow-suc 2 c) in
    let r : Shares (λ w. t w && not (has_bit b w)) l c =
    shares l (second_true (ltb b 16) (are_below 16 l) a) (rest_different b l d)
    (λ w. t w && not (has_bit b w)) (clear_ignores t b l (fresh b l d) f.1) c (clear_half t b f.0 small ∙ half) in
    record {
      flag = by_place t b l c half r;
      without = words_same _ _ (λ w. none_next (t w) (has_bit b w) (first_at l w)) ∙ r.without ∙ power (omega arith);
    }
  where
    by_place : (t : ℕ → Bool) (b : ℕ) (l : List ℕ) (c : ℕ) → count_words (λ w. t w && has_bit b w) ≡ 2 ^ c → Shares (λ w. t w && not (has_bit b w)) l c
        → (k : ℕ) → k < suc (length l) → count_words (λ w. t w && is_at k (first_at (b ∷ l) w)) ≡ 2 ^ (suc c - suc k)
    by_place t b l c half r zero h = words_same _ _ (λ w. at_first (t w) (has_bit b w) (first_at l w)) ∙ half ∙ power (omega arith)
    by_place t b l c half r (suc k) h = words_same _ _ (λ w. at_next (t w) (has_bit b w) k (first_at l w)) ∙ r.flag k (omega arith) ∙ power (omega arith)

pub orders_halve : OrdersHalve
unfolding count_words
orders_halve bits o =
    let r = shares bits (first_true (are_below 16 bits) (are_different bits) o) (second_true (are_below 16 bits) (are_different bits) o) (λ w. true) (always_ignores bits) 16 (count_all 65536) in
    record {
      flag = λ k h. r.flag k h ∙ power (omega arith);
      without = r.without;
    }
