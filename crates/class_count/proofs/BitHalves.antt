-- A test that ignores a bit is passed by as many words with the bit set as with it clear.
-- Assumes nothing.
use Prim.Native.Nat.{ℕ, zero, suc, ◌+◌, ◌-◌, ◌*◌, ◌%◌, ◌^◌, ◌<◌}
use mathlib.Core.Path.{◌≡◌, sym, ap, ap₂, ◌∙◌, subst}
use mathlib.Core.Bool.{Bool, true, false, not, ◌&&◌, and-false}
use native.Mathlib.Nat.{add-mul, one-mul, mul_comm, mul-zero, mul-suc, pow-suc}
use native.Mathlib.Omega.{arith}
use lib.Dec.{eqb}
use lib.Pow.{high, pow-add}
use Rattle.registers.specs.Word.{has_bit}
use Rattle.class_count.specs.Counting.{count_below, count_words}
use Rattle.class_count.proofs.CountLaws.{count_add, count_same, count_nothing, count_split}
use Rattle.class_count.proofs.IgnoreLaws.{Ignores}

-- ---- the words in blocks, each with the bit clear in its first half and set in its second

-- the words of one block
block : ℕ → ℕ
block b = 2 ^ b + 2 ^ b

digit : (q b r : ℕ) → r < 2 ^ b → has_bit b (q * 2 ^ b + r) ≡ eqb (q % 2) 1
unfolding has_bit
digit q b r h = ap (λ (x : ℕ). eqb (x % 2) 1) (high q b h)

-- the blocks before it hold twice as many halves
halves : (b j : ℕ) → block b * j ≡ (j + j) * 2 ^ b
unfolding block
halves b j = omega (arith, add-mul (2 ^ b) (2 ^ b) j, add-mul j j (2 ^ b), mul_comm (2 ^ b) j)

first_half : (b j r : ℕ) → r < 2 ^ b → has_bit b (block b * j + r) ≡ false
first_half b j r h =
    let even : (j + j) % 2 ≡ 0 = omega arith in
    ap (λ (x : ℕ). has_bit b (x + r)) (halves b j) ∙ digit (j + j) b r h ∙ ap (λ (x : ℕ). eqb x 1) even

second_half : (b j r : ℕ) → r < 2 ^ b → has_bit b (block b * j + (2 ^ b + r)) ≡ true
second_half b j r h =
    let e : block b * j + (2 ^ b + r) ≡ (j + j + 1) * 2 ^ b + r = omega (arith, halves b j, add-mul (j + j) 1 (2 ^ b), one-mul (2 ^ b)) in
    let odd : (j + j + 1) % 2 ≡ 1 = omega arith in
    ap (has_bit b) e ∙ digit (j + j + 1) b r h ∙ ap (λ (x : ℕ). eqb x 1) odd

module _ (t : ℕ → Bool) (b : ℕ) (ignores : Ignores t b) where
  set : ℕ → Bool
  set w = t w && has_bit b w

  clear : ℕ → Bool
  clear w = t w && not (has_bit b w)

  set_first : (j r : ℕ) → r < 2 ^ b → set (block b * j + r) ≡ false
  unfolding set
  set_first j r h = ap (λ (x : Bool). t (block b * j + r) && x) (first_half b j r h) ∙ and-false (t (block b * j + r))

  clear_second : (j r : ℕ) → r < 2 ^ b → clear (block b * j + (2 ^ b + r)) ≡ false
  unfolding clear
  clear_second j r h = ap (λ (x : Bool). t (block b * j + (2 ^ b + r)) && not x) (second_half b j r h) ∙ and-false (t (block b * j + (2 ^ b + r)))

  set_second : (j r : ℕ) → r < 2 ^ b → set (block b * j + (2 ^ b + r)) ≡ clear (block b * j + r)
  unfolding set clear
  set_second j r h =
      let e : block b * j + (2 ^ b + r) ≡ block b * j + r + 2 ^ b = omega arith in
      ap₂ ◌&&◌ (ap t e ∙ ignores (block b * j + r) (first_half b j r h)) (second_half b j r h ∙ sym (ap not (first_half b j r h)))

  in_block : (j : ℕ) → count_below (λ r. set (block b * j + r)) (block b) ≡ count_below (λ r. clear (block b * j + r)) (block b)
  unfolding block
  in_block j =
      let s : ℕ → Bool = λ r. set (block b * j + r) in
      let c : ℕ → Bool = λ r. clear (block b * j + r) in
      omega (
        arith,
        count_add s (2 ^ b) (2 ^ b),
        count_nothing s (2 ^ b) (set_first j),
        count_add c (2 ^ b) (2 ^ b),
        count_nothing (λ r. c (2 ^ b + r)) (2 ^ b) (clear_second j),
        count_same (λ r. s (2 ^ b + r)) c (2 ^ b) (set_second j),
      )

  in_blocks : (m : ℕ) → count_below set (block b * m) ≡ count_below clear (block b * m)
  unfolding count_below
  in_blocks zero = ap (count_below set) (mul-zero (block b)) ∙ sym (ap (count_below clear) (mul-zero (block b)))
  in_blocks (suc m) =
      ap (count_below set) (mul-suc (block b) m) ∙ count_add set (block b * m) (block b)
      ∙ ap₂ ◌+◌ (in_blocks m) (in_block m)
      ∙ sym (ap (count_below clear) (mul-suc (block b) m) ∙ count_add clear (block b * m) (block b))

  whole : b < 16 → block b * 2 ^ (15 - b) ≡ 65536
  unfolding block
  whole h =
      let e : suc b + (15 - b) ≡ 16 = omega arith in
      ap (λ (x : ℕ). x * 2 ^ (15 - b)) (omega (arith, pow-suc 2 b)) ∙ sym (pow-add 2 (suc b) (15 - b)) ∙ ap (λ (x : ℕ). 2 ^ x) e

  -- of the words that pass, half have the bit clear and half have it set
  pub clear_half : b < 16 → count_words (λ w. t w && not (has_bit b w)) ≡ count_words (λ w. t w && has_bit b w)
  unfolding count_words set clear
  clear_half h = sym (subst (λ (n : ℕ). count_below set n ≡ count_below clear n) (whole h) (in_blocks (2 ^ (15 - b))))

  pub set_half : b < 16 → count_words (λ w. t w && has_bit b w) + count_words (λ w. t w && has_bit b w) ≡ count_words t
  unfolding count_words
  set_half h = omega (arith, clear_half h, count_split t (has_bit b) 65536)
