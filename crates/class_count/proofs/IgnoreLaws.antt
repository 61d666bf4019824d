-- Which bits of a word a test ignores.
-- Assumes nothing.
use Prim.Native.Nat.{ℕ, ◌+◌, ◌/◌, ◌%◌, ◌^◌}
use mathlib.Core.Path.{◌≡◌, refl, sym, ap, ap₂, ◌∙◌}
use mathlib.Core.Bool.{Bool, true, false, not, ◌&&◌}
use mathlib.Core.List.{List, [], ◌∷◌}
use native.Mathlib.Nat.{one-mul, mod-lt}
use native.Mathlib.Omega.{arith}
use lib.Pow.{pow_pos}
use borrow.Author.Tests.{eqb-false}
use Rattle.registers.specs.Word.{field_of, put_field, bit_field, has_bit, put_bit}
use Rattle.registers.proofs.WordLaws.{put_empty, bit_other}
use Rattle.class_count.specs.Order.{is_in}
use Rattle.class_count.proofs.DifferentLaws.{not_first, not_rest}

-- a word with bit b clear passes if it passes with the bit set, and the other way round
abbrev pub Ignores : (ℕ → Bool) → ℕ → Type 0
Ignores t b = (w : ℕ) → has_bit b w ≡ false → t (w + 2 ^ b) ≡ t w

unfoldable pub IgnoresAll : (ℕ → Bool) → List ℕ → Type 0
IgnoresAll t [] = Unit {0}
IgnoresAll t (b ∷ l) = Ignores t b × IgnoresAll t l

-- a bit that is set where it was clear
set_clear : (b w : ℕ) → has_bit b w ≡ false → put_bit b true w ≡ w + 2 ^ b
unfolding has_bit put_bit put_field field_of
set_clear b w h =
    let z : field_of (bit_field b) w ≡ 0 = omega (arith, eqb-false (w / 2 ^ b % 2) 1 h, mod-lt (w / 2 ^ b) (pow_pos 1)) in
    put_empty (bit_field b) 1 w z ∙ ap (λ (x : ℕ). w + x) (one-mul (2 ^ b))

-- a bit's test ignores every other bit
bit_ignores : (b c : ℕ) → (b ≡ c → ⊥) → Ignores (has_bit b) c
bit_ignores b c ne w h = ap (has_bit b) (sym (set_clear c w h)) ∙ bit_other b c true w ne

pub always_ignores : (l : List ℕ) → IgnoresAll (λ w. true) l
unfolding IgnoresAll
always_ignores [] = tt
always_ignores (b ∷ l) = (λ w h. refl, always_ignores l)

-- a flag that stands nowhere in the list may be tested too
pub clear_ignores : (t : ℕ → Bool) (b : ℕ) (l : List ℕ) → is_in b l ≡ false → IgnoresAll t l → IgnoresAll (λ w. t w && not (has_bit b w)) l
unfolding IgnoresAll
clear_ignores t b [] o f = tt
clear_ignores t b (c ∷ l) o f = (
  λ w h. ap₂ (λ (x y : Bool). x && not y) (f.0 w h) (bit_ignores b c (not_first b c l o) w h),
  clear_ignores t b l (not_rest b c l o) f.1,
)
