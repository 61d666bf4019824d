-- The order of pairs: it is one, so that at most one pair is best, and there is one answer.
-- Assumes nothing.
use Prim.Native.Nat.{ℕ}
use mathlib.Core.Path.{◌≡◌, refl, ap}
use native.Mathlib.Nat.{le_antisymm}
use native.Mathlib.Omega.{arith}
use Rattle.std.specs.Prelude.{Option, Some, None}
use Rattle.speed_window.specs.declared.pair.Pair.{Pair}
use Rattle.speed_window.specs.Pairs.{Preferred, faster, smaller_factor, smaller_divider, Best, Finds, found, nothing}

module _ {input : ℕ} where
  pub preferred_trans : {p q r : Pair} → Preferred input p q → Preferred input q r → Preferred input p r
  preferred_trans (faster a) (faster b) = faster (omega arith)
  preferred_trans (faster a) (smaller_factor b c) = faster (omega arith)
  preferred_trans (faster a) (smaller_divider b c d) = faster (omega arith)
  preferred_trans (smaller_factor a b) (faster c) = faster (omega arith)
  preferred_trans (smaller_factor a b) (smaller_factor c d) = smaller_factor (omega arith) (omega arith)
  preferred_trans (smaller_factor a b) (smaller_divider c d e) = smaller_factor (omega arith) (omega arith)
  preferred_trans (smaller_divider a b c) (faster d) = faster (omega arith)
  preferred_trans (smaller_divider a b c) (smaller_factor d e) = smaller_factor (omega arith) (omega arith)
  preferred_trans (smaller_divider a b c) (smaller_divider d e f) = smaller_divider (omega arith) (omega arith) (omega arith)

  -- two pairs that are each preferred to the other are one
  pub preferred_same : (p q : Pair) → Preferred input p q → Preferred input q p → p ≡ q
  preferred_same p q (faster a) (faster b) = absurd (omega arith)
  preferred_same p q (faster a) (smaller_factor b c) = absurd (omega arith)
  preferred_same p q (faster a) (smaller_divider b c d) = absurd (omega arith)
  preferred_same p q (smaller_factor a b) (faster c) = absurd (omega arith)
  preferred_same p q (smaller_factor a b) (smaller_factor c d) = absurd (omega arith)
  preferred_same p q (smaller_factor a b) (smaller_divider c d e) = absurd (omega arith)
  preferred_same p q (smaller_divider a b c) (faster d) = absurd (omega arith)
  preferred_same p q (smaller_divider a b c) (smaller_factor d e) = absurd (omega arith)
  preferred_same p q (smaller_divider a b c) (smaller_divider d e f) = λ i. record { factor = b i; divider = le_antisymm c f i }

  -- at most one pair is best
  pub one_best : {P : Pair → Type 0} (p q : Pair) → Best input P p → Best input P q → p ≡ q
  one_best p q a b = preferred_same p q (a.best q b.holds) (b.best p a.holds)

  -- so there is one answer
  pub one_answer : {P : Pair → Type 0} (x y : Option Pair) → Finds input P x → Finds input P y → x ≡ y
  one_answer (Some p) (Some q) (found a) (found b) = ap Some (one_best p q a b)
  one_answer (Some p) None (found a) (nothing b) = absurd (b p a.holds)
  one_answer None (Some q) (nothing a) (found b) = absurd (a q b.holds)
  one_answer None None (nothing a) (nothing b) = refl
