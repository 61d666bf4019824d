-- The formula by the least divider, however that was found.
-- Assumes nothing.
use Prim.Native.Nat.{ℕ, ◌*◌, ◌<◌, min}
use mathlib.Core.Path.{◌≡◌, refl, ap, ◌∙◌}
use mathlib.Core.Bool.{Bool, true, false, cond, ◌&&◌}
use native.Mathlib.Nat.{mul-pos}
use native.Mathlib.Omega.{arith}
use lib.Dec.{eqb, lit<}
use borrow.Author.Tests.{eqb-false, lt-leb}
use Rattle.std.specs.Prelude.{Option, Some, None}
use Rattle.access.proofs.Choice.{chosen, when_true, when_false}
use Rattle.timing.specs.Document.{Least, Enough}
use Rattle.timing.proofs.LeastLaws.{is_formula}
use Rattle.speed_window.specs.declared.pair.Pair.{Pair}
use Rattle.speed_window.specs.Formula.{pair, within, is_inside, is_right, fastest_of}

-- a divider that is too large is not right, whatever the other tests say
last_false : (a : Bool) {b : Bool} → b ≡ false → a && b ≡ false
last_false true p = p
last_false false p = refl

module _ (factor floor top input lowest highest : ℕ) (f : 0 < factor) (t : 0 < top) where
  pub step_pos : 0 < factor * within highest top
  step_pos = mul-pos f (chosen (λ (n : ℕ). 0 < n) (eqb highest 0) (λ e. lit< tt) (λ e. above (eqb-false highest 0 e)))
    where
      above : (highest ≡ 0 → ⊥) → 0 < min highest top
      above n = omega arith

  module _ (c : ℕ) (l : Least (Enough input (factor * within highest top) floor) c) where
    abbrev tested : ℕ → Option Pair
    tested d = cond (is_right input lowest highest (pair factor d)) (Some (pair factor d)) None

    is_fastest : tested c ≡ fastest_of factor floor top input lowest highest
    unfolding fastest_of
    is_fastest = ap tested (is_formula input (factor * within highest top) floor step_pos c l)

    pub right_fastest : is_right input lowest highest (pair factor c) ≡ true → Some (pair factor c) ≡ fastest_of factor floor top input lowest highest
    right_fastest r = when_true _ _ r ∙ is_fastest

    pub wrong_fastest : is_right input lowest highest (pair factor c) ≡ false → None ≡ fastest_of factor floor top input lowest highest
    wrong_fastest r = when_false _ _ r ∙ is_fastest

    pub too_large : 4095 < c → None ≡ fastest_of factor floor top input lowest highest
    too_large h = wrong_fastest (last_false (is_inside input lowest highest (pair factor c)) (lt-leb c 4095 h))
