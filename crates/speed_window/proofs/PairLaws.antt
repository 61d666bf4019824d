-- What follows from a factor's limits for any pair.
-- Assumes nothing.
use Prim.Native.Nat.{ℕ, ◌<◌}
use mathlib.Core.Path.{◌≡◌}
use mathlib.Core.Logic.{⊎_elim}
use native.Mathlib.Nat.{mul-pos}
use native.Mathlib.Omega.{arith}
use Rattle.speed_window.specs.declared.pair.Pair.{Pair}
use Rattle.speed_window.specs.Pairs.{clocks, Allowed, standard, fast}
use Rattle.speed_window.specs.Formula.{pair}

-- a pair is its factor with its divider
pub with_factor : (p : Pair) {factor : ℕ} → p.factor ≡ factor → p ≡ pair factor p.divider
with_factor p e = λ i. record { factor = e i; divider = p.divider }

pub clocks_pos : {input : ℕ} (p : Pair) → Allowed input p → 0 < clocks p
clocks_pos p (standard e a b c) = mul-pos (omega arith) (omega arith)
clocks_pos p (fast e a b c d) = mul-pos (⊎_elim (λ h. omega arith) (λ h. omega arith) e) (omega arith)

-- a speed above 100,000 has an input clock
pub fast_input : {input : ℕ} (p : Pair) → Allowed input p → (p.factor ≡ 2 → ⊥) → 0 < input
fast_input p (standard e a b c) h = absurd (h e)
fast_input p (fast e a b c d) h = omega arith
