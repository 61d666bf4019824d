-- Each factor as `timing` has it: by its mode and duty.
-- Assumes nothing.
use Prim.Native.Nat.{ℕ, ◌≤◌}
use mathlib.Core.Path.{◌≡◌, refl, sym}
use mathlib.Core.Bool.{Bool, true, false, cond, not, ◌&&◌, ◌||◌, true≢false}
use mathlib.Core.Logic.{inl, inr}
use native.Mathlib.Omega.{arith}
use lib.Dec.{eqb, ltb}
use borrow.Author.Tests.{le-ltb}
use Rattle.timing.specs.declared.settings.Duty.{Duty}
use Rattle.timing.specs.declared.settings.Duty.TheVariants.{Duty2_1, Duty16_9}
use Rattle.timing.specs.Document as document
use Rattle.timing.specs.Rust.{same_duty, factor_of, floor_of}
use Rattle.speed_window.specs.declared.pair.Pair.{Pair}
use Rattle.speed_window.specs.Pairs.{Allowed, standard, fast}
use Rattle.speed_window.specs.Formula.{pair}
use Rattle.speed_window.proofs.PairLaws.{with_factor}
use Rattle.speed_window.proofs.LimitLaws.{Limits, HasLimits, standard_limits, fast_limits}

pub record Mode : Type 0 where
  pub factor : ℕ
  pub floor : ℕ
  pub top : ℕ
  pub quick : Bool
  pub duty : Duty
  pub limits : HasLimits factor floor top
  pub factor_is : factor_of quick duty ≡ factor
  pub floor_is : floor_of quick ≡ floor
  pub duty_told : cond (eqb factor 25) Duty16_9 Duty2_1 ≡ duty
  pub duty_is : (quick && same_duty duty Duty16_9) ≡ eqb factor 25
  pub mode_is : not (eqb factor 2) ≡ quick
  pub top_small : top ≤ 400_000
  -- the factor is told by mode and duty
  pub told : (other : Duty) → (quick && document.is16_9 other) ≡ eqb factor 25 → document.factor quick other ≡ factor
  -- a frequency that is enough, and not above the top, is of this mode
  pub of_mode : (frequency : ℕ) → frequency ≤ top → (eqb factor 2 || ltb 100_000 frequency) ≡ true → ltb 100_000 frequency ≡ quick

standard_mode : Mode
standard_mode = record {
  factor = 2;
  floor = 4;
  top = 100_000;
  quick = false;
  duty = Duty2_1;
  limits = standard_limits;
  factor_is = refl;
  floor_is = refl;
  duty_told = refl;
  duty_is = refl;
  mode_is = refl;
  top_small = omega arith;
  told = λ other e. refl;
  of_mode = λ n h k. le-ltb 100_000 n h;
}

-- both factors of fast mode, where mode and duty tell the factor
fast_with : (factor : ℕ) (duty : Duty) → HasLimits factor 1 400_000 → factor_of true duty ≡ factor → cond (eqb factor 25) Duty16_9 Duty2_1 ≡ duty → same_duty duty Duty16_9 ≡ eqb factor 25 → not (eqb factor 2) ≡ true
    → ((other : Duty) → document.is16_9 other ≡ eqb factor 25 → document.factor true other ≡ factor) → Mode
fast_with factor duty limits factor_is duty_told duty_is mode_is told = record {
  factor = factor;
  floor = 1;
  top = 400_000;
  quick = true;
  duty = duty;
  limits = limits;
  factor_is = factor_is;
  floor_is = refl;
  duty_told = duty_told;
  duty_is = duty_is;
  mode_is = mode_is;
  top_small = omega arith;
  told = told;
  of_mode = of_mode (eqb factor 2) mode_is;
}
  where
    of_mode : (two : Bool) → not two ≡ true → (n : ℕ) → n ≤ 400_000 → (two || ltb 100_000 n) ≡ true → ltb 100_000 n ≡ true
    of_mode true m n h k = absurd (true≢false (sym m))
    of_mode false m n h k = k

fast_mode : Mode
fast_mode = fast_with 3 Duty2_1 (fast_limits 3 (inl refl)) refl refl refl refl told
  where
    told : (other : Duty) → document.is16_9 other ≡ false → document.factor true other ≡ 3
    told Duty2_1 e = refl
    told Duty16_9 e = absurd (true≢false e)

fast_16_9_mode : Mode
fast_16_9_mode = fast_with 25 Duty16_9 (fast_limits 25 (inr refl)) refl refl refl refl told
  where
    told : (other : Duty) → document.is16_9 other ≡ true → document.factor true other ≡ 25
    told Duty2_1 e = absurd (true≢false (sym e))
    told Duty16_9 e = refl

abbrev pub LimitsOf : Mode → ℕ → ℕ → Type 0
LimitsOf m input d = Limits m.factor m.floor m.top input d

-- every pair within its factor's limits has one
pub data OfMode (p : Pair) : Type 0 where
  of_mode : (m : Mode) → p ≡ pair m.factor p.divider → OfMode p

pub mode_of : {input : ℕ} (p : Pair) → Allowed input p → OfMode p
unfolding standard_mode fast_mode fast_16_9_mode fast_with
mode_of p (standard e a b c) = of_mode standard_mode (with_factor p e)
mode_of p (fast (inl e) a b c d) = of_mode fast_mode (with_factor p e)
mode_of p (fast (inr e) a b c d) = of_mode fast_16_9_mode (with_factor p e)
