-- The divider of an accepted `init` is in its range.
-- Assumes nothing.
use mathlib.Core.Path.{◌≡◌, refl, sym, subst}
use mathlib.Core.Bool.{Bool, true, false, cond, ◌&&◌, ◌||◌}
use mathlib.Core.Option.{none, some}
use Prim.Native.Nat.{ℕ, ◌*◌, ◌/◌, ◌≤◌}
use native.Mathlib.Omega.{arith}
use lib.Dec.{eqb, ltb, leb}
use borrow.Author.Tests.{ltb-false, le-leb}
use Rattle.registers.specs.declared.chip.Chip.{Chip}
use Rattle.access.specs.declared.ending.Error.{Error}
use Rattle.access.specs.declared.ending.Error.TheVariants.{InvalidFrequency, InputTooSlow, DividerTooLarge}
use Rattle.access.proofs.Choice.{both_true}
use Rattle.timing.specs.declared.settings.Duty.{Duty}
use Rattle.timing.specs.declared.settings.Timing.{Timing}
use Rattle.timing.specs.Rust.{timing}
use Rattle.timing.specs.Document.{Documented, AsDocumented, settled, first_cause, factor, fast}
use Rattle.timing.proofs.Documented.{documented}
use Rattle.std.specs.Prelude.{Ok}
use Rattle.timing.proofs.TimingLaws.{floor_small}

-- 4, or fast 1, to 4095
abbrev in_range : Timing → Bool
in_range t = leb (cond t.fast 1 4) t.divider && leb t.divider 4095

last_cause : (a b c : Bool) (x y z : Error) → cond a (some x) (cond b (some y) (cond c (some z) none)) ≡ none → c ≡ false
last_cause true b c x y z q = let y : ◌≡◌ {A = ℕ} 0 1 = cc in absurd (omega arith)
last_cause false true c x y z q = let y : ◌≡◌ {A = ℕ} 0 1 = cc in absurd (omega arith)
last_cause false false true x y z q = let y : ◌≡◌ {A = ℕ} 0 1 = cc in absurd (omega arith)
last_cause false false false x y z q = refl

module _ (chip : Chip) (input frequency : ℕ) (duty : Duty) (t : Timing) (none-holds : first_cause chip input frequency duty ≡ none) (d : Documented chip input frequency duty t) where
  -- 4095 reaches the input clock, so the least divider is no larger
  pub divider_small : t.divider ≤ 4095
  divider_small =
      let h : input ≤ 4095 * factor (fast chip input frequency duty) duty * frequency =
      ltb-false (4095 * factor (fast chip input frequency duty) duty * frequency) input (last_cause (eqb frequency 0 || ltb 400_000 frequency) (chip.ch32v4 && ltb (input / 1_000_000) 4) (ltb (4095 * factor (fast chip input frequency duty) duty * frequency) input) InvalidFrequency InputTooSlow DividerTooLarge none-holds) in
      d.divider.least 4095 (record { reaches = h; allowed = floor_small (fast chip input frequency duty) })

  documented_range : in_range t ≡ true
  documented_range =
      let h : cond t.fast 1 4 ≤ t.divider = subst (λ (b : Bool). cond b 1 4 ≤ t.divider) (sym d.speed) d.divider.holds.allowed in
      both_true (le-leb (cond t.fast 1 4) t.divider h) (le-leb t.divider 4095 divider_small)

pub settled_range : (chip : Chip) (input frequency : ℕ) (duty : Duty) (t : Timing) → timing chip input frequency duty ≡ Ok t → in_range t ≡ true
settled_range chip input frequency duty t q = go (subst (AsDocumented chip input frequency duty) q (documented chip input frequency duty))
  where
    go : AsDocumented chip input frequency duty (Ok t) → in_range t ≡ true
    go (settled p d) = documented_range chip input frequency duty t p d
