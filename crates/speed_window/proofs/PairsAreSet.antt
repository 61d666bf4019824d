-- The claims of specs/Setting.antt.
-- Assumes nothing.
use Prim.Native.Nat.{ℕ, ◌≤◌}
use mathlib.Core.Path.{◌≡◌, refl, sym, subst, ◌∙◌}
use mathlib.Core.Bool.{true, true≢false}
use native.Mathlib.Omega.{arith}
use Rattle.std.specs.Prelude.{Err}
use Rattle.access.specs.declared.ending.Error.TheVariants.{InputTooSlow}
use Rattle.timing.specs.Rust.{timing}
use Rattle.timing.proofs.TimingLaws as timingLaws
use Rattle.speed_window.specs.declared.pair.Pair.{Pair}
use Rattle.speed_window.specs.Pairs.{clocks, Allowed, Right, Best}
use Rattle.speed_window.specs.Formula.{pair}
use Rattle.speed_window.specs.Setting.{frequency_of, is_fast, duty_of, AreOf, Sets, PairsAreSet}
use Rattle.speed_window.proofs.CeilingLaws.{ceil_least}
use Rattle.speed_window.proofs.PairLaws.{clocks_pos, fast_input}
use Rattle.speed_window.proofs.ModeLaws.{Mode, LimitsOf, OfMode, of_mode, mode_of}
use Rattle.speed_window.proofs.SettingLaws.{large_sets, fast_sets, best_sets, any_sets, slow_refused}

-- an input clock of 0 makes no frequency
no_frequency : (p : Pair) → Allowed 0 p → frequency_of 0 p ≡ 0
no_frequency p a = let z = ceil_least 0 (clocks p) (clocks_pos p a) 0 (omega arith) in omega arith

module _ (input lowest highest : ℕ) (p : Pair) (r : Right input lowest highest p) where
  -- what holds of its factor's mode holds of it
  by_mode : (Q : Pair → Type 0)
      → ((m : Mode) → LimitsOf m input p.divider → p ≡ pair m.factor p.divider → Q (pair m.factor p.divider))
      → Q p
  by_mode Q holds = go (mode_of p r.allowed)
    where
      go : OfMode p → Q p
      go (of_mode m e) = subst Q (sym e) (holds m (m.limits.told input p.divider (subst (Allowed input) e r.allowed)) e)

pub pairs_are_set : PairsAreSet
pairs_are_set = record {
  fast = λ chip input lowest highest p r h enough.
      by_mode input lowest highest p r (Sets chip input)
      (λ m l e. fast_sets m chip input p.divider l (fast_input p r.allowed (λ two. true≢false (sym (rw two at h)))) (sym m.mode_is ∙ subst (λ (q : Pair). is_fast q ≡ true) e h) enough);
  best = λ chip input lowest highest p b pos enough.
      by_mode input lowest highest p b.holds (Sets chip input)
      (λ m l e. best_sets m chip input p.divider l pos lowest highest (subst (Best input (Right input lowest highest)) e b) enough);
  not_above = λ chip input lowest highest p r h pos enough.
      by_mode input lowest highest p r (Sets chip input)
      (λ m l e. large_sets m chip input p.divider l pos (subst (λ (q : Pair). q.divider ≤ frequency_of input q) e h) enough);
  if_any = λ chip input lowest highest p r frequency duty h pos.
      by_mode input lowest highest p r (Sets chip input)
      (λ m l e. any_sets m chip input p.divider l pos frequency duty (subst (λ (q : Pair). AreOf q (timing chip input frequency duty)) e h));
  too_slow = λ chip input lowest highest p r pos v h.
      by_mode input lowest highest p r (λ q. timing chip input (frequency_of input q) (duty_of q) ≡ Err InputTooSlow)
      (λ m l e. slow_refused m chip input p.divider l pos v h);
  no_input = λ chip lowest highest p r. rw (no_frequency p r.allowed) (sym (timingLaws.bad_frequency chip 0 0 (duty_of p) refl));
}
