-- No step of `init` changes its settings.
-- Assumes nothing.
use mathlib.Core.Path.{◌≡◌, refl}
use mathlib.Core.Bool.{Bool, true, false, cond}
use Prim.Native.Nat.{ℕ}
use Rattle.timing.specs.declared.init.Stage.{Stage}
use Rattle.timing.specs.declared.init.Stage.TheVariants as stages
use Rattle.timing.specs.declared.init.State.{State}
use Rattle.timing.specs.Machine as init

stage_settings : (st : Stage) (s : State) (a : ℕ) → (init.advance_at st s a).timing ≡ s.timing
stage_settings stages.DisableRead s a = refl
stage_settings stages.DisableWrite s a = refl
stage_settings stages.ResetRead s a = refl
stage_settings stages.ResetWrite s a = refl
stage_settings stages.ReleaseRead s a = refl
stage_settings stages.ReleaseWrite s a = refl
stage_settings stages.FrequencyRead s a = refl
stage_settings stages.FrequencyWrite s a = go s.chip.i2c_v3
  where
    go : (b : Bool) → (cond b (init.to stages.RiseWrite s) (init.to stages.ClockWrite s)).timing ≡ s.timing
    go true = refl
    go false = refl
stage_settings stages.RiseWrite s a = refl
stage_settings stages.ClockWrite s a = refl
stage_settings stages.EnableRead s a = refl
stage_settings stages.EnableWrite s a = refl
stage_settings stages.Ended s a = refl

pub settings_stay : (s : State) (a : ℕ) → (init.advance s a).timing ≡ s.timing
unfolding init.advance
settings_stay s a = stage_settings s.stage s a
