-- The state of `init` is told by its block, and a block that tells a state is its image.
-- Assumes nothing.
use Prim.Native.Nat.{ℕ}
use native.Mathlib.Omega.{arith}
use mathlib.Core.Path.{◌≡◌, refl}
use Rattle.std.specs.Prelude.{Some, None}
use Rattle.block.specs.declared.fields.Fields.{Fields}
use mathlib.Core.Bool.{false}
use Rattle.timing.specs.declared.init.Stage.{Stage}
use Rattle.timing.specs.declared.init.Stage.TheVariants as stage
use Rattle.timing.specs.declared.init.State.{State}
use Rattle.images.specs.InitImage.{stage_number, stage_of, init_fields, init_of, init_in}
use Rattle.images.proofs.NumberLaws.{flags_back, chip_back}
use Rattle.images.proofs.Found.{found_state, found_image}

stage_back : (x : Stage) → stage_of (stage_number x) ≡ x
stage_back stage.DisableRead = refl
stage_back stage.DisableWrite = refl
stage_back stage.ResetRead = refl
stage_back stage.ResetWrite = refl
stage_back stage.ReleaseRead = refl
stage_back stage.ReleaseWrite = refl
stage_back stage.FrequencyRead = refl
stage_back stage.FrequencyWrite = refl
stage_back stage.RiseWrite = refl
stage_back stage.ClockWrite = refl
stage_back stage.EnableRead = refl
stage_back stage.EnableWrite = refl
stage_back stage.Ended = refl

pub init_back : (s : State) → init_of (init_fields s) ≡ s
unfolding init_of init_fields
init_back s =
    let f = flags_back s.timing.fast s.timing.duty false false in
    rw (chip_back s.chip, stage_back s.stage, f.one, f.two)

pub init_found : (s : State) → init_in (init_fields s) ≡ Some s
unfolding init_in
init_found s = found_state init_fields init_of Some None s (init_back s)

pub init_image : (f : Fields) (s : State) → init_in f ≡ Some s → init_fields s ≡ f
unfolding init_in
init_image f s e = found_image init_fields init_of Some None f s (λ k. cc) (λ k. let z : ◌≡◌ {A = ℕ} 0 1 = cc in omega arith) e
