-- The state of `init_slave` is told by its block, and a block that tells a state is its image.
-- Assumes nothing.
use Prim.Native.Nat.{ℕ}
use native.Mathlib.Omega.{arith}
use mathlib.Core.Path.{◌≡◌, refl}
use Rattle.std.specs.Prelude.{Option, Some, None}
use Rattle.block.specs.declared.fields.Fields.{Fields}
use Rattle.slave.specs.declared.config.SlaveAddress.{SlaveAddress}
use Rattle.slave.specs.declared.config.SlaveAddress.TheVariants.{SevenBit, TenBit}
use Rattle.slave.specs.declared.init.InitStage.{InitStage}
use Rattle.slave.specs.declared.init.InitStage.TheVariants as initStage
use Rattle.slave.specs.declared.init.InitState.{InitState}
use Rattle.images.specs.InitSlaveImage.{init_stage_number, init_stage_of, is_ten, address_word, address_of, has_second, second_byte, second_of, init_slave_fields, init_slave_of, init_slave_in}
use Rattle.images.proofs.NumberLaws.{flags_back}
use Rattle.images.proofs.Found.{found_state, found_image}

init_stage_back : (x : InitStage) → init_stage_of (init_stage_number x) ≡ x
init_stage_back initStage.DisableRead = refl
init_stage_back initStage.DisableWrite = refl
init_stage_back initStage.BufferRead = refl
init_stage_back initStage.BufferWrite = refl
init_stage_back initStage.Own = refl
init_stage_back initStage.Second = refl
init_stage_back initStage.EnableRead = refl
init_stage_back initStage.EnableWrite = refl
init_stage_back initStage.Ended = refl

address_back : (a : SlaveAddress) → address_of (is_ten a) (address_word a) ≡ a
address_back (SevenBit a) = refl
address_back (TenBit a) = refl

second_back : (a : Option ℕ) → second_of (has_second a) (second_byte a) ≡ a
second_back None = refl
second_back (Some a) = refl

pub init_slave_back : (s : InitState) → init_slave_of (init_slave_fields s) ≡ s
unfolding init_slave_of init_slave_fields
init_slave_back s =
    let f = flags_back (is_ten s.config.address) (has_second s.config.second_address) s.config.general_call s.config.clock_stretching in
    rw (init_stage_back s.stage, f.one, f.two, f.four, f.eight, address_back s.config.address, second_back s.config.second_address)

pub init_slave_found : (s : InitState) → init_slave_in (init_slave_fields s) ≡ Some s
unfolding init_slave_in
init_slave_found s = found_state init_slave_fields init_slave_of Some None s (init_slave_back s)

pub init_slave_image : (f : Fields) (s : InitState) → init_slave_in f ≡ Some s → init_slave_fields s ≡ f
unfolding init_slave_in
init_slave_image f s e = found_image init_slave_fields init_slave_of Some None f s (λ k. cc) (λ k. let z : ◌≡◌ {A = ℕ} 0 1 = cc in omega arith) e
