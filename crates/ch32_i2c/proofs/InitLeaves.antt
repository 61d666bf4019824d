-- What begin and step of `init` and `init_slave` leave, in the words of the edge that all calls share.
-- Assumes nothing.
use mathlib.Core.Path.{◌≡◌, refl, ap}
use mathlib.Core.Bool.{◌||◌}
use mathlib.Core.List.{List, []}
use mathlib.Core.Option as maybe
use Prim.Native.Nat.{ℕ}
use lib.Dec.{ltb}
use Rattle.std.specs.Prelude.{Result, Ok, Err}
use Rattle.access.specs.declared.ending.Error.{Error}
use Rattle.images.specs.Numbers.{chip_of}
use Rattle.timing.specs.declared.settings.Timing.{Timing}
use Rattle.timing.specs.Rust.{timing}
use Rattle.timing.specs.Machine.{started}
use Rattle.slave.specs.Init as slave
use Rattle.slave.specs.Init.{init_refusal}
use Rattle.slave.specs.declared.config.SlaveConfig.{SlaveConfig}
use Rattle.slave_driver.specs.Validated.{answering}
use Rattle.call.specs.OnBlock.{After, standing, begin_by}
use Rattle.call.specs.CallOn.{begun_by, first_of}
use Rattle.call.specs.Edge.{in_block, begin_at}
use Rattle.call.specs.Left.{begin_left, step_left}
use Rattle.call.proofs.CallLaws.{begin_as}
use Rattle.calls.specs.Init.{first_with, init_call, init_held}
use Rattle.calls.specs.InitSlave.{init_slave_on, init_slave_call, init_slave_held}
use Rattle.ch32_i2c.specs.Init.{duty_of, wanted_of, init_begin, init_step}
use Rattle.ch32_i2c.specs.InitSlave.{config_of, unknown_flags, taken_config, init_slave_begin, init_slave_step}

pub init_begin_at : (b : List ℕ) (chip input frequency duty : ℕ) → begin_left [] (begin_at init_call (wanted_of chip input frequency duty) b) [] ≡ init_begin b chip input frequency duty
unfolding init_begin init_held
init_begin_at b chip input frequency duty =
    ap (λ (x : After). begin_left [] x [])
    (begin_as init_call (ltb 3 chip || ltb 1 duty) (record { input = input; frequency = frequency; duty = duty_of duty; chip = chip_of chip }) b maybe.none (first_with (chip_of chip) (timing (chip_of chip) input frequency (duty_of duty)) b)
    (go (timing (chip_of chip) input frequency (duty_of duty))))
  where
    go : (r : Result Timing Error) → begun_by init_call (first_of (started (chip_of chip)) r) b ≡ first_with (chip_of chip) r b
    go (Ok t) = refl
    go (Err e) = refl

pub init_step_at : (b : List ℕ) (a : ℕ) → step_left (in_block init_call) [] b [] a ≡ init_step b a
unfolding init_step init_held
init_step_at b a = refl

pub init_slave_begin_at : (b : List ℕ) (ten address has second general stretching : ℕ) → begin_left [] (begin_at init_slave_call (taken_config ten address has second general stretching) b) [] ≡ init_slave_begin b ten address has second general stretching
unfolding init_slave_begin init_slave_held
init_slave_begin_at b ten address has second general stretching =
    ap (λ (x : After). begin_left [] x [])
    (begin_as init_slave_call (unknown_flags ten has general stretching) config b (init_refusal config) (standing init_slave_on (slave.started config)) (go (init_refusal config)))
  where
    config : SlaveConfig
    config = config_of ten address has second general stretching

    go : (o : maybe.Option Error) → begun_by init_slave_call (first_of (λ _. slave.started config) (answering o)) b ≡ begin_by o b (standing init_slave_on (slave.started config))
    go maybe.none = refl
    go (maybe.some e) = refl

pub init_slave_step_at : (b : List ℕ) (a : ℕ) → step_left (in_block init_slave_call) [] b [] a ≡ init_slave_step b a
unfolding init_slave_step init_slave_held
init_slave_step_at b a = refl
