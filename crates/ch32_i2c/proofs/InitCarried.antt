-- Begin and step of `init` and of `init_slave` make what their machines show.
-- Assumes nothing.
use mathlib.Core.Path.{◌≡◌, refl, ap, sym, ◌∙◌}
use mathlib.Core.Bool.{true}
use mathlib.Core.List.{List, []}
use mathlib.Core.Option.{none}
use Prim.Native.Nat.{ℕ}
use lib.ListN.{length}
use Rattle.block.specs.Bytes32.{bytes_of}
use Rattle.timing.specs.declared.init.State.{State}
use Rattle.timing.specs.Machine as timing
use Rattle.slave.specs.declared.init.InitState.{InitState}
use Rattle.slave.specs.Init as slave
use Rattle.images.specs.InitImage.{init_fields}
use Rattle.images.specs.InitSlaveImage.{init_slave_fields}
use Rattle.call.specs.OnBlock.{OnBlock, IsRun}
use Rattle.calls.specs.Init as initCall
use Rattle.calls.specs.InitSlave as initSlaveCall
use Rattle.call.specs.Left.{step_left}
use Rattle.ch32_i2c.specs.Init as init
use Rattle.ch32_i2c.specs.InitSlave as init_slave
use Rattle.ch32_i2c.specs.Fed.{Entry}
use Rattle.call.specs.CallOn.{state_in}
use Rattle.timing.proofs.SettingsStay.{settings_stay}
use Rattle.slave_driver.proofs.ConfigStays.{config_stays}
use Rattle.ch32_i2c.proofs.HeldLaws.{init_held_lem, init_slave_held_lem}
use Rattle.ch32_i2c.proofs.Carried.{Carries, carries, nothing_read}

-- a call that is lent nothing
nothing_read_on : (c : OnBlock) (b r : List ℕ) (a : ℕ) → length r ≡ 0 → step_left c [] b [] a ≡ step_left c [] b r a
nothing_read_on c b r a z = ap (λ (x : List ℕ). step_left c [] b x a) (sym (nothing_read r z))

-- ---- init

-- a state whose divider is in range
abbrev pub InitFit : State → Type 0
InitFit s = initCall.in_range s.timing ≡ true

abbrev pub init_image : State → List ℕ
init_image s = bytes_of (init_fields s)

abbrev pub init_entry : ℕ → ℕ → ℕ → ℕ → Entry
init_entry chip input frequency duty = record { begin = λ b r. init.init_begin b chip input frequency duty; step = λ b r a. init.init_step b a }

init_run : IsRun initCall.init_on timing.init_machine (λ s. s) InitFit
init_run = record { needs = λ s. refl; moves = λ s a. refl; stays = λ s a g. ap initCall.in_range (settings_stay s a) ∙ g; held = λ s g. ap state_in (init_held_lem s g) }

pub init_carries : (chip input frequency duty : ℕ) → Carries timing.init_machine [] 0 (init_entry chip input frequency duty) init_image InitFit
unfolding init.init_step
init_carries chip input frequency duty = carries init_run [] (init_entry chip input frequency duty) 0 (nothing_read_on initCall.init_on)

-- ---- init_slave

-- a state whose configuration begin would take
abbrev pub InitSlaveFit : InitState → Type 0
InitSlaveFit s = slave.init_refusal s.config ≡ none

abbrev pub init_slave_image : InitState → List ℕ
init_slave_image s = bytes_of (init_slave_fields s)

abbrev pub init_slave_entry : ℕ → ℕ → ℕ → ℕ → ℕ → ℕ → Entry
init_slave_entry ten address has second general stretching =
    record { begin = λ b r. init_slave.init_slave_begin b ten address has second general stretching; step = λ b r a. init_slave.init_slave_step b a }

init_slave_run : IsRun initSlaveCall.init_slave_on slave.init_machine (λ s. s) InitSlaveFit
init_slave_run =
    record { needs = λ s. refl; moves = λ s a. refl; stays = λ s a g. ap slave.init_refusal (config_stays s a) ∙ g; held = λ s g. ap state_in (init_slave_held_lem s g) }

pub init_slave_carries : (ten address has second general stretching : ℕ) → Carries slave.init_machine [] 0 (init_slave_entry ten address has second general stretching) init_slave_image InitSlaveFit
unfolding init_slave.init_slave_step
init_slave_carries ten address has second general stretching =
    carries init_slave_run [] (init_slave_entry ten address has second general stretching) 0 (nothing_read_on initSlaveCall.init_slave_on)
