-- `init`: what begin and step leave. No bytes are read.
use Rattle.std.specs.Prelude.{cond, ◌||◌, List, [], ℕ, eqb, ltb, Option}
use Rattle.timing.specs.declared.settings.Duty.{Duty}
use Rattle.timing.specs.declared.settings.Duty.TheVariants.{Duty2_1, Duty16_9}
use Rattle.images.specs.Numbers.{chip_of}
use Rattle.call.specs.Edge.{known}
use Rattle.calls.specs.declared.init.Wanted.{Wanted}
use Rattle.calls.specs.Init.{init_on}
use Rattle.calls.specs.Init as on_block
use Rattle.call.specs.Left.{Left, begin_left, step_left}

abbrev pub duty_of : ℕ → Duty
duty_of n = cond (eqb n 0) Duty2_1 Duty16_9

unfoldable pub init_begin : List ℕ → ℕ → ℕ → ℕ → ℕ → Left
init_begin block chip input frequency duty = begin_left [] (on_block.init_begin (ltb 3 chip || ltb 1 duty) (chip_of chip) input frequency (duty_of duty) block) []

unfoldable pub init_step : List ℕ → ℕ → Left
init_step block a = step_left init_on [] block [] a

-- what C's numbers ask for, unless one is none of `init`'s
abbrev pub wanted_of : ℕ → ℕ → ℕ → ℕ → Option Wanted
wanted_of chip input frequency duty = known (ltb 3 chip || ltb 1 duty) (record { input = input; frequency = frequency; duty = duty_of duty; chip = chip_of chip })
