-- `init_slave`: what begin and step leave. No bytes are read.
use Rattle.std.specs.Prelude.{Bool, ◌||◌, List, [], ℕ, eqb, ltb, Option}
use Rattle.slave.specs.declared.config.SlaveConfig.{SlaveConfig}
use Rattle.images.specs.InitSlaveImage.{address_of, second_of}
use Rattle.call.specs.Edge.{known}
use Rattle.calls.specs.InitSlave.{init_slave_on}
use Rattle.calls.specs.InitSlave as on_block
use Rattle.call.specs.Left.{Left, begin_left, step_left}

-- a flag that is 1
abbrev pub is_one : ℕ → Bool
is_one n = eqb n 1

-- the configuration that C's numbers mean
abbrev pub config_of : ℕ → ℕ → ℕ → ℕ → ℕ → ℕ → SlaveConfig
config_of ten address has second general stretching =
    record { address = address_of (is_one ten) address; second_address = second_of (is_one has) second; general_call = is_one general; clock_stretching = is_one stretching }

-- a flag that is neither 0 nor 1
abbrev pub unknown_flags : ℕ → ℕ → ℕ → ℕ → Bool
unknown_flags ten has general stretching = (ltb 1 ten || ltb 1 has) || (ltb 1 general || ltb 1 stretching)

unfoldable pub init_slave_begin : List ℕ → ℕ → ℕ → ℕ → ℕ → ℕ → ℕ → Left
init_slave_begin block ten address has second general stretching =
    begin_left [] (on_block.init_slave_begin (unknown_flags ten has general stretching) (config_of ten address has second general stretching) block) []

unfoldable pub init_slave_step : List ℕ → ℕ → Left
init_slave_step block a = step_left init_slave_on [] block [] a

-- the configuration, unless one of its flags means nothing
abbrev pub taken_config : ℕ → ℕ → ℕ → ℕ → ℕ → ℕ → Option SlaveConfig
taken_config ten address has second general stretching = known (unknown_flags ten has general stretching) (config_of ten address has second general stretching)
