-- `init_slave` on its block.
use Rattle.std.specs.Prelude.{Bool, cond, List, ℕ, eqb, length, Option, Some, None}
use Rattle.block.specs.Bytes32.{block_size, fields_of, bytes_of}
use Rattle.slave.specs.declared.config.SlaveConfig.{SlaveConfig}
use Rattle.slave.specs.declared.init.InitState.{InitState}
use Rattle.slave.specs.Init.{init_machine, started, init_refusal, owed, advance}
use Rattle.slave_driver.specs.Validated.{validated}
use Rattle.images.specs.InitSlaveImage.{init_slave_fields, init_slave_in}
use Rattle.call.specs.OnBlock.{After, OnBlock, standing, begin_on}
use Rattle.call.specs.CallOn.{CallOn, state_in, first_of, unless}

-- a state whose configuration begin would refuse is none
abbrev pub fitting : Option InitState → Option InitState
fitting (Some s) = unless (init_refusal s.config) s
fitting None = None

-- the state that a block holds
unfoldable pub init_slave_held : List ℕ → Option InitState
init_slave_held block = cond (eqb (length block) block_size) (fitting (init_slave_in (fields_of block))) None

abbrev pub init_slave_on : OnBlock
init_slave_on = record { machine = init_machine; image = λ s. bytes_of (init_slave_fields s); held = λ b. state_in (init_slave_held b) }

abbrev pub init_slave_begin : Bool → SlaveConfig → List ℕ → After
init_slave_begin unknown config b = begin_on unknown (init_refusal config) b (standing init_slave_on (started config))

-- by its types
abbrev pub init_slave_call : CallOn SlaveConfig InitState (List ℕ)
init_slave_call =
    record {
      need = owed;
      move = advance;
      image = λ s. bytes_of (init_slave_fields s);
      held = λ b. fitting (init_slave_in (fields_of b));
      first = λ x. first_of (λ _. started x) (validated x);
    }
