-- Listening, receives and replies on their blocks.
use Rattle.std.specs.Prelude as prelude
use Rattle.std.specs.Prelude.{cond, List, ℕ, eqb, ltb, length, Some, None}
use Rattle.std.proofs.Math.Option.{Option, none, some}
use Rattle.registers.specs.declared.chip.Chip.{Chip}
use Rattle.access.specs.Machine.{Machine}
use Rattle.block.specs.Bytes32.{block_size, fields_of, bytes_of}
use Rattle.images.specs.Numbers.{chip_of}
use Rattle.images.specs.SlaveImage.{kind_entry, slave_fields, slave_in}
use Rattle.slave.specs.declared.state.Kind.{Kind}
use Rattle.slave.specs.declared.state.State.{State}
use Rattle.slave.specs.Machine.{advance_at, start}
use Rattle.slave.specs.Calls.{size_refusal}
use Rattle.slave.specs.Steps.{state_at, setting_in, need_of, fits_lent}
use Rattle.slave_step.specs.Held.{held_in, fitting_in}
use Rattle.call.specs.CallOn.{CallOn, first_unless}
use Rattle.call.specs.OnBlock.{After, OnBlock, standing, begin_on}

-- the state that a block holds of an entry's call
unfoldable pub slave_held : ℕ → List ℕ → prelude.Option State
slave_held entry block = cond (eqb (length block) block_size) (cond (eqb (fields_of block).entry entry) (slave_in (fields_of block)) None) None

-- with so many bytes lent
module _ (size : ℕ) where
  abbrev pub moved : State → ℕ → State
  moved s a = state_at (setting_in s size) (advance_at (setting_in s size) s.stage s.progress a)

  abbrev pub fitting : prelude.Option State → Option State
  fitting (Some s) = cond (fits_lent s size) (some s) none
  fitting None = none

  abbrev pub response_machine : Machine
  response_machine = record { State = State; need = λ s. need_of s size; move = moved }

  -- the slave calls of an entry
  abbrev pub response_on : ℕ → OnBlock
  response_on entry = record { machine = response_machine; image = λ s. bytes_of (slave_fields s); held = λ b. fitting (slave_held entry b) }

  -- where a call begins
  abbrev pub first_state : Chip → Kind → State
  first_state chip x = state_at (record { chip = chip; kind = x; size = size }) (start x)

  abbrev pub response_begin : ℕ → Kind → List ℕ → After
  response_begin chip x b = begin_on (ltb 3 chip) (size_refusal size) b (standing (response_on (kind_entry x)) (first_state (chip_of chip) x))

  -- by its types; begin is given C's number of the chip
  abbrev pub response_call : Kind → CallOn ℕ State (List ℕ)
  response_call x =
      record {
        need = λ s. need_of s size;
        move = moved;
        image = λ s. bytes_of (slave_fields s);
        held = λ b. fitting_in size (held_in (kind_entry x) b);
        first = λ chip. first_unless (size_refusal size) (first_state (chip_of chip) x);
      }
