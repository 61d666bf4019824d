-- `init` on its block.
use Rattle.std.specs.Prelude.{Bool, cond, ◌&&◌, List, ℕ, eqb, leb, length, Option, Some, None, Result, Ok, Err}
use Rattle.std.proofs.Math.Option.{none}
use Rattle.access.specs.declared.ending.Error.{Error}
use Rattle.registers.specs.declared.chip.Chip.{Chip}
use Rattle.block.specs.Bytes32.{block_size, fields_of, bytes_of}
use Rattle.timing.specs.declared.settings.Duty.{Duty}
use Rattle.timing.specs.declared.settings.Timing.{Timing}
use Rattle.timing.specs.declared.init.State.{State}
use Rattle.timing.specs.Rust.{timing}
use Rattle.timing.specs.Machine.{init_machine, started, owed, advance}
use Rattle.images.specs.InitImage.{init_fields, init_in}
use Rattle.call.specs.OnBlock.{After, OnBlock, refused, standing, begin_on}
use Rattle.call.specs.CallOn.{CallOn, state_in, first_of}
use Rattle.calls.specs.declared.init.Wanted.{Wanted}

-- a divider that begin can have found: 4, or fast 1, to 4095
abbrev pub in_range : Timing → Bool
in_range t = leb (cond t.fast 1 4) t.divider && leb t.divider 4095

-- a state with another divider is none
abbrev pub fitting : Option State → Option State
fitting (Some s) = cond (in_range s.timing) (Some s) None
fitting None = None

-- the state that a block holds
unfoldable pub init_held : List ℕ → Option State
init_held block = cond (eqb (length block) block_size) (fitting (init_in (fields_of block))) None

abbrev pub init_on : OnBlock
init_on = record { machine = init_machine; image = λ s. bytes_of (init_fields s); held = λ b. state_in (init_held b) }

-- the settings, or the cause that there are none
abbrev pub first_with : Chip → Result Timing Error → List ℕ → After
first_with chip (Ok t) b = standing init_on (started chip t)
first_with chip (Err e) b = refused e b

abbrev pub init_begin : Bool → Chip → ℕ → ℕ → Duty → List ℕ → After
init_begin unknown chip input frequency duty b = begin_on unknown none b (first_with chip (timing chip input frequency duty) b)

-- by its types
abbrev pub init_call : CallOn Wanted State (List ℕ)
init_call =
    record {
      need = owed;
      move = advance;
      image = λ s. bytes_of (init_fields s);
      held = λ b. fitting (init_in (fields_of b));
      first = λ x. first_of (started x.chip) (timing x.chip x.input x.frequency x.duty);
    }
