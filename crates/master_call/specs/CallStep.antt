-- A step of a transfer on its block, by what is lent: the list, and how many bytes to write and to read.
use Rattle.access.specs.declared.need.Need.{Need}
use Rattle.std.specs.Prelude.{Bool, not, cond, ◌&&◌, ◌||◌, List, ℕ, ◌+◌, eqb, leb, ltb, Option, Some, None}
use Rattle.access.specs.Machine.{is_end}
use Rattle.block.specs.Bytes32.{fields_of, Bytes}
use Rattle.access.specs.Endings.{is_ending}
use Rattle.images.specs.MasterImage.{master_in, is_call}
use Rattle.master.specs.declared.state.State.{State}
use Rattle.master.specs.Machine.{advance_at, run_of}
use Rattle.master.specs.Calls.{setting_of, shape_by}
use Rattle.master.specs.Steps.{need_of, fits_lent}
use Rattle.master_step.specs.declared.here.Here.{Here}
use Rattle.master_step.specs.Held.{Steps, Refuses}

-- the numbers beside those of the stage are those of a call of this entry
unfoldable pub is_call_of : ℕ → List ℕ → Bool
is_call_of entry b = eqb (fields_of b).entry entry && (is_call (fields_of b) && is_ending (fields_of b).error (fields_of b).value (fields_of b).extra)

-- the state of an entry's call that a block of 32 bytes holds
unfoldable pub held_in : ℕ → List ℕ → Option State
held_in entry b = cond (eqb (fields_of b).entry entry) (master_in (fields_of b)) None

-- the state that is found, if it fits this list and so many bytes to write and to read
abbrev pub fitting_in : List ℕ → ℕ → ℕ → Option State → Option State
fitting_in list written room (Some s) = cond (fits_lent s list written room) (Some s) None
fitting_in list written room None = None

-- what there is to know of a run, with the number of a frame's option
abbrev pub here_by : Bool → ℕ → ℕ → Bool → ℕ → Here
here_by reading length before more option =
    record { reading = reading; length = length; before = before; more = more; start = ltb option 3; stops = not more && (eqb option 0 || eqb option 4); nack = not (eqb option 2 || eqb option 3) }

-- something to read, and no more than 65,535 bytes together
abbrev pub few_enough : ℕ → ℕ → Bool
few_enough written room = not (eqb room 0) && leb (written + room) 65535

-- a step is taken where begin would accept what is lent, the state fits it and has not ended
abbrev pub is_open : State → List ℕ → ℕ → ℕ → Bool
is_open s list written room = fits_lent s list written room && not (is_end (need_of s))

-- what becomes of a block in which this is found
abbrev pub Stepped : Option State → List ℕ → ℕ → ℕ → ℕ → List ℕ → List ℕ → Need → Type 0
Stepped (Some s) list written room a before after asked =
    Steps (is_open s list written room) s.call (advance_at (setting_of s.call) (run_of (shape_by s.call list written room) s.progress.run) s.stage s.progress a) before after asked
Stepped None list written room a before after asked = Refuses before after asked

-- THE CONTRACT of a step of this entry
abbrev pub CallSteps : ℕ → List ℕ → ℕ → ℕ → ℕ → List ℕ → List ℕ → Need → Type 0
CallSteps entry list written room a before after asked = Bytes before → Stepped (held_in entry before) list written room a before after asked
