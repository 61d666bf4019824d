-- What the block of a call says, and what a store, a move, a refusal and a group of stages make of it. What they are held to is crate
-- master's machine, `advance_at`, `owed_at` and `fits_at`, and crate images' bytes, `bytes_of (master_fields ..)`.
use Rattle.std.specs.Prelude.{◌≡◌, Bool, true, false, cond, ◌&&◌, ◌||◌, List, ℕ, ◌<◌, eqb, ltb, get_or}
use Rattle.registers.specs.declared.chip.Chip.{Chip}
use Rattle.access.specs.declared.ending.Error.TheVariants.{InvalidState}
use Rattle.access.specs.declared.need.Need.{Need}
use Rattle.access.specs.declared.need.Need.TheVariants as need
use Rattle.access.specs.Endings.{done, failed, is_done, ending_error, ending_value, ending_extra}
use Rattle.errors.specs.Met.{has_failed}
use Rattle.block.specs.declared.fields.Fields.{Fields}
use Rattle.block.specs.Bytes32.{bytes_of, fields_of}
use Rattle.images.specs.Numbers.{flag_number, chip_number}
use Rattle.images.specs.MasterImage.{kind_entry, kind_option, master_fields, master_of}
use Rattle.operations.specs.declared.operation.Direction.TheVariants.{Read, Write}
use Rattle.operations.specs.declared.search.Run.{Run}
use Rattle.operations.specs.Operations.{is_read}
use Rattle.master.specs.declared.call.Call.{Call}
use Rattle.master.specs.declared.call.Setting.{Setting}
use Rattle.master.specs.declared.stage.Stage.{Stage}
use Rattle.master.specs.declared.state.Progress.{Progress}
use Rattle.master.specs.declared.state.Move.{Move}
use Rattle.master.specs.Machine.{owed_at, advance_at, abort_transfer, stops_here}
use Rattle.master.specs.Fits.{counts, fits_at, fits_abort}
use Rattle.master.specs.Calls.{setting_of}
use Rattle.master.specs.Steps.{state_at}
use Rattle.stage_numbers.specs.MasterStage.{is_stage, stage_of, abort_stage_of}
use Rattle.master_step.specs.declared.here.Here.{Here}
use Rattle.master_step.specs.declared.input.Input.{Input}
use Rattle.master_step.specs.Going.{here_in}

-- what a block says of the call c with the progress d, where these are the numbers of the stage
unfoldable pub fields_at : Call → Progress → ℕ → ℕ → ℕ → Fields
fields_at c d group what phase = record { entry = kind_entry c.kind; chip = chip_number c.chip; option = kind_option c.kind; stage = group; what = what; phase = phase; marks = flag_number d.reading; error = ending_error d.ending; address = c.address; run = d.run; left = d.left; place = d.place; word = d.word; divider = d.divider; rise = d.rise; value = ending_value d.ending; count = 0; second = 0; mhz = 0; extra = ending_extra d.ending }

-- its bytes
unfoldable pub block_at : Call → Progress → ℕ → ℕ → ℕ → List ℕ
block_at c d group what phase = bytes_of (fields_at c d group what phase)

-- a call where it stands: its progress, and the numbers of its stage
pub record Stand : Type 0 where
  pub call : Call
  pub progress : Progress
  pub group : ℕ
  pub what : ℕ
  pub phase : ℕ

abbrev pub bytes : Stand → List ℕ
bytes s = block_at s.call s.progress s.group s.what s.phase

abbrev pub at_stage : ℕ → ℕ → ℕ → Stand → Stand
at_stage group what phase s = record { call = s.call; progress = s.progress; group = group; what = what; phase = phase }

abbrev pub at_phase : ℕ → Stand → Stand
at_phase phase s = at_stage s.group s.what phase s

abbrev pub on : (Progress → Progress) → Stand → Stand
on f s = record { call = s.call; progress = f s.progress; group = s.group; what = s.what; phase = s.phase }

-- what 32 bytes say, whatever the numbers of the stage
unfoldable pub stand_in : List ℕ → Stand
stand_in b = record { call = (master_of (fields_of b)).call; progress = (master_of (fields_of b)).progress; group = get_or b 3 0; what = get_or b 4 0; phase = get_or b 5 0 }

abbrev pub call_in : List ℕ → Call
call_in b = (stand_in b).call

abbrev pub progress_in : List ℕ → Progress
progress_in b = (stand_in b).progress

-- a store in the block of a call: what it says then
abbrev pub Puts : List ℕ → List ℕ → (Stand → Stand) → Type 0
Puts before after f = bytes (stand_in before) ≡ before → bytes (f (stand_in before)) ≡ after

-- the call c goes where m says: the block is that of the state there, and what is asked for is what is owed there
pub record Moves (c : Call) (m : Move) (after : List ℕ) (asked : Need) : Type 0 where
  pub block : after ≡ bytes_of (master_fields (state_at c m))
  pub owed : asked ≡ owed_at (setting_of c) m.stage m.progress

-- nothing is written
pub record Refuses (before after : List ℕ) (asked : Need) : Type 0 where
  pub block : after ≡ before
  pub ended : asked ≡ need.End (failed InvalidState)

-- a step that is taken if a test holds
pub record Steps (test : Bool) (c : Call) (m : Move) (before after : List ℕ) (asked : Need) : Type 0 where
  pub taken : test ≡ true → Moves c m after asked
  pub refused : test ≡ false → Refuses before after asked

-- the run that a step knows of
abbrev pub run_in : Here → Run
run_in h = record { direction = cond h.reading Read Write; length = h.length; before = h.before; more = h.more }

-- what has been seen before: the block is that of a call where it stands, in the run that is known, with so many bytes left and no
-- error met
pub record Seen (here : Here) (left : ℕ) (s : Stand) (block : List ℕ) : Type 0 where
  pub held : bytes s ≡ block
  pub start : (setting_of s.call).frame.send_start ≡ here.start
  pub stops : stops_here (setting_of s.call) (run_in here) ≡ here.stops
  pub nack : (setting_of s.call).frame.send_nack ≡ here.nack
  pub reading : s.progress.reading ≡ here.reading
  pub rest : s.progress.left ≡ left
  pub ending : s.progress.ending ≡ done

-- a function that goes where m says, whatever the stage
abbrev pub Goes : Here → ℕ → List ℕ → List ℕ → Need → (Setting → Run → Progress → Move) → Type 0
Goes here left before after asked m =
    Seen here left (stand_in before) before → Moves (call_in before) (m (setting_of (call_in before)) (run_in here) (progress_in before)) after asked

-- the same in the stages of a group with this number of what it is for
abbrev pub Within : ℕ → ℕ → Here → ℕ → List ℕ → List ℕ → Need → (Setting → Run → Progress → Move) → Type 0
Within group what here left before after asked m =
    Seen here left (stand_in before) before → (stand_in before).group ≡ group → (stand_in before).what ≡ what
    → Moves (call_in before) (m (setting_of (call_in before)) (run_in here) (progress_in before)) after asked

-- the same, taken if a test holds
abbrev pub StepsWithin : ℕ → ℕ → Bool → Here → ℕ → List ℕ → List ℕ → Need → (Setting → Run → Progress → Move) → Type 0
StepsWithin group what test here left before after asked m =
    Seen here left (stand_in before) before → (stand_in before).group ≡ group → (stand_in before).what ≡ what
    → Steps test (call_in before) (m (setting_of (call_in before)) (run_in here) (progress_in before)) before after asked

-- the numbers of the stage
pub record Numbers (group what phase : ℕ) (s : Stand) : Type 0 where
  pub group_is : s.group ≡ group
  pub what_is : s.what ≡ what
  pub phase_is : s.phase ≡ phase

-- THE CONTRACT OF A GROUP: of all blocks whose counts are the run's, it takes those that hold a stage of the group that fits, and goes
-- where the machine goes; at any other it refuses
abbrev pub Group : ℕ → Here → Input → List ℕ → List ℕ → Need → Type 0
Group group here i before after asked =
    Seen here i.left (stand_in before) before → Numbers group i.what i.phase (stand_in before) → counts (run_in here) (progress_in before) ≡ true
    → Steps (is_stage group i.what i.phase && fits_at (setting_of (call_in before)) (run_in here) (stage_of group i.what i.phase) (progress_in before)) (call_in before) (advance_at (setting_of (call_in before)) (run_in here) (stage_of group i.what i.phase) (progress_in before) i.answer) before after asked

-- THE SAME BEFORE A RUN'S FIRST ACCESS, where the block has no counts of the run yet
pub record Unbegun (here : Here) (left : ℕ) (s : Stand) (block : List ℕ) : Type 0 where
  pub held : bytes s ≡ block
  pub start : (setting_of s.call).frame.send_start ≡ here.start
  pub stops : stops_here (setting_of s.call) (run_in here) ≡ here.stops
  pub nack : (setting_of s.call).frame.send_nack ≡ here.nack
  pub rest : s.progress.left ≡ left
  pub ending : s.progress.ending ≡ done

abbrev pub Beginning : Here → Input → List ℕ → List ℕ → Need → Type 0
Beginning here i before after asked =
    Unbegun here i.left (stand_in before) before → Numbers 0 i.what i.phase (stand_in before)
    → Steps (is_stage 0 i.what i.phase && fits_at (setting_of (call_in before)) (run_in here) (stage_of 0 i.what i.phase) (progress_in before)) (call_in before) (advance_at (setting_of (call_in before)) (run_in here) (stage_of 0 i.what i.phase) (progress_in before) i.answer) before after asked

-- THE SAME IN AN ABORT, whatever the run
abbrev pub Aborting : Input → List ℕ → List ℕ → Need → Type 0
Aborting i before after asked =
    bytes (stand_in before) ≡ before → Numbers 9 i.what i.phase (stand_in before)
    → Steps (is_stage 9 i.what i.phase && fits_abort (call_in before).chip (abort_stage_of i.phase)) (call_in before) (abort_transfer (call_in before).chip (abort_stage_of i.phase) (progress_in before) i.answer) before after asked

-- a function that goes where m says, in an abort
abbrev pub Aborts : List ℕ → List ℕ → Need → (Progress → Move) → Type 0
Aborts before after asked m =
    bytes (stand_in before) ≡ before → (stand_in before).group ≡ 9 → (stand_in before).what ≡ 0 → Moves (call_in before) (m (progress_in before)) after asked

-- whether a block can hold a stage of the group, by its counts and its ending
abbrev pub ready_at : Chip → ℕ → Run → Progress → Bool
ready_at chip group r d = (eqb group 0 || counts r d) && cond (eqb group 9) (has_failed chip true d.ending) (ltb group 9 && is_done d.ending)

-- the block is a call's, and this is what a step knows of its frame and its run
pub record Told (here : Here) (s : Stand) (block : List ℕ) : Type 0 where
  pub held : bytes s ≡ block
  pub start : (setting_of s.call).frame.send_start ≡ here.start
  pub stops : stops_here (setting_of s.call) (run_in here) ≡ here.stops
  pub nack : (setting_of s.call).frame.send_nack ≡ here.nack

-- THE STEP, at any numbers of a stage: what has to be seen before it. The run's counts are in the block unless it is yet to begin, and no
-- error was met, or in an abort one with flags that fit it
pub record Ready (here : Here) (left : ℕ) (s : Stand) (block : List ℕ) : Type 0 where
  pub told : Told here s block
  pub rest : s.progress.left ≡ left
  pub ready : s.group < 10 → ready_at s.call.chip s.group (run_in here) s.progress ≡ true

-- it is taken at a stage that fits and has not ended
abbrev pub Step : ℕ → Here → Input → List ℕ → List ℕ → Need → Type 0
Step group here i before after asked =
    Ready here i.left (stand_in before) before → Numbers group i.what i.phase (stand_in before)
    → Steps (ltb group 10 && (is_stage group i.what i.phase && fits_at (setting_of (call_in before)) (run_in here) (stage_of group i.what i.phase) (progress_in before))) (call_in before) (advance_at (setting_of (call_in before)) (run_in here) (stage_of group i.what i.phase) (progress_in before) i.answer) before after asked

-- the stage of a block's numbers
abbrev pub stage_in : List ℕ → Stage
stage_in b = stage_of (get_or b 3 0) (get_or b 4 0) (get_or b 5 0)

-- whether a step is taken at a block: the numbers are those of a stage that fits and has not ended
abbrev pub is_taken : Call → Run → Progress → List ℕ → Bool
is_taken c r d b = ltb (get_or b 3 0) 10 && (is_stage (get_or b 3 0) (get_or b 4 0) (get_or b 5 0) && fits_at (setting_of c) r (stage_in b) d)

-- THE STEP at a block that is a call's, in the run that is known
abbrev pub StepHere : Here → ℕ → List ℕ → List ℕ → Need → Type 0
StepHere here a before after asked =
    Told here (stand_in before) before
    → Steps (is_taken (call_in before) (run_in here) (progress_in before) before) (call_in before) (advance_at (setting_of (call_in before)) (run_in here) (stage_in before) (progress_in before) a) before after asked

-- a block of the call c with the progress d, in the run r
pub record InRun (c : Call) (r : Run) (d : Progress) (here : Here) (block : List ℕ) : Type 0 where
  pub held : block ≡ block_at c d (get_or block 3 0) (get_or block 4 0) (get_or block 5 0)
  pub going : here ≡ here_in c r (is_read r.direction)

-- THE STEP IN A RUN, at any block of it
abbrev pub StepIn : Here → ℕ → List ℕ → List ℕ → Need → Type 0
StepIn here a before after asked =
    (c : Call) (r : Run) (d : Progress) → InRun c r d here before → Steps (is_taken c r d before) c (advance_at (setting_of c) r (stage_in before) d a) before after asked
