-- The block of a slave call, and what a store, a move, a refusal and a group of stages make of it. What they are held to is crate slave's
-- machine, `advance_at`, `owed_at` and `fits_at`, and crate images' bytes, `bytes_of (slave_fields ..)`.
use Rattle.std.specs.Prelude.{◌≡◌, Bool, true, false, cond, not, ◌&&◌, ◌||◌, List, ℕ, eqb, ltb, length, Option, Some, None}
use Rattle.registers.specs.declared.chip.Chip.{Chip}
use Rattle.access.specs.declared.ending.Error.TheVariants.{InvalidState}
use Rattle.access.specs.declared.need.Need.TheVariants as need
use Rattle.access.specs.Endings.{failed, is_done, ending_error, ending_value, ending_extra}
use Rattle.errors.specs.Met.{has_failed}
use Rattle.access.specs.Machine.{kept as stored}
use Rattle.block.specs.declared.fields.Fields.{Fields}
use Rattle.block.specs.Bytes32.{bytes_of, fields_of, block_size}
use Rattle.images.specs.Numbers.{chip_number, chip_of}
use Rattle.images.specs.SlaveImage.{kind_entry, kind_of, slave_fields, slave_of, slave_in}
use Rattle.slave.specs.declared.state.Kind.{Kind}
use Rattle.slave.specs.declared.state.Move.{Move}
use Rattle.slave.specs.declared.state.Progress.{Progress}
use Rattle.slave.specs.declared.state.Setting.{Setting}
use Rattle.slave.specs.Machine.{owed_at, advance_at, start}
use Rattle.slave.specs.declared.stage.StopfFor.{StopfFor}
use Rattle.slave.specs.declared.stage.StopfFor.TheVariants as stopf
use Rattle.slave.specs.Fits.{is_listen, counts, returns, fits_at}
use Rattle.slave.specs.Steps.{state_at, setting_in, need_of, is_open, fits_lent}
use Rattle.slave.specs.declared.state.State.{State}
use Rattle.stage_numbers.specs.SlaveStage.{is_stage, stage_of}
use Rattle.access.specs.declared.need.Need.{Need}
use Rattle.slave_step.specs.declared.here.Here.{Here}

-- what a block says of the call g with the progress d, where these are the numbers of the stage
unfoldable pub fields_at : Setting → Progress → ℕ → ℕ → ℕ → Fields
fields_at g d group what phase = record { entry = kind_entry g.kind; chip = chip_number g.chip; option = 0; stage = group; what = what; phase = phase; marks = 0; error = ending_error d.ending; address = 0; run = 0; left = 0; place = 0; word = d.word; divider = 0; rise = 0; value = ending_value d.ending; count = d.count; second = 0; mhz = 0; extra = ending_extra d.ending }

-- its bytes
unfoldable pub block_at : Setting → Progress → ℕ → ℕ → ℕ → List ℕ
block_at g d group what phase = bytes_of (fields_at g d group what phase)

-- what a block says of a call that has done nothing yet, at the first stage of a group
unfoldable pub begun_fields : ℕ → ℕ → ℕ → Fields
begun_fields entry chip group = record { entry = entry; chip = chip_number (chip_of chip); option = 0; stage = group; what = 0; phase = 0; marks = 0; error = 0; address = 0; run = 0; left = 0; place = 0; word = 0; divider = 0; rise = 0; value = 0; count = 0; second = 0; mhz = 0; extra = 0 }

-- where a call of a kind begins
unfoldable pub first_fields : Kind → ℕ → Fields
first_fields kind chip = slave_fields (state_at (record { chip = chip_of chip; kind = kind; size = 0 }) (start kind))

-- stores that change the progress as f says, and the numbers of the stage
pub record Puts (before after : List ℕ) (f : Progress → Progress) (group what phase : ℕ → ℕ) : Type 0 where
  pub size : length after ≡ block_size
  pub block : (g : Setting) (d : Progress) (n w p : ℕ) → before ≡ block_at g d n w p → after ≡ block_at g (f d) (group n) (what w) (phase p)

abbrev pub kept : ℕ → ℕ
kept n = n

-- what a step goes by, where this is the entry's number and so many bytes are lent
abbrev pub setting_at : Chip → ℕ → ℕ → Setting
setting_at chip entry size = record { chip = chip; kind = kind_of entry; size = size }

-- a call with what is lent, and how far it is
pub record Call : Type 0 where
  pub setting : Setting
  pub progress : Progress

-- what 32 bytes tell of an entry's call, with so many bytes lent
abbrev pub said_in : ℕ → ℕ → Fields → Call
said_in entry size f = record { setting = setting_at (chip_of f.chip) entry size; progress = (slave_of f).progress }

-- its block, where these are the numbers of the stage
abbrev pub image : Call → ℕ → ℕ → ℕ → List ℕ
image s group what phase = block_at s.setting s.progress group what phase

-- the call g goes where m says: the block is that of the state there, and what is asked for is what is owed there
pub record Moves (g : Setting) (m : Move) (after : List ℕ) (asked : Need) : Type 0 where
  pub block : after ≡ bytes_of (slave_fields (state_at g m))
  pub owed : asked ≡ owed_at g m.stage m.progress

-- nothing is written
pub record Refuses (before after : List ℕ) (asked : Need) : Type 0 where
  pub block : after ≡ before
  pub ended : asked ≡ need.End (failed InvalidState)

-- a step that is taken if a test holds
pub record Steps (test : Bool) (g : Setting) (m : Move) (before after : List ℕ) (asked : Need) : Type 0 where
  pub taken : test ≡ true → Moves g m after asked
  pub refused : test ≡ false → Refuses before after asked

-- ---- THE CONTRACT OF A GROUP

-- the stages in which what is to be returned is known
abbrev pub closing : ℕ → ℕ → Bool
closing group what = (eqb group 0 && eqb what 1) || eqb group 7

-- the ending that the stages of a group have
abbrev pub ends_at : Setting → Progress → ℕ → ℕ → Bool
ends_at g d group what = cond (closing group what) (returns g d) (cond (eqb group 9) (has_failed g.chip false d.ending) (is_done d.ending))

-- whether a block can hold a stage of the group, by its count and its ending
abbrev pub ready_at : Setting → Progress → ℕ → ℕ → Bool
ready_at g d group what = counts g d && ends_at g d group what

-- what has to be seen before a step, whatever the numbers of the stage: the count is one that the call can have, and the ending one of the
-- group's
abbrev pub is_seen : Call → ℕ → ℕ → Bool
is_seen s group what = ready_at s.setting s.progress group what

-- what STOPF is cleared for in a call of the kind: before listening, or at the end of a response
abbrev pub is_for : Kind → StopfFor → Bool
is_for kind stopf.Listen = is_listen kind
is_for kind stopf.End = not (is_listen kind)

-- whether a call is at a stage of these numbers, which fits
abbrev pub fits_in : Call → ℕ → ℕ → ℕ → Bool
fits_in s group what phase = is_stage group what phase && fits_at s.setting (stage_of group what phase) s.progress

-- the call s stands in the block, in the group, with what the code knows of it
pub record Stands (s : Call) (here : Here) (group : ℕ) (block : List ℕ) : Type 0 where
  pub held : image s group here.what here.phase ≡ block
  pub seen : is_seen s group here.what ≡ true
  pub kind : s.setting.kind ≡ here.kind
  pub lent : s.setting.size ≡ here.size
  pub counted : s.progress.count ≡ here.count

-- where the step leads from the stage of the group
abbrev pub leads : Call → Here → ℕ → Move
leads s here group = advance_at s.setting (stage_of group here.what here.phase) s.progress here.answer

-- it is taken at a stage of the group that fits, and goes where the machine goes; at any other it is refused
abbrev pub Group : ℕ → Call → Here → List ℕ → List ℕ → Need → Type 0
Group group s here before after asked = Steps (fits_in s group here.what here.phase) s.setting (leads s here group) before after asked

-- THE STEP, at any numbers of a stage: it is taken at a stage that fits and has not ended
abbrev pub Step : ℕ → Call → Here → List ℕ → List ℕ → Need → Type 0
Step group s here before after asked = Steps (ltb group 10 && fits_in s group here.what here.phase) s.setting (leads s here group) before after asked

-- ---- THE WHOLE STEP

-- the state that 32 bytes hold of an entry's call: what crate images finds in them, if its entry is this one
unfoldable pub held_in : ℕ → List ℕ → Option State
held_in entry block = cond (eqb (fields_of block).entry entry) (slave_in (fields_of block)) None

-- the state that a block is found to hold, if it fits so many bytes that are lent
abbrev pub fitting_in : ℕ → Option State → Option State
fitting_in size (Some s) = cond (fits_lent s size) (Some s) None
fitting_in size None = None

-- with so many bytes lent: a state that is open goes where the machine goes, and at any other, or at none, the step is refused
abbrev pub StepsFrom : Option State → ℕ → ℕ → List ℕ → List ℕ → Need → Type 0
StepsFrom (Some s) size a before after asked = Steps (is_open s size) (setting_in s size) (advance_at (setting_in s size) s.stage s.progress a) before after asked
StepsFrom None size a before after asked = Refuses before after asked

-- what a buffer becomes by it
abbrev pub StoresFrom : Option State → ℕ → ℕ → List ℕ → List ℕ → Type 0
StoresFrom (Some s) size a before after = after ≡ cond (is_open s size) (stored (need_of s size) a before) before
StoresFrom None size a before after = after ≡ before
