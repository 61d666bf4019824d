-- The state of a slave call in a block.
use Rattle.std.specs.Prelude.{ℕ, Bool, cond, ◌&&◌, eqb, Option, Some, None}
use Rattle.block.specs.declared.fields.Fields.{Fields}
use Rattle.block.specs.Fields.{same_fields}
use Rattle.access.specs.Endings.{ending_of, ending_error, ending_value, ending_extra}
use Rattle.slave.specs.declared.state.Kind.{Kind}
use Rattle.slave.specs.declared.state.Kind.TheVariants as kind
use Rattle.slave.specs.declared.state.State.{State}
use Rattle.images.specs.Numbers.{listen_entry, respond_to_write_entry, respond_to_read_entry, chip_number, chip_of, is_chip}
use Rattle.stage_numbers.specs.SlaveStage.{stage_group, stage_what, stage_phase, stage_of}

abbrev pub kind_entry : Kind → ℕ
kind_entry kind.Listen = listen_entry
kind_entry kind.RespondToWrite = respond_to_write_entry
kind_entry kind.RespondToRead = respond_to_read_entry

abbrev pub kind_of : ℕ → Kind
kind_of entry = cond (eqb entry listen_entry) kind.Listen (cond (eqb entry respond_to_write_entry) kind.RespondToWrite kind.RespondToRead)

-- a number that the kind that it tells has
unfoldable pub is_kind : ℕ → Bool
is_kind entry = eqb (kind_entry (kind_of entry)) entry

-- what a block says of a state
unfoldable pub slave_fields : State → Fields
slave_fields s = record { entry = kind_entry s.kind; chip = chip_number s.chip; option = 0; stage = stage_group s.stage; what = stage_what s.stage; phase = stage_phase s.stage; marks = 0; error = ending_error s.progress.ending; address = 0; run = 0; left = 0; place = 0; word = s.progress.word; divider = 0; rise = 0; value = ending_value s.progress.ending; count = s.progress.count; second = 0; mhz = 0; extra = ending_extra s.progress.ending }

-- the state that a block says, if it is the image of one
unfoldable pub slave_of : Fields → State
slave_of f =
    record { chip = chip_of f.chip; kind = kind_of f.entry; stage = stage_of f.stage f.what f.phase; progress = record { count = f.count; word = f.word; ending = ending_of f.error f.value f.extra } }

-- the numbers that no slave call has a use for are 0
unfoldable pub unused_empty : Fields → Bool
unused_empty f =
    (eqb f.run 0 && (eqb f.left 0 && eqb f.place 0))
    && ((eqb f.divider 0 && eqb f.rise 0)
    && ((eqb f.marks 0 && eqb f.address 0) && (eqb f.second 0 && eqb f.mhz 0)))

-- the numbers beside those of the stage and the ending are an image's
unfoldable pub is_call : Fields → Bool
is_call f = (is_kind f.entry && eqb f.option 0) && (is_chip f.chip && unused_empty f)

-- the state whose image a block is
unfoldable pub slave_in : Fields → Option State
slave_in f = cond (same_fields (slave_fields (slave_of f)) f) (Some (slave_of f)) None
