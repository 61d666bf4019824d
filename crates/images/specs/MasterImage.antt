-- The state of a master call in a block.
use Rattle.std.specs.Prelude.{ℕ, Bool, cond, ◌&&◌, eqb, Option, Some, None}
use Rattle.access.specs.Endings.{ending_of, ending_error, ending_value, ending_extra}
use Rattle.block.specs.declared.fields.Fields.{Fields}
use Rattle.block.specs.Fields.{same_fields}
use Rattle.master.specs.declared.call.FrameOptions.{FrameOptions}
use Rattle.master.specs.declared.call.FrameOptions.TheVariants as frameOptions
use Rattle.master.specs.declared.call.Kind.{Kind}
use Rattle.master.specs.declared.call.Kind.TheVariants as kind
use Rattle.master.specs.declared.state.State.{State}
use Rattle.images.specs.Numbers.{transaction_entry, write_read_entry, write_entry, read_entry, flag_number, flag_at, is_flag, chip_number, chip_of, is_chip}
use Rattle.stage_numbers.specs.MasterStage.{stage_group, stage_what, stage_phase, stage_of}

abbrev pub frame_options_number : FrameOptions → ℕ
frame_options_number frameOptions.FirstAndLastFrame = 0
frame_options_number frameOptions.FirstFrame = 1
frame_options_number frameOptions.FirstAndNextFrame = 2
frame_options_number frameOptions.NextFrame = 3
frame_options_number frameOptions.LastFrame = 4
frame_options_number frameOptions.LastFrameNoStop = 5

abbrev pub frame_options_of : ℕ → FrameOptions
frame_options_of n = cond (eqb n 0) frameOptions.FirstAndLastFrame (cond (eqb n 1) frameOptions.FirstFrame (cond (eqb n 2) frameOptions.FirstAndNextFrame (cond (eqb n 3) frameOptions.NextFrame (cond (eqb n 4) frameOptions.LastFrame frameOptions.LastFrameNoStop))))

abbrev pub kind_entry : Kind → ℕ
kind_entry kind.Transaction = transaction_entry
kind_entry kind.WriteRead = write_read_entry
kind_entry (kind.Write o) = write_entry
kind_entry (kind.Read o) = read_entry

abbrev pub kind_option : Kind → ℕ
kind_option kind.Transaction = 0
kind_option kind.WriteRead = 0
kind_option (kind.Write o) = frame_options_number o
kind_option (kind.Read o) = frame_options_number o

abbrev pub kind_of : ℕ → ℕ → Kind
kind_of entry option =
    cond (eqb entry transaction_entry) kind.Transaction
    (cond (eqb entry write_read_entry) kind.WriteRead
    (cond (eqb entry write_entry) (kind.Write (frame_options_of option)) (kind.Read (frame_options_of option))))

-- numbers that the kind that they tell has
unfoldable pub is_kind : ℕ → ℕ → Bool
is_kind entry option = eqb (kind_entry (kind_of entry option)) entry && eqb (kind_option (kind_of entry option)) option

-- what a block says of a state
unfoldable pub master_fields : State → Fields
master_fields s = record { entry = kind_entry s.call.kind; chip = chip_number s.call.chip; option = kind_option s.call.kind; stage = stage_group s.stage; what = stage_what s.stage; phase = stage_phase s.stage; marks = flag_number s.progress.reading; error = ending_error s.progress.ending; address = s.call.address; run = s.progress.run; left = s.progress.left; place = s.progress.place; word = s.progress.word; divider = s.progress.divider; rise = s.progress.rise; value = ending_value s.progress.ending; count = 0; second = 0; mhz = 0; extra = ending_extra s.progress.ending }

-- the state that a block says, if it is the image of one
unfoldable pub master_of : Fields → State
master_of f =
    record {
      call = record { chip = chip_of f.chip; address = f.address; kind = kind_of f.entry f.option };
      stage = stage_of f.stage f.what f.phase;
      progress =
          record { reading = flag_at 1 f.marks; run = f.run; left = f.left; place = f.place; word = f.word; divider = f.divider; rise = f.rise; ending = ending_of f.error f.value f.extra };
    }

-- the numbers that no master call has a use for are 0
unfoldable pub unused_empty : Fields → Bool
unused_empty f = eqb f.count 0 && (eqb f.second 0 && eqb f.mhz 0)

-- the numbers beside those of the stage and the ending are an image's
unfoldable pub is_call : Fields → Bool
is_call f = is_kind f.entry f.option && (is_chip f.chip && (is_flag f.marks && unused_empty f))

-- the state whose image a block is
unfoldable pub master_in : Fields → Option State
master_in f = cond (same_fields (master_fields (master_of f)) f) (Some (master_of f)) None
