-- The state of `init` in a block.
use Rattle.std.specs.Prelude.{ℕ, cond, false, eqb, Option, Some, None}
use Rattle.block.specs.declared.fields.Fields.{Fields}
use Rattle.block.specs.Fields.{same_fields}
use Rattle.timing.specs.declared.init.Stage.{Stage}
use Rattle.timing.specs.declared.init.Stage.TheVariants as stage
use Rattle.timing.specs.declared.init.State.{State}
use Rattle.images.specs.Numbers.{init_entry, flags_number, flag_at, chip_number, chip_of}

abbrev pub stage_number : Stage → ℕ
stage_number stage.DisableRead = 0
stage_number stage.DisableWrite = 1
stage_number stage.ResetRead = 2
stage_number stage.ResetWrite = 3
stage_number stage.ReleaseRead = 4
stage_number stage.ReleaseWrite = 5
stage_number stage.FrequencyRead = 6
stage_number stage.FrequencyWrite = 7
stage_number stage.RiseWrite = 8
stage_number stage.ClockWrite = 9
stage_number stage.EnableRead = 10
stage_number stage.EnableWrite = 11
stage_number stage.Ended = 12

abbrev pub stage_of : ℕ → Stage
stage_of n = cond (eqb n 0) stage.DisableRead (cond (eqb n 1) stage.DisableWrite (cond (eqb n 2) stage.ResetRead (cond (eqb n 3) stage.ResetWrite (cond (eqb n 4) stage.ReleaseRead (cond (eqb n 5) stage.ReleaseWrite (cond (eqb n 6) stage.FrequencyRead (cond (eqb n 7) stage.FrequencyWrite (cond (eqb n 8) stage.RiseWrite (cond (eqb n 9) stage.ClockWrite (cond (eqb n 10) stage.EnableRead (cond (eqb n 11) stage.EnableWrite stage.Ended)))))))))))

-- what a block says of a state; the rise time stands where a second address does
unfoldable pub init_fields : State → Fields
init_fields s = record { entry = init_entry; chip = chip_number s.chip; option = 0; stage = stage_number s.stage; what = 0; phase = 0; marks = flags_number s.timing.fast s.timing.duty false false; error = 0; address = 0; run = 0; left = 0; place = 0; word = s.saved; divider = s.timing.divider; rise = 0; value = 0; count = 0; second = s.timing.rise; mhz = s.timing.input_mhz; extra = 0 }

-- the state that a block says, if it is the image of one
unfoldable pub init_of : Fields → State
init_of f =
    record {
      chip = chip_of f.chip;
      timing = record { input_mhz = f.mhz; rise = f.second; divider = f.divider; fast = flag_at 1 f.marks; duty = flag_at 2 f.marks };
      stage = stage_of f.stage;
      saved = f.word;
    }

-- the state whose image a block is
unfoldable pub init_in : Fields → Option State
init_in f = cond (same_fields (init_fields (init_of f)) f) (Some (init_of f)) None
