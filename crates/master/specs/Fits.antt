-- Which states fit what is lent: those whose stage, counts and ending a run of the call can have. The words last read may be any.
use Rattle.std.specs.Prelude.{Bool, true, false, not, ◌&&◌, ◌||◌, ℕ, ◌+◌, eqb, leb, ltb, Option, Some, None}
use Rattle.std.specs.Bool.{beq}
use Rattle.registers.specs.declared.chip.Chip.{Chip}
use Rattle.access.specs.Endings.{is_done}
use Rattle.errors.specs.Met.{has_failed}
use Rattle.operations.specs.declared.search.Run.{Run}
use Rattle.operations.specs.Operations.{is_read}
use Rattle.operations.specs.Runs.{run_at}
use Rattle.master.specs.declared.call.Setting.{Setting}
use Rattle.master.specs.declared.stage.Fall.{Fall}
use Rattle.master.specs.declared.stage.Fall.TheVariants as fall
use Rattle.master.specs.declared.stage.Flag.{Flag}
use Rattle.master.specs.declared.stage.Flag.TheVariants.{Sb, Addr, Txe, Sent, Three, Two, Rxne}
use Rattle.master.specs.declared.stage.ReadStage.{ReadStage}
use Rattle.master.specs.declared.stage.ReadStage.TheVariants as read
use Rattle.master.specs.declared.stage.StopFor.{StopFor}
use Rattle.master.specs.declared.stage.StopFor.TheVariants as stop
use Rattle.master.specs.declared.stage.AbortStage.{AbortStage}
use Rattle.master.specs.declared.stage.AbortStage.TheVariants as abort
use Rattle.master.specs.declared.stage.Stage.{Stage}
use Rattle.master.specs.declared.stage.Stage.TheVariants.{Begin, WaitStop, LaunchStart, Wait, Address, SendByte, RecvByte, ReadIter, GenerateStop, Abort, Ended}
use Rattle.master.specs.declared.state.Progress.{Progress}
use Rattle.master.specs.declared.state.Move.{Move}
use Rattle.master.specs.Machine.{Shape, stops_here}

-- the direction is the run's, and so are the bytes that are left
abbrev pub counts : Run → Progress → Bool
counts r d = beq (is_read r.direction) d.reading && (leb d.left r.length && eqb (d.place + d.left) (r.before + r.length))

-- the run is not begun
abbrev pub untouched : Progress → Bool
untouched d = not d.reading && (eqb d.left 0 && eqb d.place 0)

-- no byte has been moved
abbrev pub whole : Run → Progress → Bool
whole r d = eqb d.left r.length

-- a byte of a write is under way
abbrev pub sending : Progress → Bool
sending d = not d.reading && ltb 0 d.left

-- the rise time is kept with i2c_v3 alone
abbrev pub fits_abort : Chip → AbortStage → Bool
fits_abort chip abort.FinishRead = true
fits_abort chip abort.FinishWrite = true
fits_abort chip abort.Control = true
fits_abort chip abort.Frequency = true
fits_abort chip abort.Divider = true
fits_abort chip abort.Rise = chip.i2c_v3
fits_abort chip abort.Reset = true
fits_abort chip abort.Release = true
fits_abort chip abort.PutFrequency = true
fits_abort chip abort.PutDivider = true
fits_abort chip abort.PutRise = chip.i2c_v3
fits_abort chip abort.Enable = true
fits_abort chip abort.Master = true
fits_abort chip abort.StopRead = true
fits_abort chip abort.StopWrite = true

-- within a run, with no error so far
abbrev pub runs : Run → Bool → Progress → Bool
runs r b d = counts r d && (is_done d.ending && b)

-- in an abort
abbrev pub aborts : Chip → Run → AbortStage → Progress → Bool
aborts chip r st d = counts r d && (has_failed chip true d.ending && fits_abort chip st)

-- ended with an error, or with all runs done
abbrev pub is_over : Chip → Run → Progress → Bool
is_over chip r d = has_failed chip true d.ending || (is_done d.ending && (eqb d.left 0 && not r.more))

module _ (g : Setting) (r : Run) where
  -- between the run's START and its bytes
  abbrev pub starting : Progress → Bool
  starting d = g.frame.send_start && whole r d

  -- a byte is read by RXNE: with NACK only the only one, or one that more than two follow
  abbrev pub receiving : Progress → Bool
  receiving d = d.reading && (ltb 0 d.left && (not g.frame.send_nack || (ltb 3 d.left || eqb r.length 1)))

  -- one of the last bytes, read by BTF
  abbrev pub last_ones : ℕ → Progress → Bool
  last_ones n d = d.reading && (g.frame.send_nack && (eqb d.left n && ltb 1 r.length))

  -- a run of one byte to read, behind its START
  abbrev pub single : Progress → Bool
  single d = d.reading && (starting d && eqb r.length 1)

  -- all bytes are moved, and STOP is asked
  abbrev pub closing : Progress → Bool
  closing d = stops_here g r && eqb d.left 0

  abbrev pub fits_fall : Fall → Progress → Bool
  fits_fall fall.Start d = starting d
  fits_fall fall.End d = closing d

  abbrev pub fits_wait : Flag → Progress → Bool
  fits_wait Sb d = starting d
  fits_wait Addr d = starting d
  fits_wait Txe d = sending d
  fits_wait Sent d = sending d
  fits_wait Three d = last_ones 3 d
  fits_wait Two d = last_ones 2 d
  fits_wait Rxne d = receiving d

  -- one or two bytes are read, with NACK
  abbrev pub short_nack : Progress → Bool
  short_nack d = d.reading && (starting d && (leb r.length 2 && g.frame.send_nack))

  -- one byte is read, and START asked behind it
  abbrev pub start_behind : Progress → Bool
  start_behind d = single d && (g.frame.send_nack && not (stops_here g r))

  -- two bytes are left, and START is asked before them
  abbrev pub start_before : Progress → Bool
  start_before d = last_ones 2 d && not (stops_here g r)

  -- a read run ends with STOP
  abbrev pub read_closing : Progress → Bool
  read_closing d = d.reading && closing d

  abbrev pub fits_read : ReadStage → Progress → Bool
  fits_read read.PosWrite d = d.reading && whole r d
  fits_read read.AckRead d = short_nack d
  fits_read read.AckWrite d = short_nack d
  fits_read read.StartRead d = start_behind d
  fits_read read.StartWrite d = start_behind d
  fits_read read.NackRead d = last_ones 3 d
  fits_read read.NackWrite d = last_ones 3 d
  fits_read read.Third d = last_ones 3 d
  fits_read read.AgainRead d = start_before d
  fits_read read.AgainWrite d = start_before d
  fits_read read.SecondLast d = last_ones 2 d
  fits_read read.Last d = last_ones 1 d
  fits_read read.PosOffRead d = read_closing d
  fits_read read.PosOffWrite d = read_closing d

  abbrev pub fits_stop : StopFor → Progress → Bool
  fits_stop stop.Write d = not d.reading && closing d
  fits_stop stop.One d = single d && stops_here g r
  fits_stop stop.Two d = last_ones 2 d && stops_here g r

  -- before the first access of a run
  abbrev pub fits_begin : Progress → Bool
  fits_begin d = untouched d && (is_done d.ending && (is_read r.direction || g.frame.send_start))

  abbrev pub fits_at : Stage → Progress → Bool
  fits_at Begin d = fits_begin d
  fits_at (WaitStop f st) d = runs r (fits_fall f d) d
  fits_at (LaunchStart st) d = runs r (starting d) d
  fits_at (Wait f st) d = runs r (fits_wait f d) d
  fits_at (Address st) d = runs r (starting d) d
  fits_at SendByte d = runs r (sending d) d
  fits_at (RecvByte st) d = runs r (receiving d) d
  fits_at (ReadIter st) d = runs r (fits_read st d) d
  fits_at (GenerateStop k st) d = runs r (fits_stop k d) d
  fits_at (Abort st) d = aborts g.chip r st d
  fits_at Ended d = counts r d && is_over g.chip r d

-- an empty list has ended at once
abbrev pub is_fresh : Progress → Bool
is_fresh d =
    not d.reading && (eqb d.run 0 && (eqb d.left 0 && (eqb d.place 0
    && (eqb d.word 0 && (eqb d.divider 0 && (eqb d.rise 0 && is_done d.ending))))))

abbrev pub fits_nothing : Stage → Progress → Bool
fits_nothing Begin d = false
fits_nothing (WaitStop f st) d = false
fits_nothing (LaunchStart st) d = false
fits_nothing (Wait f st) d = false
fits_nothing (Address st) d = false
fits_nothing SendByte d = false
fits_nothing (RecvByte st) d = false
fits_nothing (ReadIter st) d = false
fits_nothing (GenerateStop k st) d = false
fits_nothing (Abort st) d = false
fits_nothing Ended d = is_fresh d

abbrev pub fits_found : Setting → Option Run → Stage → Progress → Bool
fits_found g (Some r) st d = fits_at g r st d
fits_found g None st d = fits_nothing st d

unfoldable pub fits : Shape → Move → Bool
fits sh m = fits_found sh.setting (run_at sh.runs m.progress.run) m.stage m.progress
