-- What a step knows of the run that it is in, and which stages fit it: crate master's tests, on these numbers.
use Rattle.std.specs.Prelude.{Bool, not, ◌&&◌, ◌||◌, List, ℕ, eqb, leb, ltb, get_or}
use Rattle.block.specs.Bytes32.{word_at}
use Rattle.operations.specs.declared.search.Run.{Run}
use Rattle.master.specs.declared.call.Call.{Call}
use Rattle.master.specs.declared.stage.Fall.{Fall}
use Rattle.master.specs.declared.stage.Fall.TheVariants as fall
use Rattle.master.specs.declared.stage.Flag.{Flag}
use Rattle.master.specs.declared.stage.Flag.TheVariants.{Sb, Addr, Txe, Sent, Three, Two, Rxne}
use Rattle.master.specs.declared.stage.ReadStage.{ReadStage}
use Rattle.master.specs.declared.stage.ReadStage.TheVariants as read
use Rattle.master.specs.declared.stage.StopFor.{StopFor}
use Rattle.master.specs.declared.stage.StopFor.TheVariants as stop
use Rattle.master.specs.declared.state.Progress.{Progress}
use Rattle.master.specs.Machine.{stops_here}
use Rattle.master.specs.Calls.{setting_of}
use Rattle.master_step.specs.declared.here.Here.{Here}

-- what there is to know in the run r of the call c, where this is its direction
abbrev pub here_in : Call → Run → Bool → Here
here_in c r reading = record { reading = reading; length = r.length; before = r.before; more = r.more; start = (setting_of c).frame.send_start; stops = stops_here (setting_of c) r; nack = (setting_of c).frame.send_nack }

-- the same with the progress d
abbrev pub here_of : Call → Run → Progress → Here
here_of c r d = here_in c r d.reading

module _ (h : Here) (left : ℕ) where
  abbrev pub starting_in : Bool
  starting_in = h.start && eqb left h.length

  abbrev pub closing_in : Bool
  closing_in = h.stops && eqb left 0

  abbrev pub sending_in : Bool
  sending_in = not h.reading && ltb 0 left

  abbrev pub receiving_in : Bool
  receiving_in = h.reading && (ltb 0 left && (not h.nack || (ltb 3 left || eqb h.length 1)))

  abbrev pub last_ones_in : ℕ → Bool
  last_ones_in n = h.reading && (h.nack && (eqb left n && ltb 1 h.length))

  abbrev pub fits_fall_in : Fall → Bool
  fits_fall_in fall.Start = starting_in
  fits_fall_in fall.End = closing_in

  abbrev pub fits_wait_in : Flag → Bool
  fits_wait_in Sb = starting_in
  fits_wait_in Addr = starting_in
  fits_wait_in Txe = sending_in
  fits_wait_in Sent = sending_in
  fits_wait_in Three = last_ones_in 3
  fits_wait_in Two = last_ones_in 2
  fits_wait_in Rxne = receiving_in

  abbrev pub single_in : Bool
  single_in = h.reading && (starting_in && eqb h.length 1)

  abbrev pub short_nack_in : Bool
  short_nack_in = h.reading && (starting_in && (leb h.length 2 && h.nack))

  abbrev pub start_behind_in : Bool
  start_behind_in = single_in && (h.nack && not h.stops)

  abbrev pub start_before_in : Bool
  start_before_in = last_ones_in 2 && not h.stops

  abbrev pub read_closing_in : Bool
  read_closing_in = h.reading && closing_in

  abbrev pub fits_read_in : ReadStage → Bool
  fits_read_in read.PosWrite = h.reading && eqb left h.length
  fits_read_in read.AckRead = short_nack_in
  fits_read_in read.AckWrite = short_nack_in
  fits_read_in read.StartRead = start_behind_in
  fits_read_in read.StartWrite = start_behind_in
  fits_read_in read.NackRead = last_ones_in 3
  fits_read_in read.NackWrite = last_ones_in 3
  fits_read_in read.Third = last_ones_in 3
  fits_read_in read.AgainRead = start_before_in
  fits_read_in read.AgainWrite = start_before_in
  fits_read_in read.SecondLast = last_ones_in 2
  fits_read_in read.Last = last_ones_in 1
  fits_read_in read.PosOffRead = read_closing_in
  fits_read_in read.PosOffWrite = read_closing_in

  abbrev pub fits_stop_in : StopFor → Bool
  fits_stop_in stop.Write = not h.reading && closing_in
  fits_stop_in stop.One = single_in && h.stops
  fits_stop_in stop.Two = last_ones_in 2 && h.stops

-- the block has nothing of the run yet, and the run has a first access
unfoldable pub fits_begin_in : Here → ℕ → ℕ → ℕ → List ℕ → Bool
fits_begin_in h left what phase block = eqb what 0 && (eqb phase 0 && (eqb (get_or block 6 0) 0 && (eqb left 0 && (eqb (word_at block 14) 0 && (h.reading || h.start)))))
