-- Layer 2: the master as a machine. A stage and the progress say which access is owed; an answer leads to the next.
use Rattle.std.specs.Prelude.{Bool, true, false, cond, not, ◌&&◌, ◌||◌, List, ℕ, suc, pred, eqb, leb, ltb, Option, Some, None, Err}
use Rattle.registers.specs.declared.chip.Chip.{Chip}
use Rattle.registers.specs.declared.register.Register.TheVariants.{Ctlr1, Ctlr2, Datar, Star1, Star2, Ckcfgr, Rtr}
use Rattle.registers.specs.Bits.{PE, START, STOP, ACK, POS, SWRST, SB, ADDR, BTF, RXNE, TXE, MSL}
use Rattle.registers.specs.Fields.{FREQ, TRANSFER}
use Rattle.registers.specs.Word.{has_bit, put_bit, field_of, put_field}
use Rattle.registers.specs.Flags.{error_flags, clear_error}
use Rattle.registers.specs.Addresses.{address_word}
use Rattle.access.specs.declared.ending.Failure.{Failure}
use Rattle.access.specs.declared.ending.Error.TheVariants.{Arbitration, Timeout}
use Rattle.access.specs.declared.need.Need.{Need}
use Rattle.access.specs.declared.need.Need.TheVariants as need
use Rattle.access.specs.Endings.{Ending, done, failure_of}
use Rattle.access.specs.Program.{late}
use Rattle.access.specs.Machine.{Machine}
use Rattle.errors.specs.Classes.{error_of, decided}
use Rattle.operations.specs.declared.operation.Direction.TheVariants.{Write}
use Rattle.operations.specs.declared.search.Run.{Run}
use Rattle.operations.specs.Operations.{is_read}
use Rattle.operations.specs.Runs.{Span, run_at}
use Rattle.master.specs.declared.call.Setting.{Setting}
use Rattle.master.specs.declared.stage.Fall.{Fall}
use Rattle.master.specs.declared.stage.Fall.TheVariants as fall
use Rattle.master.specs.declared.stage.FallStage.{FallStage}
use Rattle.master.specs.declared.stage.FallStage.TheVariants as falling
use Rattle.master.specs.declared.stage.LaunchStage.{LaunchStage}
use Rattle.master.specs.declared.stage.LaunchStage.TheVariants as launch
use Rattle.master.specs.declared.stage.Flag.{Flag}
use Rattle.master.specs.declared.stage.Flag.TheVariants.{Sb, Addr, Txe, Sent, Three, Two, Rxne}
use Rattle.master.specs.declared.stage.WaitStage.{WaitStage}
use Rattle.master.specs.declared.stage.WaitStage.TheVariants as wait
use Rattle.master.specs.declared.stage.AddressStage.{AddressStage}
use Rattle.master.specs.declared.stage.AddressStage.TheVariants as address
use Rattle.master.specs.declared.stage.RecvStage.{RecvStage}
use Rattle.master.specs.declared.stage.RecvStage.TheVariants as recv
use Rattle.master.specs.declared.stage.ReadStage.{ReadStage}
use Rattle.master.specs.declared.stage.ReadStage.TheVariants as read
use Rattle.master.specs.declared.stage.StopFor.{StopFor}
use Rattle.master.specs.declared.stage.StopFor.TheVariants as stop
use Rattle.master.specs.declared.stage.Half.{Half}
use Rattle.master.specs.declared.stage.Half.TheVariants as half
use Rattle.master.specs.declared.stage.AbortStage.{AbortStage}
use Rattle.master.specs.declared.stage.AbortStage.TheVariants as abort
use Rattle.master.specs.declared.stage.Stage.{Stage}
use Rattle.master.specs.declared.stage.Stage.TheVariants.{Begin, WaitStop, LaunchStart, Wait, Address, SendByte, RecvByte, ReadIter, GenerateStop, Abort, Ended}
use Rattle.master.specs.declared.state.Progress.{Progress}
use Rattle.master.specs.declared.state.Move.{Move}

-- ---- progress

abbrev pub to : Stage → Progress → Move
to st d = record { stage = st; progress = d }

abbrev pub saves : ℕ → Progress → Progress
saves w d = record { reading = d.reading; run = d.run; left = d.left; place = d.place; word = w; divider = d.divider; rise = d.rise; ending = d.ending }

abbrev pub saves_divider : ℕ → Progress → Progress
saves_divider w d = record { reading = d.reading; run = d.run; left = d.left; place = d.place; word = d.word; divider = w; rise = d.rise; ending = d.ending }

abbrev pub saves_rise : ℕ → Progress → Progress
saves_rise w d = record { reading = d.reading; run = d.run; left = d.left; place = d.place; word = d.word; divider = d.divider; rise = w; ending = d.ending }

abbrev pub ends_with : Ending → Progress → Progress
ends_with e d = record { reading = d.reading; run = d.run; left = d.left; place = d.place; word = d.word; divider = d.divider; rise = d.rise; ending = e }

-- the 16-bit number behind n
abbrev pub next16 : ℕ → ℕ
next16 n = cond (ltb n 65535) (suc n) 0

-- a run: its direction, how many bytes are left, and the place of the next
abbrev pub counted : Bool → ℕ → ℕ → Progress → Progress
counted reading left place d = record { reading = reading; run = d.run; left = left; place = place; word = d.word; divider = d.divider; rise = d.rise; ending = d.ending }

-- a byte of the run is sent, or has arrived
abbrev pub byte_done : Progress → Progress
byte_done d = counted d.reading (pred d.left) (next16 d.place) d

-- the run begins
abbrev pub begun : Run → Progress → Progress
begun r d = counted (is_read r.direction) r.length r.before d

-- on to the next run
abbrev pub next_run : Progress → Progress
next_run d = record { reading = false; run = next16 d.run; left = 0; place = 0; word = d.word; divider = d.divider; rise = d.rise; ending = d.ending }

abbrev pub fresh : Progress
fresh = record { reading = false; run = 0; left = 0; place = 0; word = 0; divider = 0; rise = 0; ending = done }

-- an error: the abort begins
abbrev pub fails : Failure → Progress → Move
fails x d = to (Abort abort.FinishRead) (ends_with (Err x) d)

-- whether the flag that is waited for is set in the word that the error check read; RXNE is tested in another
abbrev pub is_set : Flag → ℕ → Bool
is_set Sb w = has_bit SB w
is_set Addr w = has_bit ADDR w
is_set Txe w = has_bit TXE w
is_set Sent w = has_bit BTF w
is_set Three w = has_bit BTF w
is_set Two w = has_bit BTF w
is_set Rxne w = true

-- ---- where an answer leads

-- behind a run, and its STOP
abbrev pub continues : Run → Progress → Move
continues r d = cond r.more (to Begin (next_run d)) (to Ended d)

-- STOP has fallen
abbrev pub fallen : Fall → Progress → Move
fallen fall.Start d = to (LaunchStart launch.Control) d
fallen fall.End d = cond d.reading (to (ReadIter read.PosOffRead) d) (to Ended d)

abbrev pub wait_stop_finished : FallStage → Fall → Progress → ℕ → Move
wait_stop_finished falling.Control f d a = cond (has_bit STOP a) (to (WaitStop f falling.Clock) d) (fallen f d)
wait_stop_finished falling.Clock f d a = cond (late a) (fails (failure_of Timeout) d) (to (WaitStop f falling.Control) d)

abbrev pub launch_start : LaunchStage → Progress → ℕ → Move
launch_start launch.Control d a = cond (has_bit START a) (to (Wait Sb wait.Status) d) (to (LaunchStart launch.Status) d)
launch_start launch.Status d a = cond (not (has_bit SB a)) (to (LaunchStart launch.Read) d) (to (Wait Sb wait.Status) d)
launch_start launch.Read d a = to (LaunchStart launch.Write) (saves a d)
launch_start launch.Write d a = to (Wait Sb wait.Status) d

-- the byte is out
abbrev pub send_byte : Progress → Move
send_byte d = to (Wait Sent wait.Status) d

abbrev pub abort_transfer : Chip → AbortStage → Progress → ℕ → Move
abort_transfer chip abort.FinishRead d a = to (Abort abort.FinishWrite) (saves a d)
abort_transfer chip abort.FinishWrite d a = to (Abort abort.Control) d
abort_transfer chip abort.Control d a = cond (has_bit START a || has_bit STOP a) (to (Abort abort.Frequency) d) (to (Abort abort.Master) d)
abort_transfer chip abort.Frequency d a = to (Abort abort.Divider) (saves a d)
abort_transfer chip abort.Divider d a = cond chip.i2c_v3 (to (Abort abort.Rise) (saves_divider a d)) (to (Abort abort.Reset) (saves_divider a d))
abort_transfer chip abort.Rise d a = to (Abort abort.Reset) (saves_rise a d)
abort_transfer chip abort.Reset d a = to (Abort abort.Release) d
abort_transfer chip abort.Release d a = to (Abort abort.PutFrequency) d
abort_transfer chip abort.PutFrequency d a = to (Abort abort.PutDivider) d
abort_transfer chip abort.PutDivider d a = cond chip.i2c_v3 (to (Abort abort.PutRise) d) (to (Abort abort.Enable) d)
abort_transfer chip abort.PutRise d a = to (Abort abort.Enable) d
abort_transfer chip abort.Enable d a = to Ended d
abort_transfer chip abort.Master d a = cond (has_bit MSL a) (to (Abort abort.StopRead) d) (to Ended d)
abort_transfer chip abort.StopRead d a = to (Abort abort.StopWrite) (saves a d)
abort_transfer chip abort.StopWrite d a = to Ended d

-- the first answer of a run: CTLR1, for POS or for STOP
abbrev pub begins : Progress → ℕ → Move
begins d a = cond d.reading (to (ReadIter read.PosWrite) (saves a d)) (wait_stop_finished falling.Control fall.Start d a)

-- ---- the same in a call with the setting g and the run r

module _ (g : Setting) (r : Run) where
  -- STOP is asked at the end of the last run alone
  abbrev pub stops_here : Bool
  stops_here = cond r.more false g.frame.send_stop

  -- the bytes of the run are done
  abbrev pub finished : Progress → Move
  finished d = cond stops_here (cond d.reading (to (WaitStop fall.End falling.Control) d) (to (GenerateStop stop.Write half.Read) d)) (continues r d)

  -- a write goes on with its next byte
  abbrev pub write_bytes_move : Progress → Move
  write_bytes_move d = cond (eqb d.left 0) (finished d) (to (Wait Txe wait.Status) d)

  -- a read goes on with its next byte; the last three are read by BTF, except a single one
  abbrev pub read_bytes : Progress → Move
  read_bytes d =
      cond (eqb d.left 0) (finished d)
      (cond (g.frame.send_nack && eqb d.left 2) (to (Wait Two wait.Status) d)
      (cond (g.frame.send_nack && eqb d.left 3) (to (Wait Three wait.Status) d) (to (Wait Rxne wait.Status) d)))

  -- the wait is over
  abbrev pub waited : Flag → Progress → Move
  waited Sb d = to (Address address.Control) d
  waited Addr d = cond (d.reading && (leb d.left 2 && g.frame.send_nack)) (to (ReadIter read.AckRead) d) (to (Address address.Cleared) d)
  waited Txe d = to SendByte d
  waited Sent d = write_bytes_move (byte_done d)
  waited Three d = to (ReadIter read.NackRead) d
  waited Two d = cond stops_here (to (GenerateStop stop.Two half.Read) d) (to (ReadIter read.AgainRead) d)
  waited Rxne d = to (RecvByte recv.Status) d

  -- no error in the status word w: the test
  abbrev pub tests : Flag → Progress → ℕ → Move
  tests f d w = cond (not (is_set f w)) (to (Wait f wait.Clock) d) (waited f d)

  -- the flags of the status word w are cleared: the first decides
  abbrev pub judged : Flag → Progress → ℕ → Move
  judged f d w = decided (error_of g.chip true w) (λ x. fails x d) (tests f d w)

  -- the status word a: its error flags are to be cleared, or there is none
  abbrev pub check_and_clear_error_flags : Flag → Progress → ℕ → Move
  check_and_clear_error_flags f d a = cond (not (eqb (error_flags a) 0)) (to (Wait f wait.Clear) (saves a d)) (tests f d a)

  abbrev pub waits : WaitStage → Flag → Progress → ℕ → Move
  waits wait.Status f d a = check_and_clear_error_flags f d a
  waits wait.Clear f d a = judged f d d.word
  waits wait.Clock f d a = cond (late a) (fails (failure_of Timeout) d) (to (Wait f wait.Status) d)

  -- STAR2 is read behind ADDR
  abbrev pub read_addressed : Progress → Move
  read_addressed d =
      cond (eqb d.left 1 && stops_here) (to (GenerateStop stop.One half.Read) d)
      (cond (eqb d.left 1 && g.frame.send_nack) (to (ReadIter read.StartRead) d) (read_bytes d))

  abbrev pub addressed : Progress → Move
  addressed d = cond d.reading (read_addressed d) (write_bytes_move d)

  abbrev pub address_phase : AddressStage → Progress → ℕ → Move
  address_phase address.Control d a = cond (has_bit START a) (fails (failure_of Arbitration) d) (to (Address address.Master) d)
  address_phase address.Master d a = cond (not (has_bit MSL a)) (fails (failure_of Arbitration) d) (to (Address address.Word) d)
  address_phase address.Word d a = to (Wait Addr wait.Status) d
  address_phase address.Cleared d a = addressed d

  abbrev pub recv_byte : RecvStage → Progress → ℕ → Move
  recv_byte recv.Status d a = cond (not (has_bit RXNE a)) (to (Wait Rxne wait.Clock) d) (to (RecvByte recv.Data) d)
  recv_byte recv.Data d a = read_bytes (byte_done d)

  abbrev pub blocking_read_iter : ReadStage → Progress → ℕ → Move
  blocking_read_iter read.PosWrite d a = cond g.frame.send_start (to (WaitStop fall.Start falling.Control) d) (read_bytes d)
  blocking_read_iter read.AckRead d a = to (ReadIter read.AckWrite) (saves a d)
  blocking_read_iter read.AckWrite d a = to (Address address.Cleared) d
  blocking_read_iter read.StartRead d a = to (ReadIter read.StartWrite) (saves a d)
  blocking_read_iter read.StartWrite d a = read_bytes d
  blocking_read_iter read.NackRead d a = to (ReadIter read.NackWrite) (saves a d)
  blocking_read_iter read.NackWrite d a = to (ReadIter read.Third) d
  blocking_read_iter read.Third d a = to (Wait Two wait.Status) (byte_done d)
  blocking_read_iter read.AgainRead d a = to (ReadIter read.AgainWrite) (saves a d)
  blocking_read_iter read.AgainWrite d a = to (ReadIter read.SecondLast) d
  blocking_read_iter read.SecondLast d a = to (ReadIter read.Last) (byte_done d)
  blocking_read_iter read.Last d a = finished (byte_done d)
  blocking_read_iter read.PosOffRead d a = to (ReadIter read.PosOffWrite) (saves a d)
  blocking_read_iter read.PosOffWrite d a = to Ended d

  -- STOP is asked
  abbrev pub stopped : StopFor → Progress → Move
  stopped stop.Write d = to (WaitStop fall.End falling.Control) d
  stopped stop.One d = read_bytes d
  stopped stop.Two d = to (ReadIter read.SecondLast) d

  abbrev pub generate_stop : Half → StopFor → Progress → ℕ → Move
  generate_stop half.Read k d a = to (GenerateStop k half.Write) (saves a d)
  generate_stop half.Write k d a = stopped k d

  abbrev pub advance_at : Stage → Progress → ℕ → Move
  advance_at Begin d a = begins (begun r d) a
  advance_at (WaitStop f st) d a = wait_stop_finished st f d a
  advance_at (LaunchStart st) d a = launch_start st d a
  advance_at (Wait f st) d a = waits st f d a
  advance_at (Address st) d a = address_phase st d a
  advance_at SendByte d a = send_byte d
  advance_at (RecvByte st) d a = recv_byte st d a
  advance_at (ReadIter st) d a = blocking_read_iter st d a
  advance_at (GenerateStop k st) d a = generate_stop st k d a
  advance_at (Abort st) d a = abort_transfer g.chip st d a
  advance_at Ended d a = to Ended d

  -- where a call begins: a write without START has no first access of its own
  abbrev pub begins_at : Move
  begins_at = cond (is_read r.direction || g.frame.send_start) (to Begin fresh) (write_bytes_move (begun r fresh))

-- ---- what is owed

-- CTLR2 without its transfer bits
abbrev pub finish_transfer : ℕ → ℕ
finish_transfer w = put_field TRANSFER 0 w

-- CTLR2 with nothing but the frequency of the word w
abbrev pub only_frequency : ℕ → ℕ
only_frequency w = put_field FREQ (field_of FREQ w) 0

-- CTLR1 with START, and for a read with ACK
abbrev pub start_word : Progress → ℕ
start_word d = cond d.reading (put_bit ACK true (put_bit START true d.word)) (put_bit START true d.word)

abbrev pub owed_fall : FallStage → Need
owed_fall falling.Control = need.Read Ctlr1
owed_fall falling.Clock = need.Clock

abbrev pub owed_launch : LaunchStage → Progress → Need
owed_launch launch.Control d = need.Read Ctlr1
owed_launch launch.Status d = need.Read Star1
owed_launch launch.Read d = need.Read Ctlr1
owed_launch launch.Write d = need.Write Ctlr1 (start_word d)

abbrev pub owed_wait : WaitStage → Progress → Need
owed_wait wait.Status d = need.Read Star1
owed_wait wait.Clear d = need.Write Star1 (clear_error (error_flags d.word))
owed_wait wait.Clock d = need.Clock

abbrev pub owed_address : ℕ → AddressStage → Progress → Need
owed_address addr address.Control d = need.Read Ctlr1
owed_address addr address.Master d = need.Read Star2
owed_address addr address.Word d = need.Write Datar (address_word addr d.reading)
owed_address addr address.Cleared d = need.Read Star2

abbrev pub owed_recv : RecvStage → Progress → Need
owed_recv recv.Status d = need.Read Star1
owed_recv recv.Data d = need.Keep d.place

-- `nack`: the frame asks NACK
abbrev pub owed_read : Bool → ReadStage → Progress → Need
owed_read nack read.PosWrite d = need.Write Ctlr1 (put_bit POS (eqb d.left 2 && nack) d.word)
owed_read nack read.AckRead d = need.Read Ctlr1
owed_read nack read.AckWrite d = need.Write Ctlr1 (put_bit ACK false d.word)
owed_read nack read.StartRead d = need.Read Ctlr1
owed_read nack read.StartWrite d = need.Write Ctlr1 (put_bit START true d.word)
owed_read nack read.NackRead d = need.Read Ctlr1
owed_read nack read.NackWrite d = need.Write Ctlr1 (put_bit ACK false d.word)
owed_read nack read.Third d = need.Keep d.place
owed_read nack read.AgainRead d = need.Read Ctlr1
owed_read nack read.AgainWrite d = need.Write Ctlr1 (put_bit START true d.word)
owed_read nack read.SecondLast d = need.Keep d.place
owed_read nack read.Last d = need.Keep d.place
owed_read nack read.PosOffRead d = need.Read Ctlr1
owed_read nack read.PosOffWrite d = need.Write Ctlr1 (put_bit POS false d.word)

abbrev pub owed_stop : Half → Progress → Need
owed_stop half.Read d = need.Read Ctlr1
owed_stop half.Write d = need.Write Ctlr1 (put_bit STOP true d.word)

abbrev pub owed_abort : AbortStage → Progress → Need
owed_abort abort.FinishRead d = need.Read Ctlr2
owed_abort abort.FinishWrite d = need.Write Ctlr2 (finish_transfer d.word)
owed_abort abort.Control d = need.Read Ctlr1
owed_abort abort.Frequency d = need.Read Ctlr2
owed_abort abort.Divider d = need.Read Ckcfgr
owed_abort abort.Rise d = need.Read Rtr
owed_abort abort.Reset d = need.Write Ctlr1 (put_bit SWRST true 0)
owed_abort abort.Release d = need.Write Ctlr1 (put_bit SWRST false 0)
owed_abort abort.PutFrequency d = need.Write Ctlr2 (only_frequency d.word)
owed_abort abort.PutDivider d = need.Write Ckcfgr d.divider
owed_abort abort.PutRise d = need.Write Rtr d.rise
owed_abort abort.Enable d = need.Write Ctlr1 (put_bit PE true 0)
owed_abort abort.Master d = need.Read Star2
owed_abort abort.StopRead d = need.Read Ctlr1
owed_abort abort.StopWrite d = need.Write Ctlr1 (put_bit STOP true d.word)

module _ (g : Setting) where
  abbrev pub owed_at : Stage → Progress → Need
  owed_at Begin d = need.Read Ctlr1
  owed_at (WaitStop f st) d = owed_fall st
  owed_at (LaunchStart st) d = owed_launch st d
  owed_at (Wait f st) d = owed_wait st d
  owed_at (Address st) d = owed_address g.address st d
  owed_at SendByte d = need.Send d.place
  owed_at (RecvByte st) d = owed_recv st d
  owed_at (ReadIter st) d = owed_read g.frame.send_nack st d
  owed_at (GenerateStop k st) d = owed_stop st d
  owed_at (Abort st) d = owed_abort st d
  owed_at Ended d = need.End d.ending

-- ---- the machine of a call

-- what a master call comes to: its setting and its runs
pub record Shape : Type 0 where
  pub setting : Setting
  pub runs : List Span

abbrev pub no_run : Run
no_run = record { direction = Write; length = 0; before = 0; more = false }

abbrev pub found_run : Option Run → Run
found_run (Some r) = r
found_run None = no_run

-- the run of a number
abbrev pub run_of : Shape → ℕ → Run
run_of sh k = found_run (run_at sh.runs k)

-- where a call begins; an empty list has ended
abbrev pub start_with : Setting → Option Run → Move
start_with g (Some r) = begins_at g r
start_with g None = to Ended fresh

module _ (sh : Shape) where
  unfoldable pub owed : Move → Need
  owed m = owed_at sh.setting m.stage m.progress

  unfoldable pub advance : Move → ℕ → Move
  advance m a = advance_at sh.setting (run_of sh m.progress.run) m.stage m.progress a

  abbrev pub master : Machine
  master = record { State = Move; need = owed; move = advance }

  abbrev pub start : Move
  start = start_with sh.setting (run_at sh.runs 0)
