-- A transfer makes at most two writes for each answer that it takes: a law about the machine's stages.
-- Assumes nothing.
use mathlib.Core.Bool.{true, not, ◌&&◌, ◌||◌}
use mathlib.Core.List.{List, [], ◌∷◌}
use Prim.Native.Nat.{ℕ, ◌+◌, ◌*◌, ◌≤◌}
use native.Mathlib.Omega.{arith}
use lib.Dec.{eqb, leb}
use Rattle.std.specs.Prelude.{Option, Some, None}
use Rattle.registers.specs.Bits.{START, STOP, SB, RXNE, MSL}
use Rattle.registers.specs.Word.{has_bit}
use Rattle.registers.specs.Flags.{error_flags}
use Rattle.access.specs.declared.ending.Failure.{Failure}
use Rattle.access.specs.declared.need.Need.{Need}
use Rattle.access.specs.declared.need.Need.TheVariants as need
use Rattle.access.specs.Program.{late}
use Rattle.access.specs.Record.{Shown}
use Rattle.access.specs.Machine.{Machine, seen_owed, seen_answered, shown_from}
use Rattle.access.proofs.Choice.{chosen}
use Rattle.errors.specs.Classes.{error_of, decided}
use Rattle.operations.specs.declared.search.Run.{Run}
use Rattle.master.specs.declared.call.Setting.{Setting}
use Rattle.master.specs.declared.stage.Fall.{Fall}
use Rattle.master.specs.declared.stage.Fall.TheVariants as fall
use Rattle.master.specs.declared.stage.FallStage.TheVariants as falling
use Rattle.master.specs.declared.stage.LaunchStage.{LaunchStage}
use Rattle.master.specs.declared.stage.LaunchStage.TheVariants as launch
use Rattle.master.specs.declared.stage.Flag.{Flag}
use Rattle.master.specs.declared.stage.Flag.TheVariants.{Sb, Addr, Txe, Sent, Three, Two, Rxne}
use Rattle.master.specs.declared.stage.WaitStage.{WaitStage}
use Rattle.master.specs.declared.stage.WaitStage.TheVariants as wait
use Rattle.master.specs.declared.stage.AddressStage.{AddressStage}
use Rattle.master.specs.declared.stage.AddressStage.TheVariants as address
use Rattle.master.specs.declared.stage.RecvStage.{RecvStage}
use Rattle.master.specs.declared.stage.RecvStage.TheVariants as recv
use Rattle.master.specs.declared.stage.ReadStage.{ReadStage}
use Rattle.master.specs.declared.stage.ReadStage.TheVariants as reading
use Rattle.master.specs.declared.stage.StopFor.{StopFor}
use Rattle.master.specs.declared.stage.StopFor.TheVariants as stop
use Rattle.master.specs.declared.stage.Half.{Half}
use Rattle.master.specs.declared.stage.Half.TheVariants as half
use Rattle.master.specs.declared.stage.AbortStage.{AbortStage}
use Rattle.master.specs.declared.stage.AbortStage.TheVariants as abort
use Rattle.master.specs.declared.stage.Stage.{Stage}
use Rattle.master.specs.declared.stage.Stage.TheVariants.{Begin, WaitStop, LaunchStart, Wait, Address, SendByte, RecvByte, ReadIter, GenerateStop, Abort, Ended}
use Rattle.master.specs.declared.state.Progress.{Progress}
use Rattle.master.specs.declared.state.Move.{Move}
use Rattle.master.specs.Machine.{Shape, byte_done, begun, fresh, fails, stops_here, is_set, fallen, finished, write_bytes_move, read_bytes, waited, tests, waits, addressed, address_phase, recv_byte, blocking_read_iter, stopped, launch_start, wait_stop_finished, abort_transfer, advance_at, owed_at, owed, advance, run_of, master, start_with, start}
use Rattle.operations.specs.Operations.{is_read}
use Rattle.operations.specs.Runs.{run_at}
use Rattle.bench_run.specs.Layer1.{used_in}
use Rattle.bench_run.proofs.Counts.{writes_in}

-- ---- how many writes are paid for at a stage: those that follow before the answers on the way pay for them

abbrev read_writes : ReadStage → ℕ
read_writes reading.PosWrite = 1
read_writes reading.AckRead = 0
read_writes reading.AckWrite = 1
read_writes reading.StartRead = 0
read_writes reading.StartWrite = 1
read_writes reading.NackRead = 0
read_writes reading.NackWrite = 1
read_writes reading.Third = 0
read_writes reading.AgainRead = 0
read_writes reading.AgainWrite = 1
read_writes reading.SecondLast = 0
read_writes reading.Last = 0
read_writes reading.PosOffRead = 0
read_writes reading.PosOffWrite = 1

-- a reset writes six times in a row
abbrev abort_writes : AbortStage → ℕ
abort_writes abort.FinishRead = 0
abort_writes abort.FinishWrite = 1
abort_writes abort.Control = 0
abort_writes abort.Frequency = 2
abort_writes abort.Divider = 4
abort_writes abort.Rise = 4
abort_writes abort.Reset = 6
abort_writes abort.Release = 5
abort_writes abort.PutFrequency = 4
abort_writes abort.PutDivider = 3
abort_writes abort.PutRise = 2
abort_writes abort.Enable = 1
abort_writes abort.Master = 0
abort_writes abort.StopRead = 0
abort_writes abort.StopWrite = 1

abbrev launch_writes : LaunchStage → ℕ
launch_writes launch.Control = 0
launch_writes launch.Status = 0
launch_writes launch.Read = 0
launch_writes launch.Write = 1

-- flags are cleared, and a byte may be sent
abbrev wait_writes : WaitStage → ℕ
wait_writes wait.Status = 0
wait_writes wait.Clear = 2
wait_writes wait.Clock = 0

abbrev address_writes : AddressStage → ℕ
address_writes address.Control = 0
address_writes address.Master = 0
address_writes address.Word = 1
address_writes address.Cleared = 0

abbrev stop_writes : Half → ℕ
stop_writes half.Read = 0
stop_writes half.Write = 1

abbrev paid : Stage → ℕ
paid Begin = 0
paid (WaitStop f st) = 0
paid (LaunchStart st) = launch_writes st
paid (Wait f st) = wait_writes st
paid (Address st) = address_writes st
paid SendByte = 1
paid (RecvByte st) = 0
paid (ReadIter st) = read_writes st
paid (GenerateStop k st) = stop_writes st
paid (Abort st) = abort_writes st
paid Ended = 0

-- an answer pays for two more, and a write takes one
abbrev Pays : Need → ℕ → ℕ → Type 0
Pays (need.Read r) before after = after ≤ before + 2
Pays (need.Write r v) before after = after + 1 ≤ before
Pays need.Clock before after = after ≤ before + 2
Pays (need.Send p) before after = after + 1 ≤ before
Pays (need.Keep p) before after = after ≤ before + 2
Pays need.Drop before after = after ≤ before + 2
Pays (need.End e) before after = Unit {0}

-- where a move leads at most n are paid for, or fewer
abbrev AtMost : ℕ → Move → Type 0
AtMost n m = paid m.stage ≤ n

abbrev Below : ℕ → Move → Type 0
Below n m = paid m.stage + 1 ≤ n

module _ (g : Setting) (r : Run) where
  finished_free : (d : Progress) → AtMost 0 (finished g r d)
  finished_free d =
      chosen (AtMost 0) (stops_here g r)
      (λ _. chosen (AtMost 0) d.reading (λ _. omega arith) (λ _. omega arith))
      (λ _. chosen (AtMost 0) r.more (λ _. omega arith) (λ _. omega arith))

  writes_free : (d : Progress) → AtMost 0 (write_bytes_move g r d)
  writes_free d = chosen (AtMost 0) (eqb d.left 0) (λ _. finished_free d) (λ _. omega arith)

  reads_free : (d : Progress) → AtMost 0 (read_bytes g r d)
  reads_free d =
      chosen (AtMost 0) (eqb d.left 0) (λ _. finished_free d)
      (λ _. chosen (AtMost 0) (g.frame.send_nack && eqb d.left 2) (λ _. omega arith)
      (λ _. chosen (AtMost 0) (g.frame.send_nack && eqb d.left 3) (λ _. omega arith) (λ _. omega arith)))

  waited_one : (f : Flag) (d : Progress) → AtMost 1 (waited g r f d)
  waited_one Sb d = omega arith
  waited_one Addr d = chosen (AtMost 1) (d.reading && (leb d.left 2 && g.frame.send_nack)) (λ _. omega arith) (λ _. omega arith)
  waited_one Txe d = omega arith
  waited_one Sent d = omega (arith, writes_free (byte_done d))
  waited_one Three d = omega arith
  waited_one Two d = chosen (AtMost 1) (stops_here g r) (λ _. omega arith) (λ _. omega arith)
  waited_one Rxne d = omega arith

  tests_one : (f : Flag) (d : Progress) (w : ℕ) → AtMost 1 (tests g r f d w)
  tests_one f d w = chosen (AtMost 1) (not (is_set f w)) (λ _. omega arith) (λ _. waited_one f d)

  judged_one : (f : Flag) (d : Progress) (w : ℕ) (c : Option Failure) → AtMost 1 (decided c (λ x. fails x d) (tests g r f d w))
  judged_one f d w (Some x) = omega arith
  judged_one f d w None = tests_one f d w

  fallen_free : (f : Fall) (d : Progress) → AtMost 0 (fallen f d)
  fallen_free fall.Start d = omega arith
  fallen_free fall.End d = chosen (AtMost 0) d.reading (λ _. omega arith) (λ _. omega arith)

  falls_free : (f : Fall) (d : Progress) (a : ℕ) → AtMost 0 (wait_stop_finished falling.Control f d a)
  falls_free f d a = chosen (AtMost 0) (has_bit STOP a) (λ _. omega arith) (λ _. fallen_free f d)

  addressed_free : (d : Progress) → AtMost 0 (addressed g r d)
  addressed_free d =
      chosen (AtMost 0) d.reading
      (λ _. chosen (AtMost 0) (eqb d.left 1 && stops_here g r) (λ _. omega arith)
      (λ _. chosen (AtMost 0) (eqb d.left 1 && g.frame.send_nack) (λ _. omega arith) (λ _. reads_free d)))
      (λ _. writes_free d)

  stopped_free : (k : StopFor) (d : Progress) → AtMost 0 (stopped g r k d)
  stopped_free stop.Write d = omega arith
  stopped_free stop.One d = reads_free d
  stopped_free stop.Two d = omega arith

  -- ---- stage by stage

  launch_pays : (st : LaunchStage) (d : Progress) (a : ℕ) → Pays (owed_at g (LaunchStart st) d) (launch_writes st) (paid (launch_start st d a).stage)
  launch_pays launch.Control d a = chosen (AtMost 2) (has_bit START a) (λ _. omega arith) (λ _. omega arith)
  launch_pays launch.Status d a = chosen (AtMost 2) (not (has_bit SB a)) (λ _. omega arith) (λ _. omega arith)
  launch_pays launch.Read d a = omega arith
  launch_pays launch.Write d a = omega arith

  wait_pays : (f : Flag) (st : WaitStage) (d : Progress) (a : ℕ) → Pays (owed_at g (Wait f st) d) (wait_writes st) (paid (waits g r st f d a).stage)
  wait_pays f wait.Status d a = chosen (AtMost 2) (not (eqb (error_flags a) 0)) (λ _. omega arith) (λ _. omega (arith, tests_one f d a))
  wait_pays f wait.Clear d a = omega (arith, judged_one f d d.word (error_of g.chip true d.word))
  wait_pays f wait.Clock d a = chosen (AtMost 2) (late a) (λ _. omega arith) (λ _. omega arith)

  address_pays : (st : AddressStage) (d : Progress) (a : ℕ) → Pays (owed_at g (Address st) d) (address_writes st) (paid (address_phase g r st d a).stage)
  address_pays address.Control d a = chosen (AtMost 2) (has_bit START a) (λ _. omega arith) (λ _. omega arith)
  address_pays address.Master d a = chosen (AtMost 2) (not (has_bit MSL a)) (λ _. omega arith) (λ _. omega arith)
  address_pays address.Word d a = omega arith
  address_pays address.Cleared d a = omega (arith, addressed_free d)

  recv_pays : (st : RecvStage) (d : Progress) (a : ℕ) → Pays (owed_at g (RecvByte st) d) 0 (paid (recv_byte g r st d a).stage)
  recv_pays recv.Status d a = chosen (AtMost 2) (not (has_bit RXNE a)) (λ _. omega arith) (λ _. omega arith)
  recv_pays recv.Data d a = omega (arith, reads_free (byte_done d))

  read_pays : (st : ReadStage) (d : Progress) (a : ℕ) → Pays (owed_at g (ReadIter st) d) (read_writes st) (paid (blocking_read_iter g r st d a).stage)
  read_pays reading.PosWrite d a = chosen (Below 1) g.frame.send_start (λ _. omega arith) (λ _. omega (arith, reads_free d))
  read_pays reading.AckRead d a = omega arith
  read_pays reading.AckWrite d a = omega arith
  read_pays reading.StartRead d a = omega arith
  read_pays reading.StartWrite d a = omega (arith, reads_free d)
  read_pays reading.NackRead d a = omega arith
  read_pays reading.NackWrite d a = omega arith
  read_pays reading.Third d a = omega arith
  read_pays reading.AgainRead d a = omega arith
  read_pays reading.AgainWrite d a = omega arith
  read_pays reading.SecondLast d a = omega arith
  read_pays reading.Last d a = omega (arith, finished_free (byte_done d))
  read_pays reading.PosOffRead d a = omega arith
  read_pays reading.PosOffWrite d a = omega arith

  abort_pays : (st : AbortStage) (d : Progress) (a : ℕ) → Pays (owed_at g (Abort st) d) (abort_writes st) (paid (abort_transfer g.chip st d a).stage)
  abort_pays abort.FinishRead d a = omega arith
  abort_pays abort.FinishWrite d a = omega arith
  abort_pays abort.Control d a = chosen (AtMost 2) (has_bit START a || has_bit STOP a) (λ _. omega arith) (λ _. omega arith)
  abort_pays abort.Frequency d a = omega arith
  abort_pays abort.Divider d a = chosen (AtMost 6) g.chip.i2c_v3 (λ _. omega arith) (λ _. omega arith)
  abort_pays abort.Rise d a = omega arith
  abort_pays abort.Reset d a = omega arith
  abort_pays abort.Release d a = omega arith
  abort_pays abort.PutFrequency d a = omega arith
  abort_pays abort.PutDivider d a = chosen (Below 3) g.chip.i2c_v3 (λ _. omega arith) (λ _. omega arith)
  abort_pays abort.PutRise d a = omega arith
  abort_pays abort.Enable d a = omega arith
  abort_pays abort.Master d a = chosen (AtMost 2) (has_bit MSL a) (λ _. omega arith) (λ _. omega arith)
  abort_pays abort.StopRead d a = omega arith
  abort_pays abort.StopWrite d a = omega arith

  pays_at : (st : Stage) (d : Progress) (a : ℕ) → Pays (owed_at g st d) (paid st) (paid (advance_at g r st d a).stage)
  pays_at Begin d a = chosen (AtMost 2) (begun r d).reading (λ _. omega arith) (λ _. omega (arith, falls_free fall.Start (begun r d) a))
  pays_at (WaitStop f falling.Control) d a = omega (arith, falls_free f d a)
  pays_at (WaitStop f falling.Clock) d a = chosen (AtMost 2) (late a) (λ _. omega arith) (λ _. omega arith)
  pays_at (LaunchStart st) d a = launch_pays st d a
  pays_at (Wait f st) d a = wait_pays f st d a
  pays_at (Address st) d a = address_pays st d a
  pays_at SendByte d a = omega arith
  pays_at (RecvByte st) d a = recv_pays st d a
  pays_at (ReadIter st) d a = read_pays st d a
  pays_at (GenerateStop k half.Read) d a = omega arith
  pays_at (GenerateStop k half.Write) d a = omega (arith, stopped_free k d)
  pays_at (Abort st) d a = abort_pays st d a
  pays_at Ended d a = tt

-- ---- so in what is shown of a machine

module _ (m : Machine) (bytes : List ℕ) (weight : m.State → ℕ) (pays : (s : m.State) (a : ℕ) → Pays (m.need s) (weight s) (weight (m.move s a))) where
  owed_few : (n : Need) (w after : ℕ) → Pays n w after → writes_in (seen_owed bytes n).events ≤ w + 2 * used_in (seen_owed bytes n).events
  owed_few (need.Read r) w after p = omega arith
  owed_few (need.Write r v) w after p = omega arith
  owed_few need.Clock w after p = omega arith
  owed_few (need.Send x) w after p = omega arith
  owed_few (need.Keep x) w after p = omega arith
  owed_few need.Drop w after p = omega arith
  owed_few (need.End e) w after p = omega arith

  answered_few : (n : Need) (w after a : ℕ) (rest : Shown) → Pays n w after → writes_in rest.events ≤ after + 2 * used_in rest.events
      → writes_in (seen_answered bytes n a rest).events ≤ w + 2 * used_in (seen_answered bytes n a rest).events
  answered_few (need.Read r) w after a rest p q = omega arith
  answered_few (need.Write r v) w after a rest p q = omega arith
  answered_few need.Clock w after a rest p q = omega arith
  answered_few (need.Send x) w after a rest p q = omega arith
  answered_few (need.Keep x) w after a rest p q = omega arith
  answered_few need.Drop w after a rest p q = omega arith
  answered_few (need.End e) w after a rest p q = omega arith

  pub shown_few : (s : m.State) (answers : List ℕ) → writes_in (shown_from m bytes s answers).events ≤ weight s + 2 * used_in (shown_from m bytes s answers).events
  shown_few s [] = owed_few (m.need s) (weight s) (weight (m.move s 0)) (pays s 0)
  shown_few s (a ∷ answers) =
      answered_few (m.need s) (weight s) (weight (m.move s a)) a (shown_from m bytes (m.move s a) answers) (pays s a) (shown_few (m.move s a) answers)

-- ---- a transfer begins with nothing to pay

module _ (sh : Shape) (bytes : List ℕ) where
  machine_pays : (s : Move) (a : ℕ) → Pays (owed sh s) (paid s.stage) (paid (advance sh s a).stage)
  unfolding owed advance
  machine_pays s a = pays_at sh.setting (run_of sh s.progress.run) s.stage s.progress a

  starts_free : (f : Option Run) → AtMost 0 (start_with sh.setting f)
  starts_free (Some r) = chosen (AtMost 0) (is_read r.direction || sh.setting.frame.send_start) (λ _. omega arith) (λ _. writes_free sh.setting r (begun r fresh))
  starts_free None = omega arith

  pub two_writes : (answers : List ℕ) → writes_in (shown_from (master sh) bytes (start sh) answers).events ≤ 2 * used_in (shown_from (master sh) bytes (start sh) answers).events
  two_writes answers = omega (arith, shown_few (master sh) bytes (λ s. paid s.stage) machine_pays (start sh) answers, starts_free (run_at sh.runs 0))
