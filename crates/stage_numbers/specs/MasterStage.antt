-- The stages of a master call by number: the group, which of the group's, and the phase.
use Rattle.std.specs.Prelude.{ℕ, Bool, cond, ◌&&◌, eqb}
use Rattle.master.specs.declared.stage.Fall.{Fall}
use Rattle.master.specs.declared.stage.Fall.TheVariants as fall
use Rattle.master.specs.declared.stage.FallStage.{FallStage}
use Rattle.master.specs.declared.stage.FallStage.TheVariants as fallStage
use Rattle.master.specs.declared.stage.LaunchStage.{LaunchStage}
use Rattle.master.specs.declared.stage.LaunchStage.TheVariants as launchStage
use Rattle.master.specs.declared.stage.Flag.{Flag}
use Rattle.master.specs.declared.stage.Flag.TheVariants as flag
use Rattle.master.specs.declared.stage.WaitStage.{WaitStage}
use Rattle.master.specs.declared.stage.WaitStage.TheVariants as waitStage
use Rattle.master.specs.declared.stage.AddressStage.{AddressStage}
use Rattle.master.specs.declared.stage.AddressStage.TheVariants as addressStage
use Rattle.master.specs.declared.stage.RecvStage.{RecvStage}
use Rattle.master.specs.declared.stage.RecvStage.TheVariants as recvStage
use Rattle.master.specs.declared.stage.ReadStage.{ReadStage}
use Rattle.master.specs.declared.stage.ReadStage.TheVariants as readStage
use Rattle.master.specs.declared.stage.StopFor.{StopFor}
use Rattle.master.specs.declared.stage.StopFor.TheVariants as stopFor
use Rattle.master.specs.declared.stage.Half.{Half}
use Rattle.master.specs.declared.stage.Half.TheVariants as half
use Rattle.master.specs.declared.stage.AbortStage.{AbortStage}
use Rattle.master.specs.declared.stage.AbortStage.TheVariants as abortStage
use Rattle.master.specs.declared.stage.Stage.{Stage}
use Rattle.master.specs.declared.stage.Stage.TheVariants as stage

abbrev pub fall_number : Fall → ℕ
fall_number fall.Start = 0
fall_number fall.End = 1

abbrev pub fall_of : ℕ → Fall
fall_of n = cond (eqb n 0) fall.Start fall.End

abbrev pub fall_stage_number : FallStage → ℕ
fall_stage_number fallStage.Control = 0
fall_stage_number fallStage.Clock = 1

abbrev pub fall_stage_of : ℕ → FallStage
fall_stage_of n = cond (eqb n 0) fallStage.Control fallStage.Clock

abbrev pub launch_stage_number : LaunchStage → ℕ
launch_stage_number launchStage.Control = 0
launch_stage_number launchStage.Status = 1
launch_stage_number launchStage.Read = 2
launch_stage_number launchStage.Write = 3

abbrev pub launch_stage_of : ℕ → LaunchStage
launch_stage_of n = cond (eqb n 0) launchStage.Control (cond (eqb n 1) launchStage.Status (cond (eqb n 2) launchStage.Read launchStage.Write))

abbrev pub flag_number : Flag → ℕ
flag_number flag.Sb = 0
flag_number flag.Addr = 1
flag_number flag.Txe = 2
flag_number flag.Sent = 3
flag_number flag.Three = 4
flag_number flag.Two = 5
flag_number flag.Rxne = 6

abbrev pub flag_of : ℕ → Flag
flag_of n = cond (eqb n 0) flag.Sb (cond (eqb n 1) flag.Addr (cond (eqb n 2) flag.Txe (cond (eqb n 3) flag.Sent (cond (eqb n 4) flag.Three (cond (eqb n 5) flag.Two flag.Rxne)))))

abbrev pub wait_stage_number : WaitStage → ℕ
wait_stage_number waitStage.Status = 0
wait_stage_number waitStage.Clear = 1
wait_stage_number waitStage.Clock = 2

abbrev pub wait_stage_of : ℕ → WaitStage
wait_stage_of n = cond (eqb n 0) waitStage.Status (cond (eqb n 1) waitStage.Clear waitStage.Clock)

abbrev pub address_stage_number : AddressStage → ℕ
address_stage_number addressStage.Control = 0
address_stage_number addressStage.Master = 1
address_stage_number addressStage.Word = 2
address_stage_number addressStage.Cleared = 3

abbrev pub address_stage_of : ℕ → AddressStage
address_stage_of n = cond (eqb n 0) addressStage.Control (cond (eqb n 1) addressStage.Master (cond (eqb n 2) addressStage.Word addressStage.Cleared))

abbrev pub recv_stage_number : RecvStage → ℕ
recv_stage_number recvStage.Status = 0
recv_stage_number recvStage.Data = 1

abbrev pub recv_stage_of : ℕ → RecvStage
recv_stage_of n = cond (eqb n 0) recvStage.Status recvStage.Data

abbrev pub read_stage_number : ReadStage → ℕ
read_stage_number readStage.PosWrite = 0
read_stage_number readStage.AckRead = 1
read_stage_number readStage.AckWrite = 2
read_stage_number readStage.StartRead = 3
read_stage_number readStage.StartWrite = 4
read_stage_number readStage.NackRead = 5
read_stage_number readStage.NackWrite = 6
read_stage_number readStage.Third = 7
read_stage_number readStage.AgainRead = 8
read_stage_number readStage.AgainWrite = 9
read_stage_number readStage.SecondLast = 10
read_stage_number readStage.Last = 11
read_stage_number readStage.PosOffRead = 12
read_stage_number readStage.PosOffWrite = 13

abbrev pub read_stage_of : ℕ → ReadStage
read_stage_of n = cond (eqb n 0) readStage.PosWrite (cond (eqb n 1) readStage.AckRead (cond (eqb n 2) readStage.AckWrite (cond (eqb n 3) readStage.StartRead (cond (eqb n 4) readStage.StartWrite (cond (eqb n 5) readStage.NackRead (cond (eqb n 6) readStage.NackWrite (cond (eqb n 7) readStage.Third (cond (eqb n 8) readStage.AgainRead (cond (eqb n 9) readStage.AgainWrite (cond (eqb n 10) readStage.SecondLast (cond (eqb n 11) readStage.Last (cond (eqb n 12) readStage.PosOffRead readStage.PosOffWrite))))))))))))

abbrev pub stop_for_number : StopFor → ℕ
stop_for_number stopFor.Write = 0
stop_for_number stopFor.One = 1
stop_for_number stopFor.Two = 2

abbrev pub stop_for_of : ℕ → StopFor
stop_for_of n = cond (eqb n 0) stopFor.Write (cond (eqb n 1) stopFor.One stopFor.Two)

abbrev pub half_number : Half → ℕ
half_number half.Read = 0
half_number half.Write = 1

abbrev pub half_of : ℕ → Half
half_of n = cond (eqb n 0) half.Read half.Write

abbrev pub abort_stage_number : AbortStage → ℕ
abort_stage_number abortStage.FinishRead = 0
abort_stage_number abortStage.FinishWrite = 1
abort_stage_number abortStage.Control = 2
abort_stage_number abortStage.Frequency = 3
abort_stage_number abortStage.Divider = 4
abort_stage_number abortStage.Rise = 5
abort_stage_number abortStage.Reset = 6
abort_stage_number abortStage.Release = 7
abort_stage_number abortStage.PutFrequency = 8
abort_stage_number abortStage.PutDivider = 9
abort_stage_number abortStage.PutRise = 10
abort_stage_number abortStage.Enable = 11
abort_stage_number abortStage.Master = 12
abort_stage_number abortStage.StopRead = 13
abort_stage_number abortStage.StopWrite = 14

abbrev pub abort_stage_of : ℕ → AbortStage
abort_stage_of n = cond (eqb n 0) abortStage.FinishRead (cond (eqb n 1) abortStage.FinishWrite (cond (eqb n 2) abortStage.Control (cond (eqb n 3) abortStage.Frequency (cond (eqb n 4) abortStage.Divider (cond (eqb n 5) abortStage.Rise (cond (eqb n 6) abortStage.Reset (cond (eqb n 7) abortStage.Release (cond (eqb n 8) abortStage.PutFrequency (cond (eqb n 9) abortStage.PutDivider (cond (eqb n 10) abortStage.PutRise (cond (eqb n 11) abortStage.Enable (cond (eqb n 12) abortStage.Master (cond (eqb n 13) abortStage.StopRead abortStage.StopWrite)))))))))))))

abbrev pub stage_group : Stage → ℕ
stage_group stage.Begin = 0
stage_group (stage.WaitStop what phase) = 1
stage_group (stage.LaunchStart phase) = 2
stage_group (stage.Wait what phase) = 3
stage_group (stage.Address phase) = 4
stage_group stage.SendByte = 5
stage_group (stage.RecvByte phase) = 6
stage_group (stage.ReadIter phase) = 7
stage_group (stage.GenerateStop what phase) = 8
stage_group (stage.Abort phase) = 9
stage_group stage.Ended = 10

-- which of the group's: what STOP falls for, what is waited for
abbrev pub stage_what : Stage → ℕ
stage_what stage.Begin = 0
stage_what (stage.WaitStop what phase) = fall_number what
stage_what (stage.LaunchStart phase) = 0
stage_what (stage.Wait what phase) = flag_number what
stage_what (stage.Address phase) = 0
stage_what stage.SendByte = 0
stage_what (stage.RecvByte phase) = 0
stage_what (stage.ReadIter phase) = 0
stage_what (stage.GenerateStop what phase) = stop_for_number what
stage_what (stage.Abort phase) = 0
stage_what stage.Ended = 0

abbrev pub stage_phase : Stage → ℕ
stage_phase stage.Begin = 0
stage_phase (stage.WaitStop what phase) = fall_stage_number phase
stage_phase (stage.LaunchStart phase) = launch_stage_number phase
stage_phase (stage.Wait what phase) = wait_stage_number phase
stage_phase (stage.Address phase) = address_stage_number phase
stage_phase stage.SendByte = 0
stage_phase (stage.RecvByte phase) = recv_stage_number phase
stage_phase (stage.ReadIter phase) = read_stage_number phase
stage_phase (stage.GenerateStop what phase) = half_number phase
stage_phase (stage.Abort phase) = abort_stage_number phase
stage_phase stage.Ended = 0

-- the stage of these numbers, if they are those of one
abbrev pub stage_of : ℕ → ℕ → ℕ → Stage
stage_of group what phase =
    cond (eqb group 0) stage.Begin
    (cond (eqb group 1) (stage.WaitStop (fall_of what) (fall_stage_of phase))
    (cond (eqb group 2) (stage.LaunchStart (launch_stage_of phase))
    (cond (eqb group 3) (stage.Wait (flag_of what) (wait_stage_of phase))
    (cond (eqb group 4) (stage.Address (address_stage_of phase))
    (cond (eqb group 5) stage.SendByte
    (cond (eqb group 6) (stage.RecvByte (recv_stage_of phase))
    (cond (eqb group 7) (stage.ReadIter (read_stage_of phase))
    (cond (eqb group 8) (stage.GenerateStop (stop_for_of what) (half_of phase))
    (cond (eqb group 9) (stage.Abort (abort_stage_of phase))
    stage.Ended)))))))))

-- numbers that the stage that they tell has
unfoldable pub is_stage : ℕ → ℕ → ℕ → Bool
is_stage group what phase =
    eqb (stage_group (stage_of group what phase)) group
    && (eqb (stage_what (stage_of group what phase)) what && eqb (stage_phase (stage_of group what phase)) phase)
