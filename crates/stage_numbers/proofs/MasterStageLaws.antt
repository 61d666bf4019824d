-- The numbers of a master call's stage tell the stage.
-- Assumes nothing.
use mathlib.Core.Path.{◌≡◌, refl, ap}
use Rattle.master.specs.declared.stage.Fall.{Fall}
use Rattle.master.specs.declared.stage.Fall.TheVariants as fall
use Rattle.master.specs.declared.stage.FallStage.{FallStage}
use Rattle.master.specs.declared.stage.FallStage.TheVariants as fallStage
use Rattle.master.specs.declared.stage.LaunchStage.{LaunchStage}
use Rattle.master.specs.declared.stage.LaunchStage.TheVariants as launchStage
use Rattle.master.specs.declared.stage.Flag.{Flag}
use Rattle.master.specs.declared.stage.Flag.TheVariants as flag
use Rattle.master.specs.declared.stage.WaitStage.{WaitStage}
use Rattle.master.specs.declared.stage.WaitStage.TheVariants as waitStage
use Rattle.master.specs.declared.stage.AddressStage.{AddressStage}
use Rattle.master.specs.declared.stage.AddressStage.TheVariants as addressStage
use Rattle.master.specs.declared.stage.RecvStage.{RecvStage}
use Rattle.master.specs.declared.stage.RecvStage.TheVariants as recvStage
use Rattle.master.specs.declared.stage.ReadStage.{ReadStage}
use Rattle.master.specs.declared.stage.ReadStage.TheVariants as readStage
use Rattle.master.specs.declared.stage.StopFor.{StopFor}
use Rattle.master.specs.declared.stage.StopFor.TheVariants as stopFor
use Rattle.master.specs.declared.stage.Half.{Half}
use Rattle.master.specs.declared.stage.Half.TheVariants as half
use Rattle.master.specs.declared.stage.AbortStage.{AbortStage}
use Rattle.master.specs.declared.stage.AbortStage.TheVariants as abortStage
use Rattle.master.specs.declared.stage.Stage.{Stage}
use Rattle.master.specs.declared.stage.Stage.TheVariants as stage
use Rattle.stage_numbers.specs.MasterStage.{fall_number, fall_of, fall_stage_number, fall_stage_of, launch_stage_number, launch_stage_of, flag_number, flag_of, wait_stage_number, wait_stage_of, address_stage_number, address_stage_of, recv_stage_number, recv_stage_of, read_stage_number, read_stage_of, stop_for_number, stop_for_of, half_number, half_of, abort_stage_number, abort_stage_of, stage_group, stage_what, stage_phase, stage_of}

fall_back : (x : Fall) → fall_of (fall_number x) ≡ x
fall_back fall.Start = refl
fall_back fall.End = refl

fall_stage_back : (x : FallStage) → fall_stage_of (fall_stage_number x) ≡ x
fall_stage_back fallStage.Control = refl
fall_stage_back fallStage.Clock = refl

launch_stage_back : (x : LaunchStage) → launch_stage_of (launch_stage_number x) ≡ x
launch_stage_back launchStage.Control = refl
launch_stage_back launchStage.Status = refl
launch_stage_back launchStage.Read = refl
launch_stage_back launchStage.Write = refl

flag_back : (x : Flag) → flag_of (flag_number x) ≡ x
flag_back flag.Sb = refl
flag_back flag.Addr = refl
flag_back flag.Txe = refl
flag_back flag.Sent = refl
flag_back flag.Three = refl
flag_back flag.Two = refl
flag_back flag.Rxne = refl

wait_stage_back : (x : WaitStage) → wait_stage_of (wait_stage_number x) ≡ x
wait_stage_back waitStage.Status = refl
wait_stage_back waitStage.Clear = refl
wait_stage_back waitStage.Clock = refl

address_stage_back : (x : AddressStage) → address_stage_of (address_stage_number x) ≡ x
address_stage_back addressStage.Control = refl
address_stage_back addressStage.Master = refl
address_stage_back addressStage.Word = refl
address_stage_back addressStage.Cleared = refl

recv_stage_back : (x : RecvStage) → recv_stage_of (recv_stage_number x) ≡ x
recv_stage_back recvStage.Status = refl
recv_stage_back recvStage.Data = refl

read_stage_back : (x : ReadStage) → read_stage_of (read_stage_number x) ≡ x
read_stage_back readStage.PosWrite = refl
read_stage_back readStage.AckRead = refl
read_stage_back readStage.AckWrite = refl
read_stage_back readStage.StartRead = refl
read_stage_back readStage.StartWrite = refl
read_stage_back readStage.NackRead = refl
read_stage_back readStage.NackWrite = refl
read_stage_back readStage.Third = refl
read_stage_back readStage.AgainRead = refl
read_stage_back readStage.AgainWrite = refl
read_stage_back readStage.SecondLast = refl
read_stage_back readStage.Last = refl
read_stage_back readStage.PosOffRead = refl
read_stage_back readStage.PosOffWrite = refl

stop_for_back : (x : StopFor) → stop_for_of (stop_for_number x) ≡ x
stop_for_back stopFor.Write = refl
stop_for_back stopFor.One = refl
stop_for_back stopFor.Two = refl

half_back : (x : Half) → half_of (half_number x) ≡ x
half_back half.Read = refl
half_back half.Write = refl

abort_stage_back : (x : AbortStage) → abort_stage_of (abort_stage_number x) ≡ x
abort_stage_back abortStage.FinishRead = refl
abort_stage_back abortStage.FinishWrite = refl
abort_stage_back abortStage.Control = refl
abort_stage_back abortStage.Frequency = refl
abort_stage_back abortStage.Divider = refl
abort_stage_back abortStage.Rise = refl
abort_stage_back abortStage.Reset = refl
abort_stage_back abortStage.Release = refl
abort_stage_back abortStage.PutFrequency = refl
abort_stage_back abortStage.PutDivider = refl
abort_stage_back abortStage.PutRise = refl
abort_stage_back abortStage.Enable = refl
abort_stage_back abortStage.Master = refl
abort_stage_back abortStage.StopRead = refl
abort_stage_back abortStage.StopWrite = refl

pub stage_back : (s : Stage) → stage_of (stage_group s) (stage_what s) (stage_phase s) ≡ s
stage_back stage.Begin = refl
stage_back (stage.WaitStop what phase) = rw (fall_back what, fall_stage_back phase)
stage_back (stage.LaunchStart phase) = ap stage.LaunchStart (launch_stage_back phase)
stage_back (stage.Wait what phase) = rw (flag_back what, wait_stage_back phase)
stage_back (stage.Address phase) = ap stage.Address (address_stage_back phase)
stage_back stage.SendByte = refl
stage_back (stage.RecvByte phase) = ap stage.RecvByte (recv_stage_back phase)
stage_back (stage.ReadIter phase) = ap stage.ReadIter (read_stage_back phase)
stage_back (stage.GenerateStop what phase) = rw (stop_for_back what, half_back phase)
stage_back (stage.Abort phase) = ap stage.Abort (abort_stage_back phase)
stage_back stage.Ended = refl
