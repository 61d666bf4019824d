-- The numbers of a slave call's stage tell the stage.
-- Assumes nothing.
use mathlib.Core.Path.{◌≡◌, refl, ap}
use Rattle.slave.specs.declared.stage.StopfFor.{StopfFor}
use Rattle.slave.specs.declared.stage.StopfFor.TheVariants as stopfFor
use Rattle.slave.specs.declared.stage.StopfStage.{StopfStage}
use Rattle.slave.specs.declared.stage.StopfStage.TheVariants as stopfStage
use Rattle.slave.specs.declared.stage.StaleStage.{StaleStage}
use Rattle.slave.specs.declared.stage.StaleStage.TheVariants as staleStage
use Rattle.slave.specs.declared.stage.ArmStage.{ArmStage}
use Rattle.slave.specs.declared.stage.ArmStage.TheVariants as armStage
use Rattle.slave.specs.declared.stage.MatchStage.{MatchStage}
use Rattle.slave.specs.declared.stage.MatchStage.TheVariants as matchStage
use Rattle.slave.specs.declared.stage.Half.{Half}
use Rattle.slave.specs.declared.stage.Half.TheVariants as half
use Rattle.slave.specs.declared.stage.ErrorStage.{ErrorStage}
use Rattle.slave.specs.declared.stage.ErrorStage.TheVariants as errorStage
use Rattle.slave.specs.declared.stage.AbortStage.{AbortStage}
use Rattle.slave.specs.declared.stage.AbortStage.TheVariants as abortStage
use Rattle.slave.specs.declared.stage.Stage.{Stage}
use Rattle.slave.specs.declared.stage.Stage.TheVariants as stage
use Rattle.stage_numbers.specs.SlaveStage.{stopf_for_number, stopf_for_of, stopf_stage_number, stopf_stage_of, stale_stage_number, stale_stage_of, arm_stage_number, arm_stage_of, match_stage_number, match_stage_of, half_number, half_of, error_stage_number, error_stage_of, abort_stage_number, abort_stage_of, stage_group, stage_what, stage_phase, stage_of}

stopf_for_back : (x : StopfFor) → stopf_for_of (stopf_for_number x) ≡ x
stopf_for_back stopfFor.Listen = refl
stopf_for_back stopfFor.End = refl

stopf_stage_back : (x : StopfStage) → stopf_stage_of (stopf_stage_number x) ≡ x
stopf_stage_back stopfStage.Status = refl
stopf_stage_back stopfStage.Read = refl
stopf_stage_back stopfStage.Write = refl

stale_stage_back : (x : StaleStage) → stale_stage_of (stale_stage_number x) ≡ x
stale_stage_back staleStage.Status = refl
stale_stage_back staleStage.Clear = refl

arm_stage_back : (x : ArmStage) → arm_stage_of (arm_stage_number x) ≡ x
arm_stage_back armStage.BufferRead = refl
arm_stage_back armStage.BufferWrite = refl
arm_stage_back armStage.AckRead = refl
arm_stage_back armStage.AckWrite = refl

match_stage_back : (x : MatchStage) → match_stage_of (match_stage_number x) ≡ x
match_stage_back matchStage.Status = refl
match_stage_back matchStage.Second = refl
match_stage_back matchStage.Own = refl

half_back : (x : Half) → half_of (half_number x) ≡ x
half_back half.Read = refl
half_back half.Write = refl

error_stage_back : (x : ErrorStage) → error_stage_of (error_stage_number x) ≡ x
error_stage_back errorStage.Clear = refl
error_stage_back errorStage.Clock = refl

abort_stage_back : (x : AbortStage) → abort_stage_of (abort_stage_number x) ≡ x
abort_stage_back abortStage.DisableRead = refl
abort_stage_back abortStage.DisableWrite = refl
abort_stage_back abortStage.Busy = refl
abort_stage_back abortStage.StopRead = refl
abort_stage_back abortStage.StopWrite = refl

pub stage_back : (s : Stage) → stage_of (stage_group s) (stage_what s) (stage_phase s) ≡ s
stage_back (stage.ClearStopf what phase) = rw (stopf_for_back what, stopf_stage_back phase)
stage_back (stage.Stale phase) = ap stage.Stale (stale_stage_back phase)
stage_back (stage.Arm phase) = ap stage.Arm (arm_stage_back phase)
stage_back stage.Poll = refl
stage_back (stage.Match phase) = ap stage.Match (match_stage_back phase)
stage_back stage.Receive = refl
stage_back stage.Send = refl
stage_back (stage.ClearAf phase) = ap stage.ClearAf (half_back phase)
stage_back (stage.Errors phase) = ap stage.Errors (error_stage_back phase)
stage_back (stage.Abort phase) = ap stage.Abort (abort_stage_back phase)
stage_back stage.Ended = refl
