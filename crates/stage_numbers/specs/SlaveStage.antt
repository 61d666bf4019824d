-- The stages of a slave call by number: the group, which of the group's, and the phase.
use Rattle.std.specs.Prelude.{ℕ, Bool, cond, ◌&&◌, eqb}
use Rattle.slave.specs.declared.stage.StopfFor.{StopfFor}
use Rattle.slave.specs.declared.stage.StopfFor.TheVariants as stopfFor
use Rattle.slave.specs.declared.stage.StopfStage.{StopfStage}
use Rattle.slave.specs.declared.stage.StopfStage.TheVariants as stopfStage
use Rattle.slave.specs.declared.stage.StaleStage.{StaleStage}
use Rattle.slave.specs.declared.stage.StaleStage.TheVariants as staleStage
use Rattle.slave.specs.declared.stage.ArmStage.{ArmStage}
use Rattle.slave.specs.declared.stage.ArmStage.TheVariants as armStage
use Rattle.slave.specs.declared.stage.MatchStage.{MatchStage}
use Rattle.slave.specs.declared.stage.MatchStage.TheVariants as matchStage
use Rattle.slave.specs.declared.stage.Half.{Half}
use Rattle.slave.specs.declared.stage.Half.TheVariants as half
use Rattle.slave.specs.declared.stage.ErrorStage.{ErrorStage}
use Rattle.slave.specs.declared.stage.ErrorStage.TheVariants as errorStage
use Rattle.slave.specs.declared.stage.AbortStage.{AbortStage}
use Rattle.slave.specs.declared.stage.AbortStage.TheVariants as abortStage
use Rattle.slave.specs.declared.stage.Stage.{Stage}
use Rattle.slave.specs.declared.stage.Stage.TheVariants as stage

abbrev pub stopf_for_number : StopfFor → ℕ
stopf_for_number stopfFor.Listen = 0
stopf_for_number stopfFor.End = 1

abbrev pub stopf_for_of : ℕ → StopfFor
stopf_for_of n = cond (eqb n 0) stopfFor.Listen stopfFor.End

abbrev pub stopf_stage_number : StopfStage → ℕ
stopf_stage_number stopfStage.Status = 0
stopf_stage_number stopfStage.Read = 1
stopf_stage_number stopfStage.Write = 2

abbrev pub stopf_stage_of : ℕ → StopfStage
stopf_stage_of n = cond (eqb n 0) stopfStage.Status (cond (eqb n 1) stopfStage.Read stopfStage.Write)

abbrev pub stale_stage_number : StaleStage → ℕ
stale_stage_number staleStage.Status = 0
stale_stage_number staleStage.Clear = 1

abbrev pub stale_stage_of : ℕ → StaleStage
stale_stage_of n = cond (eqb n 0) staleStage.Status staleStage.Clear

abbrev pub arm_stage_number : ArmStage → ℕ
arm_stage_number armStage.BufferRead = 0
arm_stage_number armStage.BufferWrite = 1
arm_stage_number armStage.AckRead = 2
arm_stage_number armStage.AckWrite = 3

abbrev pub arm_stage_of : ℕ → ArmStage
arm_stage_of n = cond (eqb n 0) armStage.BufferRead (cond (eqb n 1) armStage.BufferWrite (cond (eqb n 2) armStage.AckRead armStage.AckWrite))

abbrev pub match_stage_number : MatchStage → ℕ
match_stage_number matchStage.Status = 0
match_stage_number matchStage.Second = 1
match_stage_number matchStage.Own = 2

abbrev pub match_stage_of : ℕ → MatchStage
match_stage_of n = cond (eqb n 0) matchStage.Status (cond (eqb n 1) matchStage.Second matchStage.Own)

abbrev pub half_number : Half → ℕ
half_number half.Read = 0
half_number half.Write = 1

abbrev pub half_of : ℕ → Half
half_of n = cond (eqb n 0) half.Read half.Write

abbrev pub error_stage_number : ErrorStage → ℕ
error_stage_number errorStage.Clear = 0
error_stage_number errorStage.Clock = 1

abbrev pub error_stage_of : ℕ → ErrorStage
error_stage_of n = cond (eqb n 0) errorStage.Clear errorStage.Clock

abbrev pub abort_stage_number : AbortStage → ℕ
abort_stage_number abortStage.DisableRead = 0
abort_stage_number abortStage.DisableWrite = 1
abort_stage_number abortStage.Busy = 2
abort_stage_number abortStage.StopRead = 3
abort_stage_number abortStage.StopWrite = 4

abbrev pub abort_stage_of : ℕ → AbortStage
abort_stage_of n = cond (eqb n 0) abortStage.DisableRead (cond (eqb n 1) abortStage.DisableWrite (cond (eqb n 2) abortStage.Busy (cond (eqb n 3) abortStage.StopRead abortStage.StopWrite)))

abbrev pub stage_group : Stage → ℕ
stage_group (stage.ClearStopf what phase) = 0
stage_group (stage.Stale phase) = 1
stage_group (stage.Arm phase) = 2
stage_group stage.Poll = 3
stage_group (stage.Match phase) = 4
stage_group stage.Receive = 5
stage_group stage.Send = 6
stage_group (stage.ClearAf phase) = 7
stage_group (stage.Errors phase) = 8
stage_group (stage.Abort phase) = 9
stage_group stage.Ended = 10

-- which of the group's: what STOPF is cleared for
abbrev pub stage_what : Stage → ℕ
stage_what (stage.ClearStopf what phase) = stopf_for_number what
stage_what (stage.Stale phase) = 0
stage_what (stage.Arm phase) = 0
stage_what stage.Poll = 0
stage_what (stage.Match phase) = 0
stage_what stage.Receive = 0
stage_what stage.Send = 0
stage_what (stage.ClearAf phase) = 0
stage_what (stage.Errors phase) = 0
stage_what (stage.Abort phase) = 0
stage_what stage.Ended = 0

abbrev pub stage_phase : Stage → ℕ
stage_phase (stage.ClearStopf what phase) = stopf_stage_number phase
stage_phase (stage.Stale phase) = stale_stage_number phase
stage_phase (stage.Arm phase) = arm_stage_number phase
stage_phase stage.Poll = 0
stage_phase (stage.Match phase) = match_stage_number phase
stage_phase stage.Receive = 0
stage_phase stage.Send = 0
stage_phase (stage.ClearAf phase) = half_number phase
stage_phase (stage.Errors phase) = error_stage_number phase
stage_phase (stage.Abort phase) = abort_stage_number phase
stage_phase stage.Ended = 0

-- the stage of these numbers, if they are those of one
abbrev pub stage_of : ℕ → ℕ → ℕ → Stage
stage_of group what phase =
    cond (eqb group 0) (stage.ClearStopf (stopf_for_of what) (stopf_stage_of phase))
    (cond (eqb group 1) (stage.Stale (stale_stage_of phase))
    (cond (eqb group 2) (stage.Arm (arm_stage_of phase))
    (cond (eqb group 3) stage.Poll
    (cond (eqb group 4) (stage.Match (match_stage_of phase))
    (cond (eqb group 5) stage.Receive
    (cond (eqb group 6) stage.Send
    (cond (eqb group 7) (stage.ClearAf (half_of phase))
    (cond (eqb group 8) (stage.Errors (error_stage_of phase))
    (cond (eqb group 9) (stage.Abort (abort_stage_of phase))
    stage.Ended)))))))))

-- numbers that the stage that they tell has
unfoldable pub is_stage : ℕ → ℕ → ℕ → Bool
is_stage group what phase =
    eqb (stage_group (stage_of group what phase)) group
    && (eqb (stage_what (stage_of group what phase)) what && eqb (stage_phase (stage_of group what phase)) phase)
