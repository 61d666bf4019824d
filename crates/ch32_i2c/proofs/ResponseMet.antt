-- A slave call that is accepted ends with 0, a reply alone with a second number, or with an error that was met.
-- Assumes nothing.
use Rattle.std.specs.Prelude.{Ok, Err}
use Rattle.access.specs.Endings.{Ending}
use mathlib.Core.Path.{◌≡◌, refl}
use mathlib.Core.Bool.{Bool, true, false, cond, ◌||◌}
use Prim.Native.Nat.{ℕ}
use lib.Dec.{eqb, ltb}
use Rattle.registers.specs.declared.chip.Chip.{Chip}
use Rattle.access.specs.declared.need.Need.TheVariants as need
use Rattle.errors.specs.Met.{is_met, has_failed}
use Rattle.access.proofs.Choice.{second_true}
use Rattle.slave.specs.declared.stage.StopfStage.{StopfStage}
use Rattle.slave.specs.declared.stage.StopfStage.TheVariants as stopfStage
use Rattle.slave.specs.declared.stage.StaleStage.{StaleStage}
use Rattle.slave.specs.declared.stage.StaleStage.TheVariants as staleStage
use Rattle.slave.specs.declared.stage.ArmStage.{ArmStage}
use Rattle.slave.specs.declared.stage.ArmStage.TheVariants as armStage
use Rattle.slave.specs.declared.stage.MatchStage.{MatchStage}
use Rattle.slave.specs.declared.stage.MatchStage.TheVariants as matchStage
use Rattle.slave.specs.declared.stage.Half.{Half}
use Rattle.slave.specs.declared.stage.Half.TheVariants as half
use Rattle.slave.specs.declared.stage.ErrorStage.{ErrorStage}
use Rattle.slave.specs.declared.stage.ErrorStage.TheVariants as errorStage
use Rattle.slave.specs.declared.stage.AbortStage.{AbortStage}
use Rattle.slave.specs.declared.stage.AbortStage.TheVariants as abortStage
use Rattle.slave.specs.declared.stage.Stage.{Stage}
use Rattle.slave.specs.declared.stage.Stage.TheVariants.{ClearStopf, Stale, Arm, Poll, Match, Receive, Send, ClearAf, Errors, Abort, Ended}
use Rattle.slave.specs.declared.state.Progress.{Progress}
use Rattle.slave.specs.declared.state.Move.{Move}
use Rattle.slave.specs.declared.state.Setting.{Setting}
use Rattle.slave.specs.declared.state.Kind.{Kind}
use Rattle.slave.specs.declared.state.Kind.TheVariants.{Listen, RespondToWrite, RespondToRead}
use Rattle.slave.specs.Machine.{owed, owed_at, owed_stopf, owed_stale, owed_arm, owed_match, owed_af, owed_errors, owed_abort}
use Rattle.slave.specs.Fits.{is_respond_to_read, fits, fits_at, counts, returns, returns_in}
use Rattle.ch32_i2c.specs.Demands.{response_ends}
use Rattle.ch32_i2c.proofs.MetEnds.{MetNeed, only_first}

met_stopf : (can : Ending → Bool) (st : StopfStage) (d : Progress) → MetNeed can (owed_stopf st d)
met_stopf can stopfStage.Status d = tt
met_stopf can stopfStage.Read d = tt
met_stopf can stopfStage.Write d = tt

met_stale : (can : Ending → Bool) (st : StaleStage) (d : Progress) → MetNeed can (owed_stale st d)
met_stale can staleStage.Status d = tt
met_stale can staleStage.Clear d = tt

met_arm : (can : Ending → Bool) (st : ArmStage) (d : Progress) → MetNeed can (owed_arm st d)
met_arm can armStage.BufferRead d = tt
met_arm can armStage.BufferWrite d = tt
met_arm can armStage.AckRead d = tt
met_arm can armStage.AckWrite d = tt

met_match : (can : Ending → Bool) (st : MatchStage) → MetNeed can (owed_match st)
met_match can matchStage.Status = tt
met_match can matchStage.Second = tt
met_match can matchStage.Own = tt

met_af : (can : Ending → Bool) (st : Half) (d : Progress) → MetNeed can (owed_af st d)
met_af can half.Read d = tt
met_af can half.Write d = tt

met_errors : (can : Ending → Bool) (st : ErrorStage) (d : Progress) → MetNeed can (owed_errors st d)
met_errors can errorStage.Clear d = tt
met_errors can errorStage.Clock d = tt

met_abort : (can : Ending → Bool) (st : AbortStage) (d : Progress) → MetNeed can (owed_abort st d)
met_abort can abortStage.DisableRead d = tt
met_abort can abortStage.DisableWrite d = tt
met_abort can abortStage.Busy d = tt
met_abort can abortStage.StopRead d = tt
met_abort can abortStage.StopWrite d = tt

met_returned : (chip : Chip) (k : Kind) (size count : ℕ) (e : Ending) → has_failed chip false e || returns_in k size count e ≡ true → MetNeed (response_ends chip (is_respond_to_read k)) (need.End e)
met_returned chip Listen size count (Ok o) q = second_true (ltb o.value 12288) (eqb o.second 0) q
met_returned chip RespondToWrite size count (Ok o) q = second_true (eqb o.value count) (eqb o.second 0) q
met_returned chip RespondToRead size count (Ok o) q = refl
met_returned chip k size count (Err f) q = only_first (is_met chip false f) q

met_receive : (can : Ending → Bool) (b : Bool) (p : ℕ) → MetNeed can (cond b (need.Keep p) need.Drop)
met_receive can true p = tt
met_receive can false p = tt

module _ (g : Setting) where
  abbrev ends : Ending → Bool
  ends = response_ends g.chip (is_respond_to_read g.kind)

  met_at : (st : Stage) (d : Progress) → fits_at g st d ≡ true → MetNeed ends (owed_at g st d)
  met_at (ClearStopf x st) d e = met_stopf ends st d
  met_at (Stale st) d e = met_stale ends st d
  met_at (Arm st) d e = met_arm ends st d
  met_at Poll d e = tt
  met_at (Match st) d e = met_match ends st
  met_at Receive d e = met_receive ends (ltb d.count g.size) d.count
  met_at Send d e = tt
  met_at (ClearAf st) d e = met_af ends st d
  met_at (Errors st) d e = met_errors ends st d
  met_at (Abort st) d e = met_abort ends st d
  met_at Ended d e = met_returned g.chip g.kind g.size d.count d.ending (second_true (counts g d) (has_failed g.chip false d.ending || returns g d) e)

  pub response_met : (m : Move) → fits g m ≡ true → MetNeed ends (owed g m)
  unfolding fits owed
  response_met m e = met_at m.stage m.progress e
