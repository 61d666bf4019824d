-- `list_run::runs::skip` meets its contract: the runs from the place on lead to the run that is asked for.
use Rattle.list_run.proofs.PassLaws.{ahead_over, ahead_passed}
use Rattle.list_run.proofs.runs.skip.Goals as goal

pub returns-then-last-place : goal.returns-then-last-place
returns-then-last-place c = ahead_over _ _ _ _ _ c.loop-passed.invariant c.if-last-place.true

pub loop-passed-preserved : goal.loop-passed-preserved
loop-passed-preserved c =
    ahead_passed _ _ _ _ _ c.loop-passed-test.true c.loop-passed.invariant c.if-last-place.false _ c.in_ok-place.ensures
