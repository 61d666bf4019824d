-- `list_run::runs::rest` meets its contract: the sums so far and those of the runs that are left are those from the place on.
use Rattle.list_run.proofs.PassLaws.{rests_part, rests_at}
use Rattle.list_run.proofs.runs.rest.Goals as goal

pub returns-then-place-list : goal.returns-then-place-list
returns-then-place-list c = rests_part _ _ _ _ c.loop-place.invariant c.loop-place-test.false c.if-place-list.true

pub returns : goal.returns
returns c = rests_at _ _ _ _ c.loop-place.invariant c.loop-place-test.false c.if-place-list.false
