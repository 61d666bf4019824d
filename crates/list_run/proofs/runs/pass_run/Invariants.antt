-- `list_run::runs::pass_run` meets its contract: along the run, what is left and the open run are the runs from the place on.
use Prim.Native.Nat.{◌-◌, ◌≤◌}
use Rattle.list_run.specs.Passing.{counted}
use lib.ListN.{length}
use Rattle.list_run.proofs.PassLaws.{Along}
use Rattle.list_run.proofs.runs.pass_run.Given as goal

abbrev pub invariant-loop-from : goal.invariant-loop-from
invariant-loop-from l = Along l.list l.from l.direction l.at (l.count - counted l.direction l.from) × (counted l.direction l.from ≤ l.count)

abbrev pub decreases-loop-from : goal.decreases-loop-from
decreases-loop-from l = length l.list - l.at
