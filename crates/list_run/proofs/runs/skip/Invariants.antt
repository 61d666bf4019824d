-- `list_run::runs::skip` meets its contract: the runs from the place on lead to the run that is asked for.
use Prim.Native.Nat.{◌-◌}
use Rattle.list_run.specs.Passing.{Ahead}
use Rattle.list_run.proofs.runs.skip.Given as goal

abbrev pub invariant-loop-passed : goal.invariant-loop-passed
invariant-loop-passed l = Ahead l.list l.last l.number (l.number - l.passed) l.place
