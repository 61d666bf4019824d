-- `list_run::runs::rest` meets its contract: the sums so far and those of the runs that are left are those from the place on.
use Prim.Native.Nat.{◌-◌}
use lib.ListN.{length}
use Rattle.list_run.specs.Passing.{Between}
use Rattle.list_run.proofs.runs.rest.Given as goal

abbrev pub invariant-loop-place : goal.invariant-loop-place
invariant-loop-place l = Between l.list l.last l.initial.place l.place

abbrev pub decreases-loop-place : goal.decreases-loop-place
decreases-loop-place l = length l.list - l.place.at
