-- `call::runs` meets its contract.
use Rattle.call.proofs.CallLaws.{runs_on}
use Rattle.call.proofs.runs.Goals as goal

pub returns : goal.returns
returns g c v x s b answers e = runs_on (g.C.OnBlock.on v) (g.C.OnBlock.laws v) x s b answers e
