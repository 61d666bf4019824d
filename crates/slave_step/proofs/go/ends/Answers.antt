-- `slave_step::go::ends` meets its contract.
use Rattle.slave_step.proofs.go.ends.Goals as goal

pub returns-clause-asks : goal.returns-clause-asks
returns-clause-asks g c = c.ended-end.ensures g.e c.requires
