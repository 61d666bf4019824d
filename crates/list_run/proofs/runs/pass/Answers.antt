-- `list_run::runs::pass` meets its contract.
use native.Mathlib.Omega.{arith}
use Rattle.list_run.proofs.FineLaws.{flaw_direction}
use Rattle.list_run.proofs.runs.pass.Goals as goal

pub returns-in_default : goal.returns-in_default
returns-in_default c =
    flaw_direction c.args.list.now c.args.from.at (omega (arith, c.requires.here, c.requires.whole)) (omega (arith, c.in_default))
