-- `master_step::abort::ends` meets its contract.
use Rattle.std.proofs.Common.{sym}
use Rattle.master.specs.declared.stage.Stage.TheVariants.{Ended}
use Rattle.master_step.proofs.Laws.{moves, end_kept}
use Rattle.master_step.proofs.abort.ends.Goals as goal

pub returns : goal.returns
returns c = λ s g w. moves {st = Ended} (sym (c.to.ensures s)) (c.ended-end.ensures _ (end_kept _ _ _ _ _ s))
