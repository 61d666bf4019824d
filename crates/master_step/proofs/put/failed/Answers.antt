-- `master_step::put::failed` meets its contract.
use mathlib.Core.Path.{sym, ◌∙◌}
use Rattle.master_step.proofs.Laws.{ends_at}
use Rattle.master_step.proofs.put.failed.Goals as goal

pub returns : goal.returns
returns c = λ e. ends_at _ _ _ _ _ e _ ∙ sym c.put.ensures
