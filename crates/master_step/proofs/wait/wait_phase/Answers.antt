-- `master_step::wait::wait_phase` meets its contract.
use Rattle.std.proofs.Common.{sym, ap, ◌∙◌}
use mathlib.Core.Bool.{not}
use borrow.Author.Tests.{ne_eqb}
use Rattle.registers.specs.declared.register.Register.TheVariants.{Star1}
use Rattle.registers.specs.Flags.{clear_error}
use Rattle.access.specs.declared.need.Need.TheVariants as need
use Rattle.master.specs.declared.stage.Stage.TheVariants.{Wait}
use Rattle.master.specs.declared.stage.WaitStage.TheVariants.{Clear}
use Rattle.master.specs.Machine.{saves}
use Rattle.master_step.specs.Held.{block_at, call_in, progress_in}
use Rattle.master_step.proofs.Laws.{moves, first}
use Rattle.master_step.proofs.wait.wait_phase.Goals as goal

pub returns-then-observed-ne0 : goal.returns-then-observed-ne0
returns-then-observed-ne0 c =
    λ s g n.
    rw c.in-Status.is
    (first _ (ap not (ne_eqb _ _ (λ e. c.if-observed-ne0.true (c.error_flags-observed.ensures ∙ e))))
    (moves {st = Wait c.args.flag Clear} (sym ((λ i. block_at (call_in c.args.block.now) (saves c.args.input.answer (progress_in c.args.block.now)) (sym g i) (sym n i) 1) ∙ c.modifies.ensures.puts s.held))
    (c.modifies.ensures.asks ∙ ap (need.Write Star1) (c.clear_error.ensures ∙ ap clear_error c.error_flags-observed.ensures))))
