-- `master_step::ready::is_ready` meets its contract.
use Rattle.std.proofs.Common.{List, ℕ, sym, ap, ◌∙◌}
use mathlib.Core.Bool.{Bool, ◌&&◌}
use Rattle.access.specs.Endings.{is_done}
use Rattle.images.specs.EndImage.{ending_at}
use Rattle.master.specs.Fits.{counts}
use Rattle.master_step.specs.Held.{call_in, progress_in, run_in}
use Rattle.master_step.proofs.ReadyLaws.{end_told, busy_ready}
use Rattle.master_step.proofs.ready.is_ready.Goals as goal

pub returns-in-Begin : goal.returns-in-Begin
returns-in-Begin c = λ e l. rw c.in-Begin.is (c.is_done.ensures ∙ ap (λ (x : List ℕ). is_done (ending_at x)) (sym e) ∙ ap is_done (end_told _ _ _ _ _))

pub returns-in_default : goal.returns-in_default
returns-in_default c =
    λ e l.
    ap (λ (x : Bool). x && c.is_done-in_default.result) (c.counts-in_default.ensures e l)
    ∙ ap (λ (x : Bool). counts (run_in c.args.here) (progress_in c.args.block.now) && x) (c.is_done-in_default.ensures ∙ ap (λ (x : List ℕ). is_done (ending_at x)) (sym e) ∙ ap is_done (end_told _ _ _ _ _))
    ∙ busy_ready (call_in c.args.block.now).chip (run_in c.args.here) (progress_in c.args.block.now) c.args.group c.in_default.not-Begin c.in_default.not-Abort c.in_default.not-Ended
