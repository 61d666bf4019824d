-- `master_step::step::step_in` meets its contract.
use Rattle.std.proofs.Common.{sym, ap, ◌∙◌}
use lib.ListN.{get_or}
use Rattle.stage_numbers.specs.MasterGroup.{group_number, group_of}
use Rattle.stage_numbers.proofs.NumberedLaws.{told, number_told}
use Rattle.master_step.proofs.StepLaws.{step_told}
use Rattle.master_step.proofs.step.step_in.Goals as goal

pub returns-in-Abort : goal.returns-in-Abort
returns-in-Abort c =
    let group = told group_number group_of (get_or c.args.block.now 3 0) c.in-Some.ensures in
    step_told c.args.here c.args.answer (c.step_of.ensures (sym (number_told group) ∙ ap group_number c.in-Abort.is))

pub returns-in-Begin : goal.returns-in-Begin
returns-in-Begin c =
    let group = told group_number group_of (get_or c.args.block.now 3 0) c.in-Some.ensures in
    step_told c.args.here c.args.answer (c.step_of-in-Begin.ensures (sym (number_told group) ∙ ap group_number c.in-Begin.is))

pub returns-in_default-group : goal.returns-in_default-group
returns-in_default-group c = step_told c.args.here c.args.answer (c.step_of-in_default-group.ensures (sym (number_told (told group_number group_of (get_or c.args.block.now 3 0) c.in-Some.ensures))))
