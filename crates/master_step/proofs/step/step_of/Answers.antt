-- `master_step::step::step_of` meets its contract.
use Rattle.std.proofs.Common.{refl, sym, ◌∙◌}
use lib.ListN.{get_or}
use Rattle.stage_numbers.specs.MasterGroup.{group_number}
use Rattle.master_step.specs.Held.{stand_in, call_in, progress_in, run_in}
use Rattle.master_step.proofs.Laws.{refuses}
use Rattle.master_step.proofs.ReadyLaws.{unready}
use Rattle.master_step.proofs.StepLaws.{numbers_in, left_told, ready_told}
use Rattle.master_step.proofs.step.step_of.Goals as goal

pub returns-then-not-is_ready : goal.returns-then-not-is_ready
returns-then-not-is_ready c =
    λ e t.
    let left = left_told (stand_in c.args.block.now) c.args.block.now t.held ∙ sym c.word-left.ensures in
    rw e (refuses (unready (call_in c.args.block.now) (run_in c.args.here) (progress_in c.args.block.now) (group_number c.args.group) (get_or c.args.block.now 4 0) (get_or c.args.block.now 5 0) (sym (c.is_ready.ensures t.held left) ∙ c.if-not-is_ready.true)) (record { block = refl; ended = c.refused.ensures }))

pub returns : goal.returns
returns c =
    λ e t.
    let left = left_told (stand_in c.args.block.now) c.args.block.now t.held ∙ sym c.word-left.ensures in
    rw e (c.step.ensures (record { told = t; rest = left; ready = λ _. ready_told c.args.block.now c.args.here e (sym (c.is_ready.ensures t.held left) ∙ c.if-not-is_ready.false) }) (numbers_in c.args.block.now e))
