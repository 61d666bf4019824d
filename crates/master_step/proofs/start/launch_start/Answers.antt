-- `master_step::start::launch_start` meets its contract.
use Rattle.std.proofs.Common.{refl, sym, ap, ◌∙◌}
use mathlib.Core.Bool.{Bool, ◌&&◌}
use lib.Dec.{eqb}
use Rattle.access.proofs.Choice.{both_true}
use Rattle.master.specs.declared.stage.LaunchStage.{LaunchStage}
use Rattle.master.specs.declared.stage.Stage.TheVariants.{LaunchStart}
use Rattle.master.specs.Calls.{setting_of}
use Rattle.master.specs.Machine.{advance_at}
use Rattle.stage_numbers.specs.MasterStage.{launch_stage_number, launch_stage_of}
use Rattle.stage_numbers.proofs.NumberedLaws.{told, untold}
use Rattle.master_step.specs.Held.{call_in, progress_in, run_in}
use Rattle.master_step.proofs.Laws.{going, takes, refuses, as_told}
use Rattle.master_step.proofs.GroupLaws.{no_first, no_fit}
use Rattle.master_step.proofs.TakenLaws.{zero_told, launch_decides}
use Rattle.master_step.proofs.start.launch_start.Goals as goal

pub returns-in_default : goal.returns-in_default
returns-in_default c = λ s k n. refuses (no_first _ (launch_decides c.args.input.left c.args.input.what c.args.input.phase (going s) (sym s.rest) n) (untold launch_stage_number launch_stage_of c.args.input.phase c.in_default.ensures)) (record { block = refl; ended = c.refused.ensures })

pub returns-then-not-input-starting : goal.returns-then-not-input-starting
returns-then-not-input-starting c =
    λ s k n.
    let stage = told launch_stage_number launch_stage_of c.args.input.phase c.in-Some.ensures in
    refuses (no_fit (eqb (launch_stage_number (launch_stage_of c.args.input.phase)) c.args.input.phase) _ (launch_decides c.args.input.left c.args.input.what c.args.input.phase (going s) (sym s.rest) n) (ap (λ (b : Bool). eqb c.args.input.what 0 && b) (sym c.starting.ensures) ∙ c.if-not-input-starting.true)) (record { block = refl; ended = c.refused-then-not-input-starting.ensures })

pub returns : goal.returns
returns c =
    λ s k n.
    let stage = told launch_stage_number launch_stage_of c.args.input.phase c.in-Some.ensures in
    let fit = ap (λ (b : Bool). eqb c.args.input.what 0 && b) (sym c.starting.ensures) ∙ c.if-not-input-starting.false in
    takes (launch_decides c.args.input.left c.args.input.what c.args.input.phase (going s) (sym s.rest) n ∙ both_true stage.own fit)
    (as_told (λ (x : LaunchStage). advance_at (setting_of (call_in c.args.block.now)) (run_in c.args.here) (LaunchStart x) (progress_in c.args.block.now) c.args.input.answer) stage.kind
    (c.launch_phase.ensures s k.group_is (k.what_is ∙ sym (zero_told c.args.input.what _ fit))))
