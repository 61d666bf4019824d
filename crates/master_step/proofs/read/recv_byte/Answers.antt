-- `master_step::read::recv_byte` meets its contract.
use Rattle.std.proofs.Common.{refl, sym, ap, ◌∙◌}
use mathlib.Core.Bool.{Bool, ◌&&◌}
use lib.Dec.{eqb}
use Rattle.access.proofs.Choice.{both_true}
use Rattle.master.specs.declared.stage.RecvStage.{RecvStage}
use Rattle.master.specs.declared.stage.Stage.TheVariants.{RecvByte}
use Rattle.master.specs.Calls.{setting_of}
use Rattle.master.specs.Machine.{advance_at}
use Rattle.stage_numbers.specs.MasterStage.{recv_stage_number, recv_stage_of}
use Rattle.stage_numbers.proofs.NumberedLaws.{told, untold}
use Rattle.master_step.specs.Held.{call_in, progress_in, run_in}
use Rattle.master_step.proofs.Laws.{going, takes, refuses, as_told}
use Rattle.master_step.proofs.GroupLaws.{no_first, no_fit}
use Rattle.master_step.proofs.TakenLaws.{zero_told, recv_decides}
use Rattle.master_step.proofs.read.recv_byte.Goals as goal

pub returns-in_default : goal.returns-in_default
returns-in_default c = λ s k n. refuses (no_first _ (recv_decides c.args.input.left c.args.input.what c.args.input.phase (going s) (sym s.rest) n) (untold recv_stage_number recv_stage_of c.args.input.phase c.in_default.ensures)) (record { block = refl; ended = c.refused.ensures })

pub returns-then-not-input-receiving : goal.returns-then-not-input-receiving
returns-then-not-input-receiving c =
    λ s k n.
    let stage = told recv_stage_number recv_stage_of c.args.input.phase c.in-Some.ensures in
    refuses (no_fit (eqb (recv_stage_number (recv_stage_of c.args.input.phase)) c.args.input.phase) _ (recv_decides c.args.input.left c.args.input.what c.args.input.phase (going s) (sym s.rest) n) (ap (λ (b : Bool). eqb c.args.input.what 0 && b) (sym c.receiving.ensures) ∙ c.if-not-input-receiving.true)) (record { block = refl; ended = c.refused-then-not-input-receiving.ensures })

pub returns : goal.returns
returns c =
    λ s k n.
    let stage = told recv_stage_number recv_stage_of c.args.input.phase c.in-Some.ensures in
    let fit = ap (λ (b : Bool). eqb c.args.input.what 0 && b) (sym c.receiving.ensures) ∙ c.if-not-input-receiving.false in
    takes (recv_decides c.args.input.left c.args.input.what c.args.input.phase (going s) (sym s.rest) n ∙ both_true stage.own fit)
    (as_told (λ (x : RecvStage). advance_at (setting_of (call_in c.args.block.now)) (run_in c.args.here) (RecvByte x) (progress_in c.args.block.now) c.args.input.answer) stage.kind
    (c.recv_phase.ensures s k.group_is (k.what_is ∙ sym (zero_told c.args.input.what _ fit))))
