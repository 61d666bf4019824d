-- `master_step::start::wait_stop_finished` meets its contract.
use Rattle.std.proofs.Common.{refl, sym, ap, ◌∙◌}
use lib.Dec.{eqb}
use Rattle.access.proofs.Choice.{both_true}
use Rattle.master.specs.declared.stage.Fall.{Fall}
use Rattle.master.specs.declared.stage.FallStage.{FallStage}
use Rattle.master.specs.declared.stage.Stage.TheVariants.{WaitStop}
use Rattle.master.specs.Calls.{setting_of}
use Rattle.master.specs.Machine.{advance_at}
use Rattle.stage_numbers.specs.MasterStage.{fall_number, fall_of, fall_stage_number, fall_stage_of}
use Rattle.stage_numbers.proofs.NumberedLaws.{told, untold, number_told}
use Rattle.master_step.specs.Going.{fits_fall_in}
use Rattle.master_step.specs.Held.{call_in, progress_in, run_in}
use Rattle.master_step.proofs.Laws.{going, takes, refuses, as_told}
use Rattle.master_step.proofs.GroupLaws.{no_first, no_fit}
use Rattle.master_step.proofs.GroupLaws.{fall_decides}
use Rattle.master_step.proofs.start.wait_stop_finished.Goals as goal

pub returns-in_default : goal.returns-in_default
returns-in_default c = λ s k n. refuses (no_first _ (fall_decides c.args.input.left c.args.input.what c.args.input.phase (going s) (sym s.rest) n) (untold fall_number fall_of c.args.input.what c.in_default.ensures)) (record { block = refl; ended = c.refused.ensures })

pub returns-in_default-of : goal.returns-in_default-of
returns-in_default-of c =
    λ s k n.
    refuses (no_fit (eqb (fall_number (fall_of c.args.input.what)) c.args.input.what) _ (fall_decides c.args.input.left c.args.input.what c.args.input.phase (going s) (sym s.rest) n) (no_first (fits_fall_in c.args.here c.args.input.left (fall_of c.args.input.what)) refl (untold fall_stage_number fall_stage_of c.args.input.phase c.in_default-of.ensures))) (record { block = refl; ended = c.refused-in_default-of.ensures })

pub returns-then-not-fits_fall : goal.returns-then-not-fits_fall
returns-then-not-fits_fall c =
    λ s k n.
    let what = told fall_number fall_of c.args.input.what c.in-Some.ensures in
    refuses (no_fit (eqb (fall_number (fall_of c.args.input.what)) c.args.input.what) _ (fall_decides c.args.input.left c.args.input.what c.args.input.phase (going s) (sym s.rest) n) (no_fit (eqb (fall_stage_number (fall_stage_of c.args.input.phase)) c.args.input.phase) _ refl (ap (fits_fall_in c.args.here c.args.input.left) what.kind ∙ sym c.fits_fall.ensures ∙ c.if-not-fits_fall.true))) (record { block = refl; ended = c.refused-then-not-fits_fall.ensures })

pub returns : goal.returns
returns c =
    λ s k n.
    let what = told fall_number fall_of c.args.input.what c.in-Some.ensures in
    let stage = told fall_stage_number fall_stage_of c.args.input.phase c.in-Some-of.ensures in
    takes (fall_decides c.args.input.left c.args.input.what c.args.input.phase (going s) (sym s.rest) n ∙ both_true what.own (both_true stage.own (ap (fits_fall_in c.args.here c.args.input.left) what.kind ∙ sym c.fits_fall.ensures ∙ c.if-not-fits_fall.false)))
    (as_told (λ (x : Fall). advance_at (setting_of (call_in c.args.block.now)) (run_in c.args.here) (WaitStop x (fall_stage_of c.args.input.phase)) (progress_in c.args.block.now) c.args.input.answer) what.kind
    (as_told (λ (x : FallStage). advance_at (setting_of (call_in c.args.block.now)) (run_in c.args.here) (WaitStop c.in-Some.what x) (progress_in c.args.block.now) c.args.input.answer) stage.kind
    (c.fall_phase.ensures s k.group_is (k.what_is ∙ sym (number_told what)))))
