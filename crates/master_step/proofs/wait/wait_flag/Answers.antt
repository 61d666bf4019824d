-- `master_step::wait::wait_flag` meets its contract.
use Rattle.std.proofs.Common.{refl, sym, ap, ◌∙◌}
use lib.Dec.{eqb}
use Rattle.access.proofs.Choice.{both_true}
use Rattle.master.specs.declared.stage.Flag.{Flag}
use Rattle.master.specs.declared.stage.WaitStage.{WaitStage}
use Rattle.master.specs.declared.stage.Stage.TheVariants.{Wait}
use Rattle.master.specs.Calls.{setting_of}
use Rattle.master.specs.Machine.{advance_at}
use Rattle.stage_numbers.specs.MasterStage.{flag_number, flag_of, wait_stage_number, wait_stage_of}
use Rattle.stage_numbers.proofs.NumberedLaws.{told, untold, number_told}
use Rattle.master_step.specs.Going.{fits_wait_in}
use Rattle.master_step.specs.Held.{call_in, progress_in, run_in}
use Rattle.master_step.proofs.Laws.{going, takes, refuses, as_told}
use Rattle.master_step.proofs.GroupLaws.{no_first, no_fit}
use Rattle.master_step.proofs.GroupLaws.{wait_decides}
use Rattle.master_step.proofs.wait.wait_flag.Goals as goal

pub returns-in_default : goal.returns-in_default
returns-in_default c = λ s k n. refuses (no_first _ (wait_decides c.args.input.left c.args.input.what c.args.input.phase (going s) (sym s.rest) n) (untold flag_number flag_of c.args.input.what c.in_default.ensures)) (record { block = refl; ended = c.refused.ensures })

pub returns-in_default-of : goal.returns-in_default-of
returns-in_default-of c =
    λ s k n.
    refuses (no_fit (eqb (flag_number (flag_of c.args.input.what)) c.args.input.what) _ (wait_decides c.args.input.left c.args.input.what c.args.input.phase (going s) (sym s.rest) n) (no_first (fits_wait_in c.args.here c.args.input.left (flag_of c.args.input.what)) refl (untold wait_stage_number wait_stage_of c.args.input.phase c.in_default-of.ensures))) (record { block = refl; ended = c.refused-in_default-of.ensures })

pub returns-then-not-fits_wait : goal.returns-then-not-fits_wait
returns-then-not-fits_wait c =
    λ s k n.
    let what = told flag_number flag_of c.args.input.what c.in-Some.ensures in
    refuses (no_fit (eqb (flag_number (flag_of c.args.input.what)) c.args.input.what) _ (wait_decides c.args.input.left c.args.input.what c.args.input.phase (going s) (sym s.rest) n) (no_fit (eqb (wait_stage_number (wait_stage_of c.args.input.phase)) c.args.input.phase) _ refl (ap (fits_wait_in c.args.here c.args.input.left) what.kind ∙ sym c.fits_wait.ensures ∙ c.if-not-fits_wait.true))) (record { block = refl; ended = c.refused-then-not-fits_wait.ensures })

pub returns : goal.returns
returns c =
    λ s k n.
    let what = told flag_number flag_of c.args.input.what c.in-Some.ensures in
    let stage = told wait_stage_number wait_stage_of c.args.input.phase c.in-Some-of.ensures in
    takes (wait_decides c.args.input.left c.args.input.what c.args.input.phase (going s) (sym s.rest) n ∙ both_true what.own (both_true stage.own (ap (fits_wait_in c.args.here c.args.input.left) what.kind ∙ sym c.fits_wait.ensures ∙ c.if-not-fits_wait.false)))
    (as_told (λ (x : Flag). advance_at (setting_of (call_in c.args.block.now)) (run_in c.args.here) (Wait x (wait_stage_of c.args.input.phase)) (progress_in c.args.block.now) c.args.input.answer) what.kind
    (as_told (λ (x : WaitStage). advance_at (setting_of (call_in c.args.block.now)) (run_in c.args.here) (Wait c.in-Some.flag x) (progress_in c.args.block.now) c.args.input.answer) stage.kind
    (c.wait_phase.ensures s k.group_is (k.what_is ∙ sym (number_told what)))))
