-- `master_step::stop::generate_stop` meets its contract.
use Rattle.std.proofs.Common.{refl, sym, ap, ◌∙◌}
use lib.Dec.{eqb}
use Rattle.access.proofs.Choice.{both_true}
use Rattle.master.specs.declared.stage.StopFor.{StopFor}
use Rattle.master.specs.declared.stage.Half.{Half}
use Rattle.master.specs.declared.stage.Stage.TheVariants.{GenerateStop}
use Rattle.master.specs.Calls.{setting_of}
use Rattle.master.specs.Machine.{advance_at}
use Rattle.stage_numbers.specs.MasterStage.{stop_for_number, stop_for_of, half_number, half_of}
use Rattle.stage_numbers.proofs.NumberedLaws.{told, untold, number_told}
use Rattle.master_step.specs.Going.{fits_stop_in}
use Rattle.master_step.specs.Held.{call_in, progress_in, run_in}
use Rattle.master_step.proofs.Laws.{going, takes, refuses, as_told}
use Rattle.master_step.proofs.GroupLaws.{no_first, no_fit}
use Rattle.master_step.proofs.TakenLaws.{stop_decides}
use Rattle.master_step.proofs.stop.generate_stop.Goals as goal

pub returns-in_default : goal.returns-in_default
returns-in_default c = λ s k n. refuses (no_first _ (stop_decides c.args.input.left c.args.input.what c.args.input.phase (going s) (sym s.rest) n) (untold stop_for_number stop_for_of c.args.input.what c.in_default.ensures)) (record { block = refl; ended = c.refused.ensures })

pub returns-in_default-of : goal.returns-in_default-of
returns-in_default-of c =
    λ s k n.
    refuses (no_fit (eqb (stop_for_number (stop_for_of c.args.input.what)) c.args.input.what) _ (stop_decides c.args.input.left c.args.input.what c.args.input.phase (going s) (sym s.rest) n) (no_first (fits_stop_in c.args.here c.args.input.left (stop_for_of c.args.input.what)) refl (untold half_number half_of c.args.input.phase c.in_default-of.ensures))) (record { block = refl; ended = c.refused-in_default-of.ensures })

pub returns-then-not-fits_stop : goal.returns-then-not-fits_stop
returns-then-not-fits_stop c =
    λ s k n.
    let what = told stop_for_number stop_for_of c.args.input.what c.in-Some.ensures in
    refuses (no_fit (eqb (stop_for_number (stop_for_of c.args.input.what)) c.args.input.what) _ (stop_decides c.args.input.left c.args.input.what c.args.input.phase (going s) (sym s.rest) n) (no_fit (eqb (half_number (half_of c.args.input.phase)) c.args.input.phase) _ refl (ap (fits_stop_in c.args.here c.args.input.left) what.kind ∙ sym c.fits_stop.ensures ∙ c.if-not-fits_stop.true))) (record { block = refl; ended = c.refused-then-not-fits_stop.ensures })

pub returns : goal.returns
returns c =
    λ s k n.
    let what = told stop_for_number stop_for_of c.args.input.what c.in-Some.ensures in
    let stage = told half_number half_of c.args.input.phase c.in-Some-of.ensures in
    takes (stop_decides c.args.input.left c.args.input.what c.args.input.phase (going s) (sym s.rest) n ∙ both_true what.own (both_true stage.own (ap (fits_stop_in c.args.here c.args.input.left) what.kind ∙ sym c.fits_stop.ensures ∙ c.if-not-fits_stop.false)))
    (as_told (λ (x : StopFor). advance_at (setting_of (call_in c.args.block.now)) (run_in c.args.here) (GenerateStop x (half_of c.args.input.phase)) (progress_in c.args.block.now) c.args.input.answer) what.kind
    (as_told (λ (x : Half). advance_at (setting_of (call_in c.args.block.now)) (run_in c.args.here) (GenerateStop c.in-Some.what x) (progress_in c.args.block.now) c.args.input.answer) stage.kind
    (c.stop_phase.ensures s k.group_is (k.what_is ∙ sym (number_told what)))))
