-- `master_step::read::blocking_read_iter` meets its contract.
use Rattle.std.proofs.Common.{refl, sym, ap, ◌∙◌}
use mathlib.Core.Bool.{Bool, ◌&&◌}
use lib.Dec.{eqb}
use Rattle.access.proofs.Choice.{both_true}
use Rattle.master.specs.declared.stage.ReadStage.{ReadStage}
use Rattle.master.specs.declared.stage.Stage.TheVariants.{ReadIter}
use Rattle.master.specs.Calls.{setting_of}
use Rattle.master.specs.Machine.{advance_at}
use Rattle.stage_numbers.specs.MasterStage.{read_stage_number, read_stage_of}
use Rattle.stage_numbers.proofs.NumberedLaws.{told, untold}
use Rattle.master_step.specs.Going.{fits_read_in}
use Rattle.master_step.specs.Held.{call_in, progress_in, run_in}
use Rattle.master_step.proofs.Laws.{going, takes, refuses, as_told}
use Rattle.master_step.proofs.GroupLaws.{no_first, no_fit}
use Rattle.master_step.proofs.TakenLaws.{zero_told, read_decides}
use Rattle.master_step.proofs.read.blocking_read_iter.Goals as goal

pub returns-in_default : goal.returns-in_default
returns-in_default c = λ s k n. refuses (no_first _ (read_decides c.args.input.left c.args.input.what c.args.input.phase (going s) (sym s.rest) n) (untold read_stage_number read_stage_of c.args.input.phase c.in_default.ensures)) (record { block = refl; ended = c.refused.ensures })

pub returns-then-not-input-fits_read : goal.returns-then-not-input-fits_read
returns-then-not-input-fits_read c =
    λ s k n.
    let stage = told read_stage_number read_stage_of c.args.input.phase c.in-Some.ensures in
    refuses (no_fit (eqb (read_stage_number (read_stage_of c.args.input.phase)) c.args.input.phase) _ (read_decides c.args.input.left c.args.input.what c.args.input.phase (going s) (sym s.rest) n) (ap (λ (x : ReadStage). eqb c.args.input.what 0 && fits_read_in c.args.here c.args.input.left x) stage.kind ∙ ap (λ (b : Bool). eqb c.args.input.what 0 && b) (sym c.fits_read.ensures) ∙ c.if-not-input-fits_read.true)) (record { block = refl; ended = c.refused-then-not-input-fits_read.ensures })

pub returns : goal.returns
returns c =
    λ s k n.
    let stage = told read_stage_number read_stage_of c.args.input.phase c.in-Some.ensures in
    let fit = ap (λ (x : ReadStage). eqb c.args.input.what 0 && fits_read_in c.args.here c.args.input.left x) stage.kind ∙ ap (λ (b : Bool). eqb c.args.input.what 0 && b) (sym c.fits_read.ensures) ∙ c.if-not-input-fits_read.false in
    takes (read_decides c.args.input.left c.args.input.what c.args.input.phase (going s) (sym s.rest) n ∙ both_true stage.own fit)
    (as_told (λ (x : ReadStage). advance_at (setting_of (call_in c.args.block.now)) (run_in c.args.here) (ReadIter x) (progress_in c.args.block.now) c.args.input.answer) stage.kind
    (c.read_phase.ensures s k.group_is (k.what_is ∙ sym (zero_told c.args.input.what _ fit))))
