-- `master_step::abort::abort_transfer` meets its contract.
use Rattle.std.proofs.Common.{◌≡◌, refl, sym, ap, ◌∙◌}
use lib.Dec.{eqb}
use mathlib.Core.Bool.{Bool, ◌&&◌}
use Rattle.access.proofs.Choice.{both_true}
use Rattle.registers.specs.declared.chip.Chip.{Chip}
use Rattle.master.specs.declared.stage.AbortStage.{AbortStage}
use Rattle.master.specs.Machine.{abort_transfer}
use Rattle.master.specs.Fits.{fits_abort}
use Rattle.stage_numbers.specs.MasterStage.{abort_stage_number, abort_stage_of}
use Rattle.stage_numbers.proofs.NumberedLaws.{told, untold}
use Rattle.master_step.specs.Held.{call_in, progress_in}
use Rattle.master_step.proofs.Laws.{takes, refuses, as_told}
use Rattle.master_step.proofs.GroupLaws.{no_first, no_fit}
use Rattle.master_step.proofs.TakenLaws.{zero_told}
use Rattle.master_step.proofs.AbortLaws.{abort_decides, chip_told}
use Rattle.master_step.proofs.abort.abort_transfer.Goals as goal

pub returns-in_default : goal.returns-in_default
returns-in_default c =
    λ s k.
    refuses (no_first _ (abort_decides (call_in c.args.block.now).chip c.args.input.what c.args.input.phase) (untold abort_stage_number abort_stage_of c.args.input.phase c.in_default.ensures)) (record { block = refl; ended = c.refused.ensures })

pub returns-then-not-input-fits_abort : goal.returns-then-not-input-fits_abort
returns-then-not-input-fits_abort c =
    λ s k.
    let stage = told abort_stage_number abort_stage_of c.args.input.phase c.in-Some.ensures in
    let chip : c.chip_of-chip.result ≡ (call_in c.args.block.now).chip = c.chip_of-chip.ensures ∙ chip_told _ _ _ _ _ s in
    let fit = ap (λ (x : AbortStage). eqb c.args.input.what 0 && fits_abort (call_in c.args.block.now).chip x) stage.kind ∙ ap (λ (x : Chip). eqb c.args.input.what 0 && fits_abort x c.in-Some.phase) (sym chip) ∙ ap (λ (b : Bool). eqb c.args.input.what 0 && b) (sym c.fits_abort.ensures) in
    refuses (no_fit (eqb (abort_stage_number (abort_stage_of c.args.input.phase)) c.args.input.phase) _ (abort_decides (call_in c.args.block.now).chip c.args.input.what c.args.input.phase) (fit ∙ c.if-not-input-fits_abort.true)) (record { block = refl; ended = c.refused-then-not-input-fits_abort.ensures })

pub returns : goal.returns
returns c =
    λ s k.
    let stage = told abort_stage_number abort_stage_of c.args.input.phase c.in-Some.ensures in
    let chip : c.chip_of-chip.result ≡ (call_in c.args.block.now).chip = c.chip_of-chip.ensures ∙ chip_told _ _ _ _ _ s in
    let fit = ap (λ (x : AbortStage). eqb c.args.input.what 0 && fits_abort (call_in c.args.block.now).chip x) stage.kind ∙ ap (λ (x : Chip). eqb c.args.input.what 0 && fits_abort x c.in-Some.phase) (sym chip) ∙ ap (λ (b : Bool). eqb c.args.input.what 0 && b) (sym c.fits_abort.ensures) ∙ c.if-not-input-fits_abort.false in
    takes (abort_decides (call_in c.args.block.now).chip c.args.input.what c.args.input.phase ∙ both_true stage.own fit)
    (as_told (λ (x : AbortStage). abort_transfer (call_in c.args.block.now).chip x (progress_in c.args.block.now) c.args.input.answer) stage.kind
    (c.abort_phase.ensures (sym chip) s k.group_is (k.what_is ∙ sym (zero_told c.args.input.what _ fit))))
