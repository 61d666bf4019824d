-- `slave_step::clear::clear_stopf` meets its contract.
use mathlib.Core.Path.{refl, sym, ◌∙◌}
use Rattle.slave.specs.declared.stage.StopfFor.{StopfFor}
use Rattle.slave.specs.declared.stage.StopfStage.{StopfStage}
use Rattle.slave.specs.declared.stage.Stage.TheVariants.{ClearStopf}
use Rattle.slave.specs.Machine.{advance_at}
use Rattle.stage_numbers.specs.SlaveStage.{stopf_for_number, stopf_for_of, stopf_stage_number, stopf_stage_of}
use Rattle.stage_numbers.proofs.NumberedLaws.{told, untold, number_told}
use Rattle.slave_step.specs.Held.{is_for}
use Rattle.slave_step.proofs.Laws.{refuses}
use Rattle.slave_step.proofs.KindLaws.{as_told, unknown, unfit, taken}
use Rattle.slave_step.proofs.GroupLaws.{no_stopf, stopf_decides}
use Rattle.slave_step.proofs.clear.clear_stopf.Goals as goal

pub returns-in_default : goal.returns-in_default
returns-in_default g c = refuses (no_stopf g.s c.args.here.what c.args.here.phase (untold stopf_for_number stopf_for_of c.args.here.what c.in_default.ensures)) (record { block = refl; ended = c.refused.ensures })

pub returns-in_default-of : goal.returns-in_default-of
returns-in_default-of g c = unknown stopf_stage_number stopf_stage_of c.args.here.phase (is_for c.args.here.kind c.in-Some.what) (stopf_decides g.s c.args.here.kind c.requires.kind c.in-Some.what c.args.here.what c.args.here.phase (number_told (told stopf_for_number stopf_for_of c.args.here.what c.in-Some.ensures)) c.requires.seen) (λ (x : StopfStage). advance_at g.s.setting (ClearStopf (stopf_for_of c.args.here.what) x) g.s.progress c.args.here.answer) c.in_default-of.ensures (record { block = refl; ended = c.refused-in_default-of.ensures })

pub returns-then-not-is_for : goal.returns-then-not-is_for
returns-then-not-is_for g c = unfit stopf_stage_number stopf_stage_of c.args.here.phase (is_for c.args.here.kind c.in-Some.what) (stopf_decides g.s c.args.here.kind c.requires.kind c.in-Some.what c.args.here.what c.args.here.phase (number_told (told stopf_for_number stopf_for_of c.args.here.what c.in-Some.ensures)) c.requires.seen) (λ (x : StopfStage). advance_at g.s.setting (ClearStopf (stopf_for_of c.args.here.what) x) g.s.progress c.args.here.answer) (sym c.is_for.ensures ∙ c.if-not-is_for.true) (record { block = refl; ended = c.refused-then-not-is_for.ensures })

pub returns : goal.returns
returns g c =
    taken stopf_stage_number stopf_stage_of c.args.here.phase (is_for c.args.here.kind c.in-Some.what) (stopf_decides g.s c.args.here.kind c.requires.kind c.in-Some.what c.args.here.what c.args.here.phase (number_told (told stopf_for_number stopf_for_of c.args.here.what c.in-Some.ensures)) c.requires.seen) (λ (x : StopfStage). advance_at g.s.setting (ClearStopf (stopf_for_of c.args.here.what) x) g.s.progress c.args.here.answer) c.in-Some-of.ensures (sym c.is_for.ensures ∙ c.if-not-is_for.false)
    (as_told (λ (x : StopfFor). advance_at g.s.setting (ClearStopf x c.in-Some-of.phase) g.s.progress c.args.here.answer) (told stopf_for_number stopf_for_of c.args.here.what c.in-Some.ensures).kind c.stopf_phase.ensures)
