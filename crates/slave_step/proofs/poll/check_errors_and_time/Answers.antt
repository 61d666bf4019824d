-- `slave_step::poll::check_errors_and_time` meets its contract.
use mathlib.Core.Path.{refl}
use lib.Dec.{eqb}
use borrow.Author.Tests.{eq-eqb, ne_eqb}
use Rattle.slave.specs.declared.stage.ErrorStage.{ErrorStage}
use Rattle.slave.specs.declared.stage.Stage.TheVariants.{Errors}
use Rattle.slave.specs.Machine.{advance_at}
use Rattle.stage_numbers.specs.SlaveStage.{error_stage_number, error_stage_of}
use Rattle.slave_step.proofs.KindLaws.{unknown, unfit, taken}
use Rattle.slave_step.proofs.GroupLaws.{errors_decides}
use Rattle.slave_step.proofs.poll.check_errors_and_time.Goals as goal

pub returns-in_default : goal.returns-in_default
returns-in_default g c = unknown error_stage_number error_stage_of c.args.here.phase (eqb c.args.here.what 0) (errors_decides g.s c.args.here.what c.args.here.phase c.requires.seen) (λ (x : ErrorStage). advance_at g.s.setting (Errors x) g.s.progress c.args.here.answer) c.in_default.ensures (record { block = refl; ended = c.refused.ensures })

pub returns-then-here-ne0 : goal.returns-then-here-ne0
returns-then-here-ne0 g c = unfit error_stage_number error_stage_of c.args.here.phase (eqb c.args.here.what 0) (errors_decides g.s c.args.here.what c.args.here.phase c.requires.seen) (λ (x : ErrorStage). advance_at g.s.setting (Errors x) g.s.progress c.args.here.answer) (ne_eqb _ _ c.if-here-ne0.true) (record { block = refl; ended = c.refused-then-here-ne0.ensures })

pub returns : goal.returns
returns g c = taken error_stage_number error_stage_of c.args.here.phase (eqb c.args.here.what 0) (errors_decides g.s c.args.here.what c.args.here.phase c.requires.seen) (λ (x : ErrorStage). advance_at g.s.setting (Errors x) g.s.progress c.args.here.answer) c.in-Some.ensures (eq-eqb _ _ c.if-here-ne0.false) c.error_phase.ensures
