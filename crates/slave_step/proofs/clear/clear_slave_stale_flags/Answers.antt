-- `slave_step::clear::clear_slave_stale_flags` meets its contract.
use mathlib.Core.Path.{refl, sym, ap, ◌∙◌}
use mathlib.Core.Bool.{Bool, ◌&&◌}
use lib.Dec.{eqb}
use Rattle.slave.specs.declared.stage.StaleStage.{StaleStage}
use Rattle.slave.specs.declared.stage.Stage.TheVariants.{Stale}
use Rattle.slave.specs.Fits.{is_listen}
use Rattle.slave.specs.Machine.{advance_at}
use Rattle.stage_numbers.specs.SlaveStage.{stale_stage_number, stale_stage_of}
use Rattle.slave_step.proofs.KindLaws.{unknown, unfit, taken}
use Rattle.slave_step.proofs.GroupLaws.{stale_decides}
use Rattle.slave_step.proofs.clear.clear_slave_stale_flags.Goals as goal

pub returns-in_default : goal.returns-in_default
returns-in_default g c = unknown stale_stage_number stale_stage_of c.args.here.phase (eqb c.args.here.what 0 && is_listen c.args.here.kind) (stale_decides g.s c.args.here.kind c.requires.kind c.args.here.what c.args.here.phase c.requires.seen) (λ (x : StaleStage). advance_at g.s.setting (Stale x) g.s.progress c.args.here.answer) c.in_default.ensures (record { block = refl; ended = c.refused.ensures })

pub returns-then-not-here-listens : goal.returns-then-not-here-listens
returns-then-not-here-listens g c = unfit stale_stage_number stale_stage_of c.args.here.phase (eqb c.args.here.what 0 && is_listen c.args.here.kind) (stale_decides g.s c.args.here.kind c.requires.kind c.args.here.what c.args.here.phase c.requires.seen) (λ (x : StaleStage). advance_at g.s.setting (Stale x) g.s.progress c.args.here.answer) (ap (λ (b : Bool). eqb c.args.here.what 0 && b) (sym c.listens.ensures) ∙ c.if-not-here-listens.true) (record { block = refl; ended = c.refused-then-not-here-listens.ensures })

pub returns : goal.returns
returns g c = taken stale_stage_number stale_stage_of c.args.here.phase (eqb c.args.here.what 0 && is_listen c.args.here.kind) (stale_decides g.s c.args.here.kind c.requires.kind c.args.here.what c.args.here.phase c.requires.seen) (λ (x : StaleStage). advance_at g.s.setting (Stale x) g.s.progress c.args.here.answer) c.in-Some.ensures (ap (λ (b : Bool). eqb c.args.here.what 0 && b) (sym c.listens.ensures) ∙ c.if-not-here-listens.false) c.stale_phase.ensures
