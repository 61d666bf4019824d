-- `slave_step::listen::arms` meets its contract.
use mathlib.Core.Path.{refl, sym, ap, ◌∙◌}
use mathlib.Core.Bool.{Bool, ◌&&◌}
use lib.Dec.{eqb}
use Rattle.slave.specs.declared.stage.ArmStage.{ArmStage}
use Rattle.slave.specs.declared.stage.Stage.TheVariants.{Arm}
use Rattle.slave.specs.Fits.{is_listen}
use Rattle.slave.specs.Machine.{advance_at}
use Rattle.stage_numbers.specs.SlaveStage.{arm_stage_number, arm_stage_of}
use Rattle.slave_step.proofs.KindLaws.{unknown, unfit, taken}
use Rattle.slave_step.proofs.GroupLaws.{arm_decides}
use Rattle.slave_step.proofs.listen.arms.Goals as goal

pub returns-in_default : goal.returns-in_default
returns-in_default g c = unknown arm_stage_number arm_stage_of c.args.here.phase (eqb c.args.here.what 0 && is_listen c.args.here.kind) (arm_decides g.s c.args.here.kind c.requires.kind c.args.here.what c.args.here.phase c.requires.seen) (λ (x : ArmStage). advance_at g.s.setting (Arm x) g.s.progress c.args.here.answer) c.in_default.ensures (record { block = refl; ended = c.refused.ensures })

pub returns-then-not-here-listens : goal.returns-then-not-here-listens
returns-then-not-here-listens g c = unfit arm_stage_number arm_stage_of c.args.here.phase (eqb c.args.here.what 0 && is_listen c.args.here.kind) (arm_decides g.s c.args.here.kind c.requires.kind c.args.here.what c.args.here.phase c.requires.seen) (λ (x : ArmStage). advance_at g.s.setting (Arm x) g.s.progress c.args.here.answer) (ap (λ (b : Bool). eqb c.args.here.what 0 && b) (sym c.listens.ensures) ∙ c.if-not-here-listens.true) (record { block = refl; ended = c.refused-then-not-here-listens.ensures })

pub returns : goal.returns
returns g c = taken arm_stage_number arm_stage_of c.args.here.phase (eqb c.args.here.what 0 && is_listen c.args.here.kind) (arm_decides g.s c.args.here.kind c.requires.kind c.args.here.what c.args.here.phase c.requires.seen) (λ (x : ArmStage). advance_at g.s.setting (Arm x) g.s.progress c.args.here.answer) c.in-Some.ensures (ap (λ (b : Bool). eqb c.args.here.what 0 && b) (sym c.listens.ensures) ∙ c.if-not-here-listens.false) c.arm_phase.ensures
