-- `slave_step::clear::clear_af` meets its contract.
use mathlib.Core.Path.{refl, sym, ap, ◌∙◌}
use mathlib.Core.Bool.{Bool, ◌&&◌}
use lib.Dec.{eqb}
use Rattle.slave.specs.declared.stage.Half.{Half}
use Rattle.slave.specs.declared.stage.Stage.TheVariants.{ClearAf}
use Rattle.slave.specs.Fits.{is_respond_to_read}
use Rattle.slave.specs.Machine.{advance_at}
use Rattle.stage_numbers.specs.SlaveStage.{half_number, half_of}
use Rattle.slave_step.proofs.KindLaws.{unknown, unfit, taken}
use Rattle.slave_step.proofs.GroupLaws.{af_decides}
use Rattle.slave_step.proofs.clear.clear_af.Goals as goal

pub returns-in_default : goal.returns-in_default
returns-in_default g c = unknown half_number half_of c.args.here.phase (eqb c.args.here.what 0 && is_respond_to_read c.args.here.kind) (af_decides g.s c.args.here.kind c.requires.kind c.args.here.what c.args.here.phase c.requires.seen) (λ (x : Half). advance_at g.s.setting (ClearAf x) g.s.progress c.args.here.answer) c.in_default.ensures (record { block = refl; ended = c.refused.ensures })

pub returns-then-not-here-replies : goal.returns-then-not-here-replies
returns-then-not-here-replies g c = unfit half_number half_of c.args.here.phase (eqb c.args.here.what 0 && is_respond_to_read c.args.here.kind) (af_decides g.s c.args.here.kind c.requires.kind c.args.here.what c.args.here.phase c.requires.seen) (λ (x : Half). advance_at g.s.setting (ClearAf x) g.s.progress c.args.here.answer) (ap (λ (b : Bool). eqb c.args.here.what 0 && b) (sym c.replies.ensures) ∙ c.if-not-here-replies.true) (record { block = refl; ended = c.refused-then-not-here-replies.ensures })

pub returns : goal.returns
returns g c = taken half_number half_of c.args.here.phase (eqb c.args.here.what 0 && is_respond_to_read c.args.here.kind) (af_decides g.s c.args.here.kind c.requires.kind c.args.here.what c.args.here.phase c.requires.seen) (λ (x : Half). advance_at g.s.setting (ClearAf x) g.s.progress c.args.here.answer) c.in-Some.ensures (ap (λ (b : Bool). eqb c.args.here.what 0 && b) (sym c.replies.ensures) ∙ c.if-not-here-replies.false) c.af_phase.ensures
