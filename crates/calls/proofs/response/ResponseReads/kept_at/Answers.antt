-- Where a receive's byte is to be kept.
use mathlib.Core.Path.{sym, ap, ◌∙◌}
use mathlib.Core.Bool.{Bool, cond}
use Rattle.std.specs.Prelude.{Some, None}
use Rattle.slave_step.proofs.StandLaws.{place_told}
use Rattle.calls.proofs.response.ResponseReads.kept_at.Goals as goal

pub returns-then-is_kept : goal.returns-then-is_kept
returns-then-is_kept c =
    λ s h. ap (λ (t : Bool). cond t (Some c.long-count.result) None) (sym c.if-is_kept.true) ∙ place_told c.args.self.now.kind c.args.self.now.size _ s _ _ h c.long-count.ensures c.is_kept.ensures

pub returns-else-is_kept : goal.returns-else-is_kept
returns-else-is_kept c =
    λ s h. ap (λ (t : Bool). cond t (Some c.long-count.result) None) (sym c.if-is_kept.false) ∙ place_told c.args.self.now.kind c.args.self.now.size _ s _ _ h c.long-count.ensures c.is_kept.ensures
