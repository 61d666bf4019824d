-- `calls::transfer::kept_at` meets its contract.
use mathlib.Core.Path.{refl, sym, ap, ◌∙◌}
use mathlib.Core.Bool.{Bool, cond}
use Rattle.std.specs.Prelude.{Some, None}
use Rattle.block.specs.Bytes32.{word_at}
use Rattle.master_call.proofs.StandLaws.{place_told}
use Rattle.calls.proofs.transfer.kept_at.Goals as goal

pub returns-then-is_kept : goal.returns-then-is_kept
returns-then-is_kept c =
    λ list written room entry s h. ap (λ (t : Bool). cond t (Some c.word.result) None) (sym c.if-is_kept.true) ∙ place_told entry list written room _ s _ _ h c.word.ensures c.is_kept.ensures

pub returns-else-is_kept : goal.returns-else-is_kept
returns-else-is_kept c =
    λ list written room entry s h. ap (λ (t : Bool). cond t (Some (word_at c.args.block.now 14)) None) (sym c.if-is_kept.false) ∙ place_told entry list written room _ s _ _ h refl c.is_kept.ensures
