use mathlib.Core.Path.{sym, ap, ◌∙◌}
use mathlib.Core.Bool.{true≢false}
use Rattle.access.specs.Endings.{is_ending}
use Rattle.access.specs.declared.ending.Words.{Words}
use Rattle.asked.proofs.EndLaws.{keeps_words}
use Rattle.asked.proofs.Asked.ended.Goals as goal

pub returns-then-not-is_ending : goal.returns-then-not-is_ending
returns-then-not-is_ending c e k =
    absurd (true≢false (sym (keeps_words c.args.block.now e k) ∙ ap (λ (w : Words). is_ending w.error w.value w.extra) (sym c.words-words.ensures) ∙ sym c.is_ending.ensures ∙ c.if-not-is_ending.true))
