-- `list_run::find::find` meets its contract: what is known at the places before the run, behind it and at the list's end is the answer.
use mathlib.Core.Path.{◌≡◌, ◌∙◌}
use mathlib.Core.Bool.{cond}
use native.Mathlib.Omega.{arith}
use Rattle.list_run.proofs.PassLaws.{ahead_over, ahead_flawed}
use Rattle.list_run.proofs.AnswerLaws.{not_found, short_list, rest_flawed, too_long, other_written, other_read, answer}
use Rattle.access.proofs.Choice.{when_true, when_false}
use Rattle.list_run.proofs.find.find.Goals as goal
use Rattle.list_run.proofs.find.find.Goals.{then-behind, else-behind}

pub returns-then-size-lt3 : goal.returns-then-size-lt3
returns-then-size-lt3 c = not_found _ _ _ _ (λ n. short_list _ _ c.if-size-lt3.true)

pub returns-then-size-gt768 : goal.returns-then-size-gt768
returns-then-size-gt768 c = not_found _ _ _ _ (λ n. absurd (omega (arith, n.few, c.if-size-gt768.true)))

pub returns-in_err-place : goal.returns-in_err-place
returns-in_err-place c = c.from_residual.ensures ∙ not_found _ _ _ _ (λ n. c.in_err-place.ensures n.sound)

pub returns-then-last-place : goal.returns-then-last-place
returns-then-last-place c = not_found _ _ _ _ (λ n. ahead_over _ _ _ _ _ c.in_ok-place.ensures c.if-last-place.true n.sound)

pub returns-in_err-behind : goal.returns-in_err-behind
returns-in_err-behind c =
    c.from_residual-in_err-behind.ensures ∙ not_found _ _ _ _ (λ n. ahead_flawed _ _ _ _ _ c.in_ok-place.ensures c.in_err-behind.ensures n.sound)

pub returns-in_err-end : goal.returns-in_err-end
returns-in_err-end c =
    c.from_residual-in_err-end.ensures ∙ not_found _ _ _ _ (λ n. rest_flawed _ _ _ _ _ c.in_ok-behind.behind c.in_ok-place.ensures c.in_ok-behind.ensures c.in_err-end.ensures n.sound)

pub returns-then-end-gt-MOST_BYTES : goal.returns-then-end-gt-MOST_BYTES
returns-then-end-gt-MOST_BYTES c =
    not_found _ _ _ _ (λ n. too_long _ _ _ _ _ _ c.in_ok-place.ensures c.in_ok-behind.ensures c.in_ok-end.ensures _ _ n c.if-end-gt-MOST_BYTES.true)

pub returns-then-written-end : goal.returns-then-written-end
returns-then-written-end c =
    not_found _ _ _ _ (λ n. other_written _ _ _ _ _ _ c.in_ok-place.ensures c.in_ok-behind.ensures c.in_ok-end.ensures _ _ n c.if-written-end.true)

pub returns-then-room-end : goal.returns-then-room-end
returns-then-room-end c =
    not_found _ _ _ _ (λ n. other_read _ _ _ _ _ _ c.in_ok-place.ensures c.in_ok-behind.ensures c.in_ok-end.ensures _ _ n c.if-room-end.true)

pub returns : goal.returns
returns c =
    let before : c.if-behind.before ≡ cond c.in_ok-behind.behind.reading c.in_ok-place.place.read c.in_ok-place.place.written = elim c.if-behind.branch [ then-behind w ↦ w.before-is ∙ when_true _ _ w.if-behind.true | else-behind w ↦ w.before-is ∙ when_false _ _ w.if-behind.false ] in
    answer _ _ _ _ _ _ c.in_ok-place.ensures c.in_ok-behind.ensures c.in_ok-end.ensures _ _ _ before c.if-end-gt-MOST_BYTES.false c.if-written-end.false c.if-room-end.false
