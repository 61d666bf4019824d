-- `list_run::runs::pass_run` meets its contract: along the run, what is left and the open run are the runs from the place on.
use mathlib.Core.Path.{sym, ◌∙◌}
use mathlib.Core.Logic.{inl, inr}
use native.Mathlib.Omega.{arith}
use Rattle.list_run.proofs.PassLaws.{counted_small, count_begins, run_flawed, count_goes_on, count_ends}
use Rattle.list_run.proofs.runs.pass_run.Goals as goal
use Rattle.list_run.proofs.runs.pass_run.Goals.{then-last-at-via-then-last-at, then-last-at-via-else-last-at+then-not-goes_on}

pub loop-from-init : goal.loop-from-init
loop-from-init c = (count_begins _ _ _ _ _ c.counted-count.ensures c.requires, omega (arith, c.counted-count.ensures))

pub returns-then-is_empty_read : goal.returns-then-is_empty_read
returns-then-is_empty_read c =
    run_flawed _ _ _ _ _ _ c.loop-from.invariant.0 c.word_of.ensures (sym c.is_empty_read.ensures ∙ c.if-is_empty_read.true)

pub overflow_add-count : goal.overflow_add-count
overflow_add-count c =
    omega (arith, c.loop-from.invariant.0.small, c.loop-from.invariant.0.inside, c.loop-from.invariant.0.since, c.loop-from.invariant.1, counted_small c.args.direction c.args.from, c.requires.start.few, c.requires.start.small, c.word_of.type_inv)

pub returns-then-last-at : goal.returns-then-last-at
returns-then-last-at c =
    count_ends _ _ _ _ _ _ c.loop-from.invariant.0 c.loop-from.invariant.1 c.word_of.ensures (sym c.is_empty_read.ensures ∙ c.if-is_empty_read.false) (omega (arith, c.word_of.type_inv))
    (elim c.then-last-at.branch [ then-last-at-via-then-last-at w ↦ inl (omega (arith, w.if-last-at.true, c.requires.start.whole)) | then-last-at-via-else-last-at+then-not-goes_on w ↦ inr (omega (arith, w.if-last-at.false, c.requires.start.whole), sym w.goes_on.ensures ∙ w.if-not-goes_on.true) ])
    _ _ c.requires.start c.behind.ensures

pub loop-from-preserved : goal.loop-from-preserved
loop-from-preserved c =
    (count_goes_on _ _ _ _ _ _ c.loop-from.invariant.0 c.loop-from.invariant.1 c.word_of.ensures (sym c.is_empty_read.ensures ∙ c.if-is_empty_read.false) (omega (arith, c.word_of.type_inv)) (omega (arith, c.if-last-at.false, c.requires.start.whole)) (sym c.goes_on.ensures ∙ c.if-not-goes_on.false), omega (arith, c.loop-from.invariant.1))
