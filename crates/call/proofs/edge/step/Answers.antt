-- `call::edge::step` meets its contract.
use Rattle.call.proofs.EdgeLaws.{step_leaves}
use Rattle.call.proofs.edge.step.Goals as goal

pub returns : goal.returns
returns g c =
    let whole = c.in-Some.ensures.cases in
    step_leaves (g.C.OnBlock.on c.args.call.now) whole.same whole.long c.args.written.now c.args.answer _ _ _ c.step.ensures c.shown-2.ensures.value c.shown-2.ensures.holds_words
