-- `call::edge::step_reading` meets its contract.
use Rattle.call.proofs.EdgeLaws.{reading_leaves}
use Rattle.call.proofs.edge.step_reading.Goals as goal

pub returns : goal.returns
returns g c =
    let whole = c.in-Some.ensures.cases in
    reading_leaves (g.C.OnBlock.on c.args.call.now) whole.same whole.long c.args.written.now c.args.answer _ _ (g.met.C.Reads.goes_on c.args.call.now) c.args.read.now _ c.kept_at-kept_at.ensures _ _ c.step-asked.ensures c.shown-2.ensures.value c.shown-2.ensures.holds_words _ c.is_refused.ensures c.keep.ensures
