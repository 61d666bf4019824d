-- `bench_text::input::take_all` meets its contract: what the lines that are left say leads to what the whole input says.
use lib.ListN.{length}
use Rattle.bench_text.proofs.InputLaws.{Between}
use Rattle.bench_text.proofs.input.take_all.Given as goal

abbrev pub invariant-loop-left : goal.invariant-loop-left
invariant-loop-left l = Between l.text l.header.chip l.header.address l.initial.list l.initial.written l.initial.answers l.list l.written l.answers l.left l.number l.parts

abbrev pub decreases-loop-left : goal.decreases-loop-left
decreases-loop-left l = length l.left
