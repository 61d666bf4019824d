-- `bench_text::put::Text::put_hex` meets its contract: what is left to put leads to the whole.
use mathlib.Core.Path.{◌∙◌}
use native.Mathlib.Omega.{arith}
use Rattle.bench_text.proofs.PutLaws.{same_length, hex_more, hex_all}
use Rattle.bench_text.proofs.put.Text.put_hex.Goals as goal

pub loop-byte-preserved : goal.loop-byte-preserved
loop-byte-preserved c =
    let i = c.loop-byte.invariant in
    let p = c.put_pair.ensures.puts in
    (omega arith, same_length p ∙ i.1, omega (arith, p.place, i.2), c.put_pair.ensures.same_reference ∙ i.3, hex_more _ _ c.loop-byte-test.true i.4 p)

pub returns-clause-puts : goal.returns-clause-puts
returns-clause-puts c = hex_all _ _ c.loop-byte-test.false c.loop-byte.invariant.4
