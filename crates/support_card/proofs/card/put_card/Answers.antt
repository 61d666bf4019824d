-- `support_card::card::put_card` meets its contract: each turn puts one chip's lines more.
use Rattle.std.proofs.Common.{◌∙◌, arith}
use Rattle.registers.specs.Chips.{chips}
use Rattle.bench_text.proofs.PutLaws.{same_length}
use Rattle.support_card.specs.CardText.{head_text, both_text}
use Rattle.support_card.proofs.JoinedLaws.{more_put}
use Rattle.support_card.proofs.card.put_card.Goals as goal

pub loop-chip-preserved : goal.loop-chip-preserved
loop-chip-preserved c =
    let i = c.loop-chip.invariant in
    let q = rw c.chips.ensures at c.put_both.ensures.puts in
    record {
      puts = more_put both_text head_text chips c.loop-chip.chip-index _ c.loop-chip-test.true i.puts q;
      upper_bound = omega (arith, c.put_both.ensures.upper_bound, i.upper_bound);
      same = same_length c.put_both.ensures.puts ∙ i.same;
      same_reference = c.put_both.ensures.same_reference ∙ i.same_reference;
    }
