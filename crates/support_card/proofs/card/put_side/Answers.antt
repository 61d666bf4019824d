-- `support_card::card::put_side` meets its contract: each turn puts one class's line more.
use Rattle.std.proofs.Common.{refl, ◌∙◌, arith, [], subst, ℕ, ◌≡◌, take}
use Rattle.class_count.specs.Card.{card_classes}
use Rattle.bench_text.specs.Puts.{Puts}
use Rattle.bench_text.proofs.PutLaws.{same_length}
use Rattle.support_card.specs.CardText.{joined, line_text, side_text}
use Rattle.support_card.proofs.JoinedLaws.{nothing, more_put}
use Rattle.support_card.proofs.card.put_side.Goals as goal

pub loop-class-init : goal.loop-class-init
loop-class-init c = record { puts = nothing; upper_bound = omega arith; same = refl; same_reference = refl }

pub loop-class-preserved : goal.loop-class-preserved
loop-class-preserved c =
    let i = c.loop-class.invariant in
    record {
      puts = more_put (line_text c.args.chip c.args.nack) [] card_classes c.loop-class.class-index _ c.loop-class-test.true i.puts c.put_line.ensures.puts;
      upper_bound = omega (arith, c.put_line.ensures.upper_bound, i.upper_bound);
      same = same_length c.put_line.ensures.puts ∙ i.same;
      same_reference = c.put_line.ensures.same_reference ∙ i.same_reference;
    }

pub returns : goal.returns
unfolding side_text
returns c =
    let i = c.loop-class.invariant in
    let e : c.loop-class.class-index ≡ 7 = omega arith in
    record {
      puts = subst (λ (n : ℕ). Puts c.args.text.now.out.now c.args.text.now.at (joined (line_text c.args.chip c.args.nack) (take n card_classes)) c.loop-class.text.at c.loop-class.text.out.now) e i.puts;
      upper_bound = omega (arith, i.upper_bound, e);
      same_reference = i.same_reference;
    }
