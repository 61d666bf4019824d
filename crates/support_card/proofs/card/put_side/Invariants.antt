-- `support_card::card::put_side`: so many classes have their lines.
use Rattle.std.proofs.Common.{◌+◌, ◌*◌, ◌≤◌, ◌≡◌, take, length}
use Rattle.class_count.specs.Card.{card_classes}
use Rattle.bench_text.specs.Puts.{Puts}
use Rattle.support_card.specs.CardText.{joined, line_text}
use Rattle.support_card.proofs.card.put_side.Given as goal

abbrev pub invariant-loop-class : goal.invariant-loop-class
invariant-loop-class l = record {
  puts : Puts l.initial.text.out.now l.initial.text.at (joined (line_text l.chip l.nack) (take l.class-index card_classes)) l.text.at l.text.out.now;
  upper_bound : l.text.at ≤ l.initial.text.at + 35 * l.class-index;
  same : length l.text.out.now ≡ length l.initial.text.out.now;
  same_reference : l.text.out.ghost_name ≡ l.initial.text.out.ghost_name;
}
