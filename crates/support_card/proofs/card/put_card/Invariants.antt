-- `support_card::card::put_card`: so many chips have their lines.
use Rattle.std.proofs.Common.{◌+◌, ◌*◌, ◌≤◌, ◌≡◌, ◌++◌, take, length}
use Rattle.registers.specs.Chips.{chips}
use Rattle.bench_text.specs.Puts.{Puts}
use Rattle.support_card.specs.CardText.{joined, head_text, both_text}
use Rattle.support_card.proofs.card.put_card.Given as goal

abbrev pub invariant-loop-chip : goal.invariant-loop-chip
invariant-loop-chip l = record {
  puts : Puts l.fn.text.out.now l.fn.text.at (head_text ++ joined both_text (take l.chip-index chips)) l.text.at l.text.out.now;
  upper_bound : l.text.at ≤ l.fn.text.at + 35 + 490 * l.chip-index;
  same : length l.text.out.now ≡ length l.fn.text.out.now;
  same_reference : l.text.out.ghost_name ≡ l.fn.text.out.ghost_name;
}
