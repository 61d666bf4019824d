-- `support_card::card::put_line` meets its contract.
use Rattle.bench_text.proofs.PutLaws.{both}
use Rattle.support_card.specs.CardText.{line_text}
use Rattle.support_card.proofs.card.put_line.Goals as goal

pub returns-clause-puts : goal.returns-clause-puts
unfolding line_text
returns-clause-puts c =
    rw (← c.chip_text.ensures, ← c.role_text.ensures, ← c.name_text.ensures, ← c.words_of.ensures)
    (both c.put.ensures.puts (both c.put-2.ensures.puts (both c.put-3.ensures.puts (both c.put_decimal.ensures.puts c.put-4.ensures.puts))))
