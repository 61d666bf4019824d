-- `support_card::card::put_both` meets its contract.
use native.Mathlib.Omega.{arith}
use Rattle.bench_text.proofs.PutLaws.{both, same_length}
use Rattle.support_card.specs.CardText.{both_text}
use Rattle.support_card.proofs.card.put_both.Goals as goal

pub returns-clause-puts : goal.returns-clause-puts
unfolding both_text
returns-clause-puts c = both c.put_side.ensures.puts c.put_side-2.ensures.puts

pub put_side-requires-2 : goal.put_side-requires-2
put_side-requires-2 c = omega (arith, same_length c.put_side.ensures.puts, c.put_side.ensures.upper_bound, c.requires)
