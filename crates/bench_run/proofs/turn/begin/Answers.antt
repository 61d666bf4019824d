-- `bench_run::turn::begin` meets its contract.
use mathlib.Core.Path.{ap, ◌∙◌}
use Rattle.access.specs.Numbers.{next_of}
use Rattle.access.proofs.NumberLaws.{number_back}
use Rattle.bench_run.proofs.turn.begin.Goals as goal

pub returns-clause-value : goal.returns-clause-value
returns-clause-value c = c.next_of.ensures ∙ ap next_of c.ch32_i2c_transaction_begin.ensures.number ∙ number_back _ c.ch32_i2c_transaction_begin.ensures.words
