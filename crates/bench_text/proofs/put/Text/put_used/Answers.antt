-- `bench_text::put::Text::put_used` meets its contract.
use Rattle.bench_text.proofs.PutLaws.{both}
use Rattle.bench_text.proofs.put.Text.put_used.Goals as goal

pub returns-clause-puts : goal.returns-clause-puts
returns-clause-puts c = both c.put.ensures.puts (both c.put_decimal.ensures.puts c.put_value.ensures.puts)
