-- `bench_run::play::put_last` meets its contract.
use Rattle.bench_text.proofs.PutLaws.{both}
use Rattle.bench_run.proofs.play.put_last.Goals as goal

pub returns-clause-puts : goal.returns-clause-puts
returns-clause-puts c = both c.put_arrived.ensures.puts c.put_ending.ensures.puts
