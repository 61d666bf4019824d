-- `bench_run::play::put_access` meets its contract.
use Rattle.bench_run.proofs.play.put_access.Goals as goal

pub returns-in-Clock-clause-puts : goal.returns-in-Clock-clause-puts
returns-in-Clock-clause-puts c = rw c.in-Clock.is c.put_clock.ensures.puts
