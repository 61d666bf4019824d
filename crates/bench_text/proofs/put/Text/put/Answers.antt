-- `bench_text::put::Text::put` meets its contract.
use Rattle.bench_text.proofs.PutLaws.{copied}
use Rattle.bench_text.proofs.put.Text.put.Goals as goal

pub returns-clause-puts : goal.returns-clause-puts
returns-clause-puts c = copied _ _ _ _ c.requires c.copy_from_slice.ensures.after
