-- `bench_text::line::is_pairs` meets its contract.
use Rattle.bench_text.proofs.LineLaws.{pairs_checked}
use Rattle.bench_text.proofs.line.is_pairs.Goals as goal

pub returns : goal.returns
returns c = pairs_checked c.args.text.now c.as_chunks.ensures.front c.as_chunks.ensures.back c.are_pairs.ensures c.eq.ensures c.as_slice.ensures
