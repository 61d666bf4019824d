-- What stays of what is lent.
use Rattle.std.specs.Prelude.{◌≡◌, length}
use Rattle.bench_run.specs.declared.turn.Lent.{Lent}

-- list and bytes written are as they were, block and bytes read lie where they were and are as long
pub record StaysLent (old new : Lent) : Type 0 where
  pub list : new.list.now ≡ old.list.now
  pub written : new.written.now ≡ old.written.now
  pub block : new.block.ghost_name ≡ old.block.ghost_name
  pub read : new.read.ghost_name ≡ old.read.ghost_name
  pub block_length : length new.block.now ≡ length old.block.now
  pub read_length : length new.read.now ≡ length old.read.now
