-- `replay::all::calls`: what is left of the sample gets shorter, and what is lent stays lent.
use Rattle.std.proofs.Common.{◌≡◌, length}
use Rattle.replay.proofs.all.calls.Given as goal

abbrev pub invariant-loop-call : goal.invariant-loop-call
invariant-loop-call l = record {
  same_block : l.room.block.ghost_name ≡ l.initial.room.block.ghost_name;
  same_written : l.room.written.ghost_name ≡ l.initial.room.written.ghost_name;
  same_read : l.room.read.ghost_name ≡ l.initial.room.read.ghost_name;
}

abbrev pub decreases-loop-call : goal.decreases-loop-call
decreases-loop-call l = length l.left
