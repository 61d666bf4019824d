-- `replay::play::steps`: what is left of the accesses gets shorter, and what is lent stays lent.
use Rattle.std.proofs.Common.{◌≤◌, length}
use Rattle.replay.specs.Lent.{StaysLent}
use Rattle.replay.proofs.play.steps.Given as goal

abbrev pub invariant-loop-bytes : goal.invariant-loop-bytes
invariant-loop-bytes l = (length l.left ≤ length l.accesses) × StaysLent l.initial.lent l.lent

abbrev pub decreases-loop-bytes : goal.decreases-loop-bytes
decreases-loop-bytes l = length l.left
