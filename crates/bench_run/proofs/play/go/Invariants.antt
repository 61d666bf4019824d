-- `bench_run::play::go` meets its contract.
use Prim.Native.Nat.{◌-◌}
use mathlib.Core.Path.{◌≡◌}
use Rattle.call.specs.Left.{left}
use Rattle.bench_run.specs.Lent.{StaysLent}
use Rattle.bench_run.specs.Play.{play_from, most_turns}
use Rattle.bench_run.proofs.PlayLaws.{Going}
use Rattle.bench_run.proofs.play.go.Given as goal

abbrev pub invariant-loop-turn : goal.invariant-loop-turn
invariant-loop-turn l = record {
  stays : StaysLent l.initial.lent l.lent;
  same_reference : l.text.out.ghost_name ≡ l.initial.text.out.ghost_name;
  going : Going l.initial.lent.list.now l.initial.lent.written.now l.answers l.initial.text.at l.initial.text.out.now (play_from most_turns l.initial.lent.list.now l.initial.lent.written.now l.answers (left l.initial.next l.initial.lent.block.now l.initial.lent.read.now) 0 0) l.text.out.now (left l.next l.lent.block.now l.lent.read.now) l.used l.arrived l.text.at (16384 - l._turn);
}
