-- `bench_text::line::put_pairs` meets its contract: what is left to store leads to the whole.
use Prim.Native.Nat.{◌+◌}
use mathlib.Core.Path.{◌≡◌}
use mathlib.Core.List.{map}
use lib.ListN.{length, drop}
use Rattle.bench_text.proofs.LineLaws.{byte_in}
use Rattle.bench_text.proofs.PutLaws.{Leads}
use Rattle.bench_text.proofs.line.put_pairs.Given as goal

abbrev pub invariant-loop-i : goal.invariant-loop-i
invariant-loop-i l = record {
  same : length l.out ≡ length l.initial.out;
  leads : Leads l.out (l.to + l.i) (map byte_in (drop l.i l.pairs)) l.initial.out l.to (map byte_in l.pairs);
}
