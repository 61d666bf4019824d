-- `bench_text::line::put_words` meets its contract: what is left to store leads to the whole.
use Prim.Native.Nat.{◌+◌}
use mathlib.Core.Path.{◌≡◌}
use mathlib.Core.List.{map}
use lib.ListN.{length, drop}
use Rattle.bench_text.proofs.LineLaws.{number_in}
use Rattle.bench_text.proofs.PutLaws.{Leads}
use Rattle.bench_text.proofs.line.put_words.Given as goal

abbrev pub invariant-loop-i : goal.invariant-loop-i
invariant-loop-i l = record {
  same : length l.out ≡ length l.initial.out;
  leads : Leads l.out (l.to + l.i) (map number_in (drop l.i l.words)) l.initial.out l.to (map number_in l.words);
}
