-- `bench_text::put::Text::put_hex` meets its contract: what is left to put leads to the whole.
use Prim.Native.Nat.{◌+◌, ◌≤◌}
use mathlib.Core.Path.{◌≡◌}
use lib.ListN.{length, drop}
use Rattle.bench_text.specs.Digits.{hex_text}
use Rattle.bench_text.proofs.PutLaws.{Leads}
use Rattle.bench_text.proofs.put.Text.put_hex.Given as goal

abbrev pub invariant-loop-byte : goal.invariant-loop-byte
invariant-loop-byte l = (l.byte-index ≤ length l.bytes) × (length l.self.out.now ≡ length l.initial.self.out.now) × (l.self.at ≡ l.initial.self.at + (l.byte-index + l.byte-index)) × (l.self.out.ghost_name ≡ l.initial.self.out.ghost_name) × Leads l.self.out.now l.self.at (hex_text (drop l.byte-index l.bytes)) l.initial.self.out.now l.initial.self.at (hex_text l.bytes)
