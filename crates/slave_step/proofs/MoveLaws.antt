-- The numbers that the code finds are the machine's: what is returned, counted and asked for.
-- Assumes nothing.
use mathlib.Core.Path.{◌≡◌, subst, ◌∙◌}
use mathlib.Core.Bool.{true, false}
use Prim.Native.Nat.{ℕ, ◌+◌, ◌<◌, ◌≤◌}
use native.Mathlib.Omega.{arith}
use lib.Dec.{leb}
use borrow.Author.Tests.{le-leb, lt-leb, leb-true}
use Rattle.registers.specs.Fields.{ADD7_1, ADD9_0}
use Rattle.registers.specs.Word.{field_of}
use Rattle.registers.proofs.WordLaws.{field_bound}
use Rattle.slave.specs.Fits.{limit, counts}
use Rattle.access.specs.Endings.{is_done}
use Rattle.access.proofs.Choice.{first_true}
use Rattle.slave.specs.declared.state.Kind.{Kind}
use Rattle.slave.specs.declared.state.Kind.TheVariants.{RespondToWrite}
use Rattle.slave_step.specs.Held.{Call, is_seen}

-- ---- a command

pub ten_bound : (w : ℕ) → field_of ADD9_0 w + 1024 < 2048
ten_bound w = let h : field_of ADD9_0 w < 1024 = field_bound ADD9_0 w in omega arith

pub seven_bound : (w : ℕ) → field_of ADD7_1 w < 2048
seven_bound w = let h : field_of ADD7_1 w < 128 = field_bound ADD7_1 w in omega arith

-- a receive counts no more bytes than the buffer takes
pub room : (s : Call) (m : Kind) → is_seen s 3 0 ≡ true → s.setting.kind ≡ m → m ≡ RespondToWrite → s.progress.count ≤ s.setting.size
room s m h x e = leb-true s.progress.count s.setting.size (subst (λ (y : Kind). leb s.progress.count (limit y s.setting.size) ≡ true) (x ∙ e) (first_true (counts s.setting s.progress) (is_done s.progress.ending) h))

-- a reply counts one more byte than it has, and then no more
pub within : (n size : ℕ) → n ≤ size → leb n size ≡ true
within n size h = le-leb n size h

pub beyond : (n size : ℕ) → size < n → leb n size ≡ false
beyond n size h = lt-leb n size h
