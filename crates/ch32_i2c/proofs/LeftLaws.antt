-- Where a function reads nothing, it leaves the bytes read as they were.
-- Assumes nothing.
use mathlib.Core.Path.{refl}
use mathlib.Core.List.{List, []}
use Prim.Native.Nat.{ℕ}
use Rattle.call.specs.OnBlock.{After}
use Rattle.call.specs.Left.{begin_left, Leaves, LeavesBlock}

pub nothing_read : (bytes : List ℕ) (x : After) (r : List ℕ) (n : ℕ) (after : List ℕ) → LeavesBlock (begin_left bytes x []) n after → Leaves (begin_left bytes x r) n after r
nothing_read bytes x r n after l = record { number = l.number; words = l.words; block = l.block; read = refl }
