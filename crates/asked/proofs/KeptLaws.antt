-- Where nothing is lent to read, nothing is kept.
-- Assumes nothing.
use mathlib.Core.Path.{◌≡◌, refl}
use mathlib.Core.List.{[]}
use Prim.Native.Nat.{ℕ}
use Rattle.access.specs.declared.need.Need.{Need}
use Rattle.access.specs.declared.need.Need.TheVariants.{Read, Write, Clock, Send, Keep, Drop, End}
use Rattle.access.specs.Machine.{kept}

pub nothing_kept : (x : Need) (a : ℕ) → kept x a [] ≡ []
nothing_kept (Read r) a = refl
nothing_kept (Write r v) a = refl
nothing_kept Clock a = refl
nothing_kept (Send p) a = refl
nothing_kept (Keep p) a = refl
nothing_kept Drop a = refl
nothing_kept (End e) a = refl
