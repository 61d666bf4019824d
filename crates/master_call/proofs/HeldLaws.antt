-- Tests of two lengths together.
-- Assumes nothing.
use Prim.Native.Nat.{ℕ, ◌+◌, ◌-◌, ◌≤◌, ◌<◌}
use mathlib.Core.Path.{◌≡◌, refl, sym, ap}
use mathlib.Core.Bool.{Bool, true, false, not, ◌&&◌}
use native.Mathlib.Omega.{arith}
use borrow.Author.Tests.{leb-true, leb-false, le-leb, lt-leb}
use lib.Dec.{eqb, leb}
use Rattle.master_call.specs.CallStep.{few_enough}

-- no more than 65,535 together, where the first is no more
pub few : (w n : ℕ) → w ≤ 65535 → not (eqb n 0) && leb n (65535 - w) ≡ few_enough w n
few w n h = ap (λ (t : Bool). not (eqb n 0) && t) (go (leb n (65535 - w)) refl)
  where
    go : (t : Bool) → leb n (65535 - w) ≡ t → t ≡ leb (w + n) 65535
    go true e = sym (le-leb (w + n) 65535 (omega (arith, leb-true n (65535 - w) e, h)))
    go false e = sym (lt-leb (w + n) 65535 (omega (arith, leb-false n (65535 - w) e, h)))

pub many : (w n : ℕ) → 65535 < w → false ≡ few_enough w n
many w n h = go (not (eqb n 0))
  where
    go : (t : Bool) → false ≡ t && leb (w + n) 65535
    go true = sym (lt-leb (w + n) 65535 (omega (arith, h)))
    go false = refl
