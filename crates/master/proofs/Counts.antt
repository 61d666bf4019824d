-- Numbers of bytes and of runs.
-- Assumes nothing.
use mathlib.Core.Path.{◌≡◌, refl, ap}
use mathlib.Core.Bool.{Bool, cond, false, true≢false}
use Prim.Native.Nat.{ℕ, zero, suc, pred, ◌<◌}
use native.Mathlib.Omega.{arith}
use borrow.Author.Tests.{lt-ltb}
use lib.Dec.{eqb}
use Rattle.master.specs.Machine.{next16}

pub next_place : (p : ℕ) → p < 65535 → next16 p ≡ suc p
next_place p h = ap (λ (b : Bool). cond b (suc p) 0) (lt-ltb p 65535 h)

pub positive : (m : ℕ) → eqb m 0 ≡ false → 0 < m
positive zero e = absurd (true≢false e)
positive (suc m) e = omega arith

pub suc_of : (m : ℕ) → 0 < m → m ≡ suc (pred m)
suc_of zero h = absurd (omega arith)
suc_of (suc m) h = refl
