-- Division rounded up: the least number of parts that reach.
-- Assumes nothing.
use Prim.Native.Nat.{ℕ, ◌*◌, ◌<◌, ◌≤◌, max}
use mathlib.Core.Path.{◌≡◌, subst}
use native.Mathlib.Nat.{lt_of_lt_of_le, lt_of_mul-lt-mul_right}
use native.Mathlib.Decide.{dec_le}
use native.Mathlib.Omega.{arith}
use Rattle.timing.specs.Document.{Least, Enough}
use Rattle.timing.specs.Rust.{div_ceil}
use Rattle.timing.proofs.LeastLaws.{formula}

module _ (a b : ℕ) (pos : 0 < b) where
  least : Least (Enough a b 0) (div_ceil a b)
  least = let m : max (div_ceil a b) 0 ≡ div_ceil a b = omega arith in subst (Least (Enough a b 0)) m (formula a b 0 pos)

  pub ceil_reaches : a ≤ div_ceil a b * b
  ceil_reaches = least.holds.reaches

  pub ceil_least : (n : ℕ) → a ≤ n * b → div_ceil a b ≤ n
  ceil_least n h = least.least n (record { reaches = h; allowed = omega arith })

  -- one less does not reach
  pub ceil_short : (n : ℕ) → n < div_ceil a b → n * b < a
  ceil_short n h = go (dec_le a (n * b))
    where
      go : Dec (a ≤ n * b) → n * b < a
      go (yes r) = let l = ceil_least n r in absurd (omega arith)
      go (no r) = omega arith

  -- it is above what does not reach
  pub ceil_above : (n : ℕ) → n * b < a → n < div_ceil a b
  ceil_above n h = lt_of_mul-lt-mul_right b (lt_of_lt_of_le h ceil_reaches)
