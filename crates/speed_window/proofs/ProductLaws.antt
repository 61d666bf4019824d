-- A product fits where its factors are small enough.
-- Assumes nothing.
use Prim.Native.Nat.{ℕ, ◌*◌, ◌<◌, ◌≤◌}
use native.Mathlib.Nat.{mul-le-mul}
use native.Mathlib.Omega.{arith}

-- 16 bits by 16 bits, and 32 by 32
pub words_fit : (a b : ℕ) → a < 65536 → b < 65536 → a * b < 4294967296
words_fit a b p q = let l : a * b ≤ 65535 * 65535 = mul-le-mul {n₁ = a} {m₁ = b} {n₂ = 65535} {m₂ = 65535} (omega arith) (omega arith) in omega arith

pub long_words_fit : (a b : ℕ) → a < 4294967296 → b < 4294967296 → a * b < 18446744073709551616
long_words_fit a b p q = let l : a * b ≤ 4294967295 * 4294967295 = mul-le-mul {n₁ = a} {m₁ = b} {n₂ = 4294967295} {m₂ = 4294967295} (omega arith) (omega arith) in omega arith
