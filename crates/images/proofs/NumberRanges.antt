-- Which numbers the parts that blocks share can have.
-- Assumes nothing.
use Prim.Native.Nat.{ℕ, ◌<◌}
use mathlib.Core.Path.{◌≡◌, refl}
use lib.Dec.{ltb}
use Rattle.images.specs.Numbers.{is_flag, is_chip}
use Rattle.access.proofs.Bytes.{bytes}

pub flag_range : (n : ℕ) → n < 256 → is_flag n ≡ ltb n 2
unfolding is_flag
flag_range = bytes (λ n. ltb n 2) is_flag refl

pub chip_range : (n : ℕ) → n < 256 → is_chip n ≡ ltb n 4
unfolding is_chip
chip_range = bytes (λ n. ltb n 4) is_chip refl
