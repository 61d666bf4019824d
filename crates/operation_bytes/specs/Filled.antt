-- A list of bytes in 771, and zeros behind it.
use Rattle.std.specs.Prelude.{◌≡◌, List, ◌++◌, ℕ, ◌-◌, ◌≤◌, length, take, replicate}

-- a list of at most 771, with zeros up to 771
abbrev pub filled : List ℕ → List ℕ
filled v = v ++ replicate (771 - length v) 0

-- the bytes are their first n, with zeros behind
abbrev pub IsFilled : ℕ → List ℕ → Type 0
IsFilled n bytes = (n ≤ 771) × (length (take n bytes) ≡ n) × (filled (take n bytes) ≡ bytes)
