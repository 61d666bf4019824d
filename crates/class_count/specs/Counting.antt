-- How many of the 65,536 status words pass a test: a count that goes over all of them.
use Rattle.std.specs.Prelude.{ℕ, zero, suc, ◌+◌, Bool, cond}

-- of the numbers below a bound
unfoldable pub count_below : (ℕ → Bool) → ℕ → ℕ
count_below t zero = 0
count_below t (suc n) = count_below t n + cond (t n) 1 0

unfoldable pub count_words : (ℕ → Bool) → ℕ
count_words t = count_below t 65536
