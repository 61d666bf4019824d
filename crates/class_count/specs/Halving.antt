-- THE FORMULA FOR ANY ORDER OF FLAGS: each flag takes half of the words that the flags before it left.
use Rattle.std.specs.Prelude.{ℕ, ◌-◌, ◌^◌, ◌<◌, ◌≡◌, true, List, length}
use Rattle.class_count.specs.Counting.{count_words}
use Rattle.class_count.specs.Order.{first_at, is_at, is_none, is_order}

pub record CountsHalve (bits : List ℕ) : Type 0 where
  -- the words whose first set flag is the k-th, from 0
  pub flag : (k : ℕ) → k < length bits → count_words (λ w. is_at k (first_at bits w)) ≡ 2 ^ (15 - k)
  -- the words that have none of the flags
  pub without : count_words (λ w. is_none (first_at bits w)) ≡ 2 ^ (16 - length bits)

abbrev pub OrdersHalve : Type 0
OrdersHalve = (bits : List ℕ) → is_order bits ≡ true → CountsHalve bits
