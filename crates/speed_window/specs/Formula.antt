-- The answer as a formula: for each factor the least divider that is slow enough, and of these pairs the best.
use Rattle.std.specs.Prelude.{ℕ, ◌*◌, max, min, Bool, cond, ◌&&◌, ◌||◌, eqb, ltb, leb, Option, Some, None}
use Rattle.timing.specs.Rust.{div_ceil}
use Rattle.speed_window.specs.declared.pair.Pair.{Pair}
use Rattle.speed_window.specs.Pairs.{clocks}

abbrev pub pair : ℕ → ℕ → Pair
pair factor divider = record { factor = factor; divider = divider }

-- the fastest speed within both limits. A highest speed of 0 is for an input clock of 0, which every divider makes
abbrev pub within : ℕ → ℕ → ℕ
within highest top = cond (eqb highest 0) 1 (min highest top)

-- what the least divider that is slow enough leaves to be tested: its speed is inside the window, and of factors 3 and 25 above 100,000; and it
-- is not too large
abbrev pub is_inside : ℕ → ℕ → ℕ → Pair → Bool
is_inside input lowest highest p = (leb (lowest * clocks p) input && leb input (highest * clocks p)) && (eqb p.factor 2 || ltb (100_000 * clocks p) input)

abbrev pub is_right : ℕ → ℕ → ℕ → Pair → Bool
is_right input lowest highest p = is_inside input lowest highest p && leb p.divider 4095

module _ (factor floor top input lowest highest : ℕ) where
  abbrev pub least_pair : Pair
  least_pair = pair factor (max (div_ceil input (factor * within highest top)) floor)

  -- the fastest right pair of a factor, whose dividers begin at the floor and whose speeds end at the top
  unfoldable pub fastest_of : Option Pair
  fastest_of = cond (is_right input lowest highest least_pair) (Some least_pair) None

-- the faster of two, and among equals the first
abbrev pub better : Option Pair → Option Pair → Option Pair
better None y = y
better (Some p) None = Some p
better (Some p) (Some q) = cond (ltb (clocks q) (clocks p)) (Some q) (Some p)

unfoldable pub window : ℕ → ℕ → ℕ → Option Pair
window input lowest highest =
    better (better (fastest_of 2 4 100_000 input lowest highest) (fastest_of 3 1 400_000 input lowest highest)) (fastest_of 25 1 400_000 input lowest highest)
