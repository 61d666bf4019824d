-- What is claimed of the answer.
use Rattle.std.specs.Prelude.{ℕ, ◌<◌, ◌≤◌, ◌≡◌, Option, None}
use Rattle.speed_window.specs.declared.pair.Pair.{Pair}
use Rattle.speed_window.specs.Pairs.{clocks, Right, Best, Finds}
use Rattle.speed_window.specs.Formula.{window}

-- at most one pair is best, of any pairs
abbrev pub OneBest : Type 1
OneBest = (input : ℕ) (P : Pair → Type 0) (p q : Pair) → Best input P p → Best input P q → p ≡ q

-- where there is an input clock, no pair has fewer clocks than the best
abbrev pub FewestClocks : Type 1
FewestClocks = (input : ℕ) (P : Pair → Type 0) (p q : Pair) → 0 < input → Best input P p → P q → clocks p ≤ clocks q

pub record OneAnswer : Type 0 where
  -- every window has an answer, and the formula gives it
  pub is_found : (input lowest highest : ℕ) → Finds input (Right input lowest highest) (window input lowest highest)
  -- and no other
  pub only : (input lowest highest : ℕ) (x : Option Pair) → Finds input (Right input lowest highest) x → x ≡ window input lowest highest
  -- in a window that is upside down nothing is found
  pub upside_down : (input lowest highest : ℕ) → highest < lowest → window input lowest highest ≡ None
