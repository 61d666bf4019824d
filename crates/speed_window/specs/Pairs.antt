-- WHAT IS ASKED FOR, in pairs of a factor and a divider: which pairs are right, and which of them is best. Document 02, request j.
use Rattle.std.specs.Prelude.{ℕ, ◌*◌, ◌<◌, ◌≤◌, ◌≡◌, ◌⊎◌, Option, Some, None}
use Rattle.speed_window.specs.declared.pair.Pair.{Pair}

-- so many input clocks make a bus clock: the bus speed is input / (factor × divider)
abbrev pub clocks : Pair → ℕ
clocks p = p.factor * p.divider

-- the limits of each factor
pub data Allowed (input : ℕ) (p : Pair) : Type 0 where
  -- "Factor 2 has dividers 4 to 4095 and speeds up to 100,000;
  standard : p.factor ≡ 2 → 4 ≤ p.divider → p.divider ≤ 4095 → input ≤ 100_000 * clocks p → Allowed input p
  -- factors 3 and 25 have 1 to 4095 and speeds above 100,000 up to 400,000."
  fast : (p.factor ≡ 3) ⊎ (p.factor ≡ 25) → 1 ≤ p.divider → p.divider ≤ 4095 → 100_000 * clocks p < input → input ≤ 400_000 * clocks p → Allowed input p

-- "input / (factor × divider) inside the window, ends included, compared by whole products, without rounding"
pub record Right (input lowest highest : ℕ) (p : Pair) : Type 0 where
  pub not_slower : lowest * clocks p ≤ input
  pub not_faster : input ≤ highest * clocks p
  pub allowed : Allowed input p

-- the one is wanted before the other, or is the other. Speeds are compared by whole products too: input / a is above input / b where
-- input × a is below input × b. Of an input clock of 0 all speeds are equal
pub data Preferred (input : ℕ) (p q : Pair) : Type 0 where
  -- "The fastest is wanted;
  faster : input * clocks p < input * clocks q → Preferred input p q
  -- among equals the smaller factor,
  smaller_factor : input * clocks p ≡ input * clocks q → p.factor < q.factor → Preferred input p q
  -- then the smaller divider."
  smaller_divider : input * clocks p ≡ input * clocks q → p.factor ≡ q.factor → p.divider ≤ q.divider → Preferred input p q

-- the best of the pairs with a property
pub record Best (input : ℕ) (P : Pair → Type 0) (p : Pair) : Type 0 where
  pub holds : P p
  pub best : (q : Pair) → P q → Preferred input p q

-- it is found; or nothing is, where no pair has the property
pub data Finds (input : ℕ) (P : Pair → Type 0) : Option Pair → Type 0 where
  found : {p : Pair} → Best input P p → Finds input P (Some p)
  nothing : ((p : Pair) → P p → ⊥) → Finds input P None
