-- The claims of specs/Claims.antt.
-- Assumes nothing.
use Prim.Native.Nat.{ℕ, ◌*◌, ◌<◌, ◌≤◌}
use native.Mathlib.Nat.{lt_of_mul-lt-mul_left, le_of_mul-le-mul_left, mul-lt-mul_of_pos_right}
use native.Mathlib.Omega.{arith}
use Rattle.speed_window.specs.declared.pair.Pair.{Pair}
use Rattle.speed_window.specs.Pairs.{clocks, Right, Preferred, faster, smaller_factor, smaller_divider, nothing}
use Rattle.speed_window.specs.Formula.{window}
use Rattle.speed_window.specs.Claims.{OneBest, FewestClocks, OneAnswer}
use Rattle.speed_window.proofs.PreferredLaws as preferred
use Rattle.speed_window.proofs.PairLaws.{clocks_pos}
use Rattle.speed_window.proofs.WindowLaws.{window_finds}

pub one_best : OneBest
one_best input P p q a b = preferred.one_best p q a b

pub fewest_clocks : FewestClocks
fewest_clocks input P p q pos b h = go (b.best q h)
  where
    go : Preferred input p q → clocks p ≤ clocks q
    go (faster a) = let l = lt_of_mul-lt-mul_left input a in omega arith
    go (smaller_factor a c) = le_of_mul-le-mul_left (omega arith) pos
    go (smaller_divider a c d) = le_of_mul-le-mul_left (omega arith) pos

-- no speed is inside
pub nothing_inside : (input lowest highest : ℕ) → highest < lowest → (p : Pair) → Right input lowest highest p → ⊥
nothing_inside input lowest highest h p r =
    let more : highest * clocks p < lowest * clocks p = mul-lt-mul_of_pos_right h (clocks_pos p r.allowed) in
    let a = r.not_slower in
    let b = r.not_faster in
    omega arith

pub one_answer : OneAnswer
one_answer = record {
  is_found = window_finds;
  only = λ input lowest highest x h. preferred.one_answer x (window input lowest highest) h (window_finds input lowest highest);
  upside_down = λ input lowest highest h. preferred.one_answer _ _ (window_finds input lowest highest) (nothing (nothing_inside input lowest highest h));
}
