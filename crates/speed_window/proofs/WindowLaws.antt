-- The best pair of all factors is the formula's.
-- Assumes nothing.
use Prim.Native.Nat.{ℕ, ◌*◌, ◌<◌, ◌≤◌}
use mathlib.Core.Path.{◌≡◌, refl}
use mathlib.Core.Bool.{true, false}
use mathlib.Core.Logic.{◌⊎◌, inl, inr, ⊎_elim}
use native.Mathlib.Nat.{mul-le-mul_left, mul-lt-mul_of_pos_left}
use native.Mathlib.Decide.{dec_le}
use native.Mathlib.Omega.{arith}
use lib.Dec.{ltb}
use borrow.Author.Tests.{ltb-true, ltb-false}
use Rattle.std.specs.Prelude.{Option, Some, None}
use Rattle.access.proofs.Choice.{chosen}
use Rattle.speed_window.specs.declared.pair.Pair.{Pair}
use Rattle.speed_window.specs.Pairs.{clocks, Allowed, standard, fast, Right, Preferred, faster, smaller_factor, Finds, found, nothing}
use Rattle.speed_window.specs.Formula.{better, window}
use Rattle.speed_window.proofs.PreferredLaws.{preferred_trans}
use Rattle.speed_window.proofs.PairLaws.{fast_input}
use Rattle.speed_window.proofs.LimitLaws.{standard_limits, fast_limits}
use Rattle.speed_window.proofs.FastestLaws.{RightOf, fastest_finds}

-- one property or the other
abbrev Either : (Pair → Type 0) → (Pair → Type 0) → Pair → Type 0
Either P Q p = P p ⊎ Q p

-- a pair with the second property comes later: its factor is larger; and the input clock is not 0
abbrev Later : ℕ → (Pair → Type 0) → (Pair → Type 0) → Type 0
Later input P Q = (p q : Pair) → P p → Q q → (0 < input) × (p.factor < q.factor)

module _ {input : ℕ} {P Q : Pair → Type 0} where
  pub better_finds : Later input P Q → (x y : Option Pair) → Finds input P x → Finds input Q y → Finds input (Either P Q) (better x y)
  better_finds later None None (nothing a) (nothing b) = nothing (λ p. ⊎_elim (a p) (b p))
  better_finds later None (Some q) (nothing a) (found b) =
      found (record { holds = inr b.holds; best = λ r. ⊎_elim (λ h. absurd (a r h)) (b.best r) })
  better_finds later (Some p) None (found a) (nothing b) =
      found (record { holds = inl a.holds; best = λ r. ⊎_elim (a.best r) (λ h. absurd (b r h)) })
  better_finds later (Some p) (Some q) (found a) (found b) =
      chosen (Finds input (Either P Q)) (ltb (clocks q) (clocks p))
      (λ t. found (record { holds = inr b.holds; best = λ r. ⊎_elim (λ h. preferred_trans (second t) (a.best r h)) (b.best r) }))
      (λ t. found (record { holds = inl a.holds; best = λ r. ⊎_elim (a.best r) (λ h. preferred_trans (first t) (b.best r h)) }))
    where
      order : (0 < input) × (p.factor < q.factor)
      order = later p q a.holds b.holds

      second : ltb (clocks q) (clocks p) ≡ true → Preferred input q p
      second t = faster (mul-lt-mul_of_pos_left (ltb-true _ _ t) order.0)

      first : ltb (clocks q) (clocks p) ≡ false → Preferred input p q
      first t = go (dec_le (input * clocks q) (input * clocks p))
        where
          go : Dec (input * clocks q ≤ input * clocks p) → Preferred input p q
          go (yes l) = let m : input * clocks p ≤ input * clocks q = mul-le-mul_left input (ltb-false _ _ t) in smaller_factor (omega arith) order.1
          go (no l) = faster (omega arith)

-- the same answer for a property that holds of the same pairs
same_finds : {input : ℕ} {P Q : Pair → Type 0} → ((p : Pair) → P p → Q p) → ((p : Pair) → Q p → P p) → (x : Option Pair) → Finds input P x → Finds input Q x
same_finds to from (Some p) (found a) = found (record { holds = to p a.holds; best = λ q h. a.best q (from q h) })
same_finds to from None (nothing a) = nothing (λ p h. a p (from p h))

module _ (input lowest highest : ℕ) where
  abbrev Of : ℕ → Pair → Type 0
  Of factor = RightOf input lowest highest factor

  -- a right pair has one of the three factors
  by_factor : (p : Pair) → Right input lowest highest p → Either (Either (Of 2) (Of 3)) (Of 25) p
  by_factor p r = go r.allowed
    where
      go : Allowed input p → Either (Either (Of 2) (Of 3)) (Of 25) p
      go (standard e a b c) = inl (inl (r, e))
      go (fast f a b c e) = ⊎_elim (λ h. inl (inr (r, h))) (λ h. inr (r, h)) f

  right_again : (p : Pair) → Either (Either (Of 2) (Of 3)) (Of 25) p → Right input lowest highest p
  right_again p = ⊎_elim (⊎_elim (λ h. h.0) (λ h. h.0)) (λ h. h.0)

  pub window_finds : Finds input (Right input lowest highest) (window input lowest highest)
  unfolding window
  window_finds =
      same_finds right_again by_factor _
      (better_finds later_25 _ _ (better_finds later_3 _ _ (fastest_finds 2 4 100_000 standard_limits input lowest highest) (fastest_finds 3 1 400_000 (fast_limits 3 (inl refl)) input lowest highest))
      (fastest_finds 25 1 400_000 (fast_limits 25 (inr refl)) input lowest highest))
    where
      later_3 : Later input (Of 2) (Of 3)
      later_3 p q a b = (fast_input q b.0.allowed (λ e. omega arith), omega arith)

      later_25 : Later input (Either (Of 2) (Of 3)) (Of 25)
      later_25 p q a b = (fast_input q b.0.allowed (λ e. omega arith), ⊎_elim (λ h. omega arith) (λ h. omega arith) a)
