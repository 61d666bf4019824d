-- The limits of each factor, by its least divider and its fastest speed.
-- Assumes nothing.
use Prim.Native.Nat.{ℕ, ◌*◌, ◌<◌, ◌≤◌}
use mathlib.Core.Path.{◌≡◌, refl}
use mathlib.Core.Bool.{Bool, true, false, ◌||◌}
use mathlib.Core.Logic.{◌⊎◌, ⊎_elim}
use native.Mathlib.Nat.{lt_of_le_of_lt, mul-le-mul_left}
use native.Mathlib.Omega.{arith}
use lib.Dec.{eqb, ltb, lit<}
use borrow.Author.Tests.{ltb-true, eqb-true, lt-ltb}
use Rattle.access.proofs.Choice.{other_true}
use Rattle.speed_window.specs.Pairs.{Allowed, standard, fast}
use Rattle.speed_window.specs.Formula.{pair}

-- above 100,000, but for factor 2
abbrev pub is_kind : ℕ → ℕ → ℕ → Bool
is_kind factor input n = eqb factor 2 || ltb (100_000 * n) input

-- with fewer clocks too
pub fewer_kind : (factor input : ℕ) {m n : ℕ} → m ≤ n → is_kind factor input n ≡ true → is_kind factor input m ≡ true
fewer_kind factor input {m} {n} l k = go (eqb factor 2) k
  where
    go : (b : Bool) → (b || ltb (100_000 * n) input) ≡ true → (b || ltb (100_000 * m) input) ≡ true
    go true k = refl
    go false k = lt-ltb _ _ (lt_of_le_of_lt (mul-le-mul_left 100_000 l) (ltb-true _ _ k))

-- what a factor allows
pub record Limits (factor floor top input d : ℕ) : Type 0 where
  pub low : floor ≤ d
  pub high : d ≤ 4095
  pub slow : input ≤ top * (factor * d)
  pub kind : is_kind factor input (factor * d) ≡ true

-- which are those of the definition
pub record HasLimits (factor floor top : ℕ) : Type 0 where
  pub factor_pos : 0 < factor
  pub top_pos : 0 < top
  pub told : (input d : ℕ) → Allowed input (pair factor d) → Limits factor floor top input d
  pub met : (input d : ℕ) → Limits factor floor top input d → Allowed input (pair factor d)

never_2 : (f : ℕ) → f ≡ 2 → (f ≡ 3) ⊎ (f ≡ 25) → ⊥
never_2 f e s = ⊎_elim (λ h. omega arith) (λ h. omega arith) s

pub standard_limits : HasLimits 2 4 100_000
standard_limits = record { factor_pos = lit< tt; top_pos = lit< tt; told = told; met = λ input d l. standard refl l.low l.high l.slow }
  where
    told : (input d : ℕ) → Allowed input (pair 2 d) → Limits 2 4 100_000 input d
    told input d (standard f a b c) = record { low = a; high = b; slow = c; kind = refl }
    told input d (fast f a b c e) = absurd (never_2 2 refl f)

pub fast_limits : (f : ℕ) → (f ≡ 3) ⊎ (f ≡ 25) → HasLimits f 1 400_000
fast_limits f s = record { factor_pos = ⊎_elim (λ h. omega arith) (λ h. omega arith) s; top_pos = lit< tt; told = told; met = met }
  where
    told : (input d : ℕ) → Allowed input (pair f d) → Limits f 1 400_000 input d
    told input d (standard e a b c) = absurd (never_2 f e s)
    told input d (fast e a b c g) = record { low = a; high = b; slow = g; kind = other_true (eqb f 2) (lt-ltb _ _ c) }

    met : (input d : ℕ) → Limits f 1 400_000 input d → Allowed input (pair f d)
    met input d l = fast s l.low l.high (ltb-true _ _ (by_kind (eqb f 2) refl l.kind)) l.slow
      where
        by_kind : (b : Bool) → eqb f 2 ≡ b → (b || ltb (100_000 * (f * d)) input) ≡ true → ltb (100_000 * (f * d)) input ≡ true
        by_kind true e k = absurd (never_2 f (eqb-true f 2 e) s)
        by_kind false e k = k
