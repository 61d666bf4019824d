-- What a number tells of a kind, by what `Numbered::of` finds.
-- Assumes nothing.
use Prim.Native.Nat.{ℕ}
use mathlib.Core.Path.{◌≡◌, refl, sym, ap, ◌∙◌}
use mathlib.Core.Bool.{Bool, true, false, cond}
use lib.Dec.{eqb}
use borrow.Author.Tests.{eqb-true}
use Rattle.std.specs.Prelude.{Some, None}
use Rattle.std.proofs.lemmas.Option.{cond_some, none-some}

-- the number is this one's
pub record Told {A : Type 0} (number : A → ℕ) (of : ℕ → A) (n : ℕ) (x : A) : Type 0 where
  pub own : eqb (number (of n)) n ≡ true
  pub kind : of n ≡ x

module _ {A : Type 0} (number : A → ℕ) (of : ℕ → A) (n : ℕ) where
  pub told : {x : A} → Some x ≡ cond (eqb (number (of n)) n) (Some (of n)) None → Told number of n x
  told {x} q =
      let both = cond_some (eqb (number (of n)) n) (of n) x (sym q) in
      record { own = both.0; kind = both.1 }

  -- the number is none's
  pub untold : None ≡ cond (eqb (number (of n)) n) (Some (of n)) None → eqb (number (of n)) n ≡ false
  untold = go (eqb (number (of n)) n)
    where
      go : (b : Bool) → None ≡ cond b (Some (of n)) None → b ≡ false
      go true e = absurd (none-some (of n) e)
      go false e = refl

pub number_told : {A : Type 0} {number : A → ℕ} {of : ℕ → A} {n : ℕ} {x : A} → Told number of n x → number x ≡ n
number_told {number = number} {of = of} {n = n} t = ap number (sym t.kind) ∙ eqb-true (number (of n)) n t.own
