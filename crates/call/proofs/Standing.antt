-- For the laws of a call: which states stand in their blocks.
-- Assumes nothing.
use mathlib.Core.Path.{◌≡◌, refl, subst}
use mathlib.Core.Bool.{Bool, true, false, cond}
use mathlib.Core.Option as maybe
use native.Mathlib.Omega.{arith}
use Prim.Native.Nat.{ℕ}
use Rattle.std.specs.Prelude.{Some, None, Result, Ok, Err}
use Rattle.call.specs.CallOn.{first_of, first_unless, unless}

-- a state that is found if a test holds
pub found_if : {S : Type 0} (t : Bool) (s : S) → cond t (Some s) None ≡ Some s → t ≡ true
found_if true s e = refl
found_if false s e = let z : ◌≡◌ {A = ℕ} 0 1 = cc in absurd (omega arith)

-- a state that is found unless there is a cause
pub found_unless : {S E : Type 0} (o : maybe.Option E) (s : S) → unless o s ≡ Some s → o ≡ maybe.none
found_unless maybe.none s e = refl
found_unless (maybe.some x) s e = let z : ◌≡◌ {A = ℕ} 0 1 = cc in absurd (omega arith)

-- what holds of each state that begin makes of what it found holds of the first state
pub first_has : {T S E : Type 0} (P : S → Type 0) (f : T → S) (r : Result T E) (s : S) → ((t : T) → r ≡ Ok t → P (f t)) → first_of f r ≡ Ok s → P s
first_has P f (Ok t) s has e = let w : f t ≡ s = cc in subst P w (has t refl)
first_has P f (Err x) s has e = let z : ◌≡◌ {A = ℕ} 0 1 = cc in absurd (omega arith)

pub first_then : {S E : Type 0} (P : S → Type 0) (o : maybe.Option E) (f s : S) → (o ≡ maybe.none → P f) → first_unless o f ≡ Ok s → P s
first_then P maybe.none f s has e = let w : f ≡ s = cc in subst P w (has refl)
first_then P (maybe.some x) f s has e = let z : ◌≡◌ {A = ℕ} 0 1 = cc in absurd (omega arith)
