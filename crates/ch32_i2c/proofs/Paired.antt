-- Two programs side by side: each answer leads both on, and they end together, with ends that are alike. One program beside itself tells how
-- it can end.
-- Assumes nothing.
use Rattle.access.specs.Endings.{Ending}
use mathlib.Core.Path.{◌≡◌, subst}
use mathlib.Core.Bool.{Bool, true, false, cond}
use mathlib.Core.List.{List, [], ◌∷◌}
use mathlib.Core.Option.{Option, some}
use Prim.Native.Nat.{ℕ, zero, suc}
use native.Mathlib.Omega.{arith}
use Rattle.access.specs.Program.{Access, Program, finish, access, cut, spin_from}
use Rattle.access.specs.Record.{shown_of, EndsAlike, neither, both}

module _ (Alike : Ending → Ending → Type 0) where
  pub data Paired : Program → Program → Type 0 where
    finishes : {e f : Ending} → Alike e f → Paired (finish e) (finish f)
    accesses : {x y : Access} {k l : ℕ → Program} → ((a : ℕ) → Paired (k a) (l a)) → Paired (access x k) (access y l)
    cuts : Paired cut cut

  pub paired_ends : {p q : Program} → Paired p q → (at : ℕ) (answers : List ℕ) → EndsAlike Alike (shown_of at p answers).end (shown_of at q answers).end
  paired_ends (finishes h) at answers = both h
  paired_ends (accesses f) at [] = neither
  paired_ends (accesses f) at (a ∷ answers) = paired_ends (f a) at answers
  paired_ends cuts at answers = neither

  pub either : (b : Bool) {p q r s : Program} → Paired p q → Paired r s → Paired (cond b p r) (cond b q s)
  either true x y = x
  either false x y = y

  -- turns of a loop
  pub spins : {S : Type 0} (t u : S → (S → Program) → Program) → ((s : S) (f g : S → Program) → ((r : S) → Paired (f r) (g r)) → Paired (t s f) (u s g)) → (n : ℕ) (s : S) → Paired (spin_from n s t) (spin_from n s u)
  spins t u h zero s = cuts
  spins t u h (suc n) s = h s (λ r. spin_from n r t) (λ r. spin_from n r u) (λ r. spins t u h n r)

-- the end of a program beside itself
pub alone : (P : Ending → Type 0) (o p : Option Ending) → EndsAlike (λ e f. P e) o p → (e : Ending) → o ≡ some e → P e
alone P o p (both {e = x} h) e q = let z : x ≡ e = cc in subst P z h
alone P o p neither e q = let z : ◌≡◌ {A = ℕ} 0 1 = cc in absurd (omega arith)
