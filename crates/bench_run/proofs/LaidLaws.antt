-- Programs that show the same accesses are given the same words.
-- Assumes nothing.
use mathlib.Core.Path.{◌≡◌, refl, sym, ap, ◌∙◌}
use mathlib.Core.Bool.{Bool, true, false}
use mathlib.Core.List.{List, [], ◌∷◌}
use Prim.Native.Nat.{ℕ, suc}
use native.Mathlib.Omega.{arith}
use Rattle.access.specs.Program.{Access, Program, finish, access, keep, cut}
use Rattle.access.specs.Record.{Event, shown_of}
use Rattle.bench_run.specs.Laid.{takes_answer, next_answer, handed, laid}

-- after every list of answers the same accesses, where i and j bytes had arrived before
abbrev MakesSame : ℕ → Program → ℕ → Program → Type 0
MakesSame i p j q = (xs : List ℕ) → (shown_of i p xs).events ≡ (shown_of j q xs).events

-- no access, no word
pub none_laid : (p : Program) (i : ℕ) → (shown_of i p []).events ≡ [] → (answers : List ℕ) → laid p answers ≡ []
none_laid (finish e) i h answers = refl
none_laid (access x k) i h answers = let z : ◌≡◌ {A = ℕ} 0 1 = cc in absurd (omega arith)
none_laid (keep b p) i h answers = none_laid p (suc i) h answers
none_laid cut i h answers = refl

abbrev first_of : Access → List Event → Access
first_of x [] = x
first_of x (e ∷ es) = e.what

abbrev behind_first : List Event → List Event
behind_first [] = []
behind_first (e ∷ es) = es

abbrev LaidSame : Program → Type 0
LaidSame p = (q : Program) (i j : ℕ) → MakesSame i p j q → (answers : List ℕ) → laid p answers ≡ laid q answers

access_same : (x : Access) (k : ℕ → Program) → ((a : ℕ) → LaidSame (k a)) → LaidSame (access x k)
access_same x k again (finish e) i j h answers = let z : ◌≡◌ {A = ℕ} 0 1 = cc (h []) in absurd (omega arith)
access_same x k again (access y l) i j h answers = ap (λ (z : Access). handed (takes_answer z) answers (λ a left. a ∷ laid (k a) left)) first ∙ go (takes_answer y) answers
  where
    first : x ≡ y
    first = ap (first_of x) (h [])

    behind : (a : ℕ) (left : List ℕ) → a ∷ laid (k a) left ≡ a ∷ laid (l a) left
    behind a left = ap (λ (ws : List ℕ). a ∷ ws) (again a (l a) i j (λ xs. ap behind_first (h (a ∷ xs))) left)

    go : (t : Bool) (left : List ℕ) → handed t left (λ a left. a ∷ laid (k a) left) ≡ handed t left (λ a left. a ∷ laid (l a) left)
    go true [] = refl
    go true (a ∷ left) = behind a left
    go false left = behind (next_answer left) left
access_same x k again (keep b q) i j h answers = access_same x k again q i (suc j) h answers
access_same x k again cut i j h answers = let z : ◌≡◌ {A = ℕ} 0 1 = cc (h []) in absurd (omega arith)

pub laid_same : (p : Program) → LaidSame p
laid_same (finish e) q i j h answers = sym (none_laid q j (sym (h [])) answers)
laid_same (access x k) q i j h answers = access_same x k (λ a. laid_same (k a)) q i j h answers
laid_same (keep b p) q i j h answers = laid_same p q (suc i) j h answers
laid_same cut q i j h answers = sym (none_laid q j (sym (h [])) answers)
