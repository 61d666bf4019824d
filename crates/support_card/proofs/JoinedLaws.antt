-- Texts of a list's items, put one behind the other.
-- Assumes nothing.
use Prim.Native.Nat.{ℕ, zero, suc, ◌+◌, ◌<◌}
use mathlib.Core.Path.{◌≡◌, refl, sym, ap, ◌∙◌}
use mathlib.Core.List.{List, [], ◌∷◌, ◌++◌, append_assoc, append-nil}
use native.Mathlib.Nat.{add-zero, not-suc-le-zero, le_of_suc-le-suc}
use native.Mathlib.Numerals.{add-one}
use lib.ListN.{length, get_or, take}
use Rattle.bench_text.specs.Puts.{Puts}
use Rattle.bench_text.proofs.PutLaws.{both}
use Rattle.support_card.specs.CardText.{joined}

-- nothing put leaves a buffer as it is
pub nothing : {out : List ℕ} {at : ℕ} → Puts out at [] at out
nothing {at = at} = record { place = sym (add-zero at); holds = refl }

module _ {A : Type 0} (f : A → List ℕ) where
  one_more : (l : List A) (i : ℕ) (d : A) → i < length l → joined f (take i l) ++ f (get_or l i d) ≡ joined f (take (suc i) l)
  one_more [] i d h = absurd (not-suc-le-zero h)
  one_more (a ∷ l) zero d h = sym (append-nil (f a))
  one_more (a ∷ l) (suc i) d h = append_assoc (f a) (joined f (take i l)) (f (get_or l i d)) ∙ ap (λ (r : List ℕ). f a ++ r) (one_more l i d (le_of_suc-le-suc h))

  -- the text of one item more, behind some text
  pub more_put : {o o' o'' : List ℕ} {at m r : ℕ} (front : List ℕ) (l : List A) (i : ℕ) (d : A) → i < length l → Puts o at (front ++ joined f (take i l)) m o' → Puts o' m (f (get_or l i d)) r o'' → Puts o at (front ++ joined f (take (i + 1) l)) r o''
  more_put front l i d h p q =
      let e : (front ++ joined f (take i l)) ++ f (get_or l i d) ≡ front ++ joined f (take (i + 1) l) =
      append_assoc front (joined f (take i l)) (f (get_or l i d)) ∙ ap (λ (r : List ℕ). front ++ r) (one_more l i d h ∙ ap (λ (n : ℕ). joined f (take n l)) (sym (add-one i)))
      in rw (← e) (both p q)
