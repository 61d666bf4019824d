-- What a choice by `same_fields` finds: the state whose image a block is.
-- Assumes nothing.
use mathlib.Core.Path.{◌≡◌, refl, ap, sym, ◌∙◌}
use mathlib.Core.Bool.{Bool, true, false, cond}
use Rattle.access.proofs.Choice.{when_true}
use Rattle.block.specs.declared.fields.Fields.{Fields}
use Rattle.block.specs.Fields.{same_fields}
use Rattle.block.proofs.Codec.{same_itself, same_said}

module _ {S F : Type 0} (fields : S → Fields) (of : Fields → S) (at : S → F) (nothing : F) where
  -- what is found in a block
  abbrev pub found_in : Fields → F
  found_in f = cond (same_fields (fields (of f)) f) (at (of f)) nothing

  -- the image of a state is found as that state
  pub found_state : (s : S) → of (fields s) ≡ s → found_in (fields s) ≡ at s
  found_state s e = sym (when_true (at (of (fields s))) nothing (ap (λ (t : S). same_fields (fields t) (fields s)) e ∙ same_itself (fields s))) ∙ ap at e

  -- a block in which a state is found is its image
  pub found_image : (f : Fields) (s : S) → (at (of f) ≡ at s → of f ≡ s) → (nothing ≡ at s → ⊥) → found_in f ≡ at s → fields s ≡ f
  found_image f s one other e = go (same_fields (fields (of f)) f) refl e
    where
      go : (b : Bool) → same_fields (fields (of f)) f ≡ b → cond b (at (of f)) nothing ≡ at s → fields s ≡ f
      go true h k = ap fields (sym (one k)) ∙ same_said (fields (of f)) f h
      go false h k = absurd (other k)
