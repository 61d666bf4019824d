-- What the tests before a step find: a count and an ending that the stages of a group have.
-- Assumes nothing.
use Prim.Native.Nat.{ℕ}
use mathlib.Core.Path.{◌≡◌, refl, ap, ◌∙◌}
use mathlib.Core.Bool.{Bool, true, false, ◌&&◌}
use mathlib.Core.List.{List}
use lib.Dec.{eqb, leb}
use borrow.Author.Tests.{ne_eqb}
use Rattle.access.specs.Endings.{Ending, ending_of, is_done}
use Rattle.access.proofs.EndingLaws.{as_returned, as_failed}
use Rattle.block.specs.Bytes32.{fields_of, long_at}
use Rattle.images.specs.EndImage.{ending_at, has_failed_at}
use Rattle.images.specs.SlaveImage.{kind_of, slave_of}
use Rattle.slave.specs.declared.state.Kind.{Kind}
use Rattle.slave.specs.Fits.{limit, can_return, returns_in}
use Rattle.slave_step.specs.Held.{said_in, closing, is_seen}

pub returns_told : (k : Kind) (size count n v x : ℕ) → eqb n 0 && can_return k size count v x ≡ returns_in k size count (ending_of n v x)
returns_told k size count n v x = go (eqb n 0) refl
  where
    go : (b : Bool) → eqb n 0 ≡ b → eqb n 0 && can_return k size count v x ≡ returns_in k size count (ending_of n v x)
    go true z = ap (λ (b : Bool). b && can_return k size count v x) z ∙ as_returned (λ (e : Ending). can_return k size count v x ≡ returns_in k size count e) n v x z refl
    go false z = ap (λ (b : Bool). b && can_return k size count v x) z ∙ as_failed (λ (e : Ending). false ≡ returns_in k size count e) n v x z (λ f. refl)

module _ (block : List ℕ) (k : Kind) (size group what count : ℕ) (n : count ≡ long_at block 24) {a b : Bool} where
  pub seen_closing : true ≡ closing group what → a ≡ leb count (limit k size) → b ≡ returns_in k size count (ending_at block) → (entry : ℕ) → k ≡ kind_of entry → a && b ≡ is_seen (said_in entry size (fields_of block)) group what
  unfolding fields_of slave_of
  seen_closing c p q entry e = rw (p, q, n, ← c, e)

  pub seen_failed : false ≡ closing group what → group ≡ 9 → a ≡ leb count (limit k size) → b ≡ has_failed_at false block → (entry : ℕ) → k ≡ kind_of entry → a && b ≡ is_seen (said_in entry size (fields_of block)) group what
  unfolding fields_of slave_of
  seen_failed c g p q entry e = rw (p, q, n, ← c, g, e)

  pub seen_done : false ≡ closing group what → (group ≡ 9 → ⊥) → a ≡ leb count (limit k size) → b ≡ is_done (ending_at block) → (entry : ℕ) → k ≡ kind_of entry → a && b ≡ is_seen (said_in entry size (fields_of block)) group what
  unfolding fields_of slave_of
  seen_done c g p q entry e = rw (p, q, n, ← c, ne_eqb _ _ g, e)
