-- Which calls an entry's blocks hold.
-- Assumes nothing.
use Prim.Native.Nat.{ℕ}
use native.Mathlib.Omega.{arith}
use mathlib.Core.Path.{◌≡◌, refl, sym, ap, ◌∙◌}
use mathlib.Core.Bool.{Bool, true, false, cond}
use mathlib.Core.List.{List}
use lib.Dec.{eqb}
use borrow.Author.Tests.{eqb-true}
use Rattle.std.specs.Prelude.{Some, None}
use Rattle.block.specs.declared.fields.Fields.{Fields}
use Rattle.block.specs.Bytes32.{fields_of}
use Rattle.images.specs.SlaveImage.{kind_entry, kind_of, slave_fields, slave_in}
use Rattle.slave.specs.declared.state.Kind.{Kind}
use Rattle.slave.specs.declared.state.Kind.TheVariants.{Listen, RespondToWrite, RespondToRead}
use Rattle.slave.specs.declared.state.State.{State}
use Rattle.slave_step.specs.Held.{held_in}
use Rattle.slave_step.proofs.StoreLaws.{held_image}

pub kind_back : (k : Kind) → kind_of (kind_entry k) ≡ k
kind_back Listen = refl
kind_back RespondToWrite = refl
kind_back RespondToRead = refl

-- the state that is found is of a call of the entry's kind
pub held_kind : (entry : ℕ) (b : List ℕ) (s : State) → held_in entry b ≡ Some s → kind_of entry ≡ s.kind
unfolding held_in slave_fields
held_kind entry b s e = go (eqb (fields_of b).entry entry) refl e
  where
    go : (t : Bool) → eqb (fields_of b).entry entry ≡ t → cond t (slave_in (fields_of b)) None ≡ Some s → kind_of entry ≡ s.kind
    go true q h = ap kind_of (sym (ap (λ (f : Fields). f.entry) (held_image entry b s e) ∙ eqb-true (fields_of b).entry entry q)) ∙ kind_back s.kind
    go false q h = let z : ◌≡◌ {A = ℕ} 0 1 = cc in absurd (omega arith)
