-- A slave call's state is told by its block, and a block that tells a state is its image.
-- Assumes nothing.
use Prim.Native.Nat.{ℕ}
use native.Mathlib.Omega.{arith}
use mathlib.Core.Path.{◌≡◌, refl}
use Rattle.std.specs.Prelude.{Some, None}
use Rattle.block.specs.declared.fields.Fields.{Fields}
use Rattle.slave.specs.declared.state.Kind.{Kind}
use Rattle.slave.specs.declared.state.Kind.TheVariants as kind
use Rattle.slave.specs.declared.state.State.{State}
use Rattle.images.specs.SlaveImage.{kind_entry, kind_of, slave_fields, slave_of, slave_in}
use Rattle.images.proofs.NumberLaws.{chip_back}
use Rattle.access.proofs.EndingLaws.{ending_back}
use Rattle.stage_numbers.proofs.SlaveStageLaws.{stage_back}
use Rattle.images.proofs.Found.{found_state, found_image}

kind_back : (k : Kind) → kind_of (kind_entry k) ≡ k
kind_back kind.Listen = refl
kind_back kind.RespondToWrite = refl
kind_back kind.RespondToRead = refl

pub slave_back : (s : State) → slave_of (slave_fields s) ≡ s
unfolding slave_of slave_fields
slave_back s = rw (chip_back s.chip, kind_back s.kind, stage_back s.stage, ending_back s.progress.ending)

pub slave_found : (s : State) → slave_in (slave_fields s) ≡ Some s
unfolding slave_in
slave_found s = found_state slave_fields slave_of Some None s (slave_back s)

pub slave_image : (f : Fields) (s : State) → slave_in f ≡ Some s → slave_fields s ≡ f
unfolding slave_in
slave_image f s e = found_image slave_fields slave_of Some None f s (λ k. cc) (λ k. let z : ◌≡◌ {A = ℕ} 0 1 = cc in omega arith) e
