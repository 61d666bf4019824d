-- A master call's state is told by its block, and a block that tells a state is its image.
-- Assumes nothing.
use Prim.Native.Nat.{ℕ}
use native.Mathlib.Omega.{arith}
use mathlib.Core.Path.{◌≡◌, refl, ap}
use Rattle.std.specs.Prelude.{Some, None}
use Rattle.block.specs.declared.fields.Fields.{Fields}
use Rattle.master.specs.declared.call.FrameOptions.{FrameOptions}
use Rattle.master.specs.declared.call.FrameOptions.TheVariants as frameOptions
use Rattle.master.specs.declared.call.Kind.{Kind}
use Rattle.master.specs.declared.call.Kind.TheVariants as kind
use Rattle.master.specs.declared.state.State.{State}
use Rattle.images.specs.MasterImage.{frame_options_number, frame_options_of, kind_entry, kind_option, kind_of, master_fields, master_of, master_in}
use Rattle.images.proofs.NumberLaws.{chip_back}
use Rattle.access.proofs.EndingLaws.{ending_back}
use Rattle.stage_numbers.proofs.MasterStageLaws.{stage_back}
use Rattle.images.proofs.Found.{found_state, found_image}
use mathlib.Core.Bool.{Bool, true, false}
use Rattle.images.specs.Numbers.{flag_number, flag_at}

frame_options_back : (x : FrameOptions) → frame_options_of (frame_options_number x) ≡ x
frame_options_back frameOptions.FirstAndLastFrame = refl
frame_options_back frameOptions.FirstFrame = refl
frame_options_back frameOptions.FirstAndNextFrame = refl
frame_options_back frameOptions.NextFrame = refl
frame_options_back frameOptions.LastFrame = refl
frame_options_back frameOptions.LastFrameNoStop = refl

kind_back : (k : Kind) → kind_of (kind_entry k) (kind_option k) ≡ k
kind_back kind.Transaction = refl
kind_back kind.WriteRead = refl
kind_back (kind.Write o) = ap kind.Write (frame_options_back o)
kind_back (kind.Read o) = ap kind.Read (frame_options_back o)

flag_back : (b : Bool) → flag_at 1 (flag_number b) ≡ b
flag_back true = refl
flag_back false = refl

pub master_back : (s : State) → master_of (master_fields s) ≡ s
unfolding master_of master_fields
master_back s = rw (chip_back s.call.chip, kind_back s.call.kind, stage_back s.stage, flag_back s.progress.reading, ending_back s.progress.ending)

pub master_found : (s : State) → master_in (master_fields s) ≡ Some s
unfolding master_in
master_found s = found_state master_fields master_of Some None s (master_back s)

pub master_image : (f : Fields) (s : State) → master_in f ≡ Some s → master_fields s ≡ f
unfolding master_in
master_image f s e = found_image master_fields master_of Some None f s (λ k. cc) (λ k. let z : ◌≡◌ {A = ℕ} 0 1 = cc in omega arith) e
