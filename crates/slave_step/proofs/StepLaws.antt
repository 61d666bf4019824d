-- What is seen before a step is what its group asks for; and which access is a byte to keep.
-- Assumes nothing.
use Prim.Native.Nat.{ℕ, ◌<◌, ◌≤◌}
use mathlib.Core.Path.{◌≡◌, refl, ap, sym, ◌∙◌}
use mathlib.Core.Bool.{Bool, true, false, cond, ◌&&◌}
use mathlib.Core.List.{List}
use lib.Dec.{eqb, ltb}
use lib.ListN.{get_or}
use borrow.Author.Tests.{le-ltb, eqb-true, eqb-false}
use Rattle.registers.specs.declared.chip.Chip.{Chip}
use Rattle.access.specs.declared.need.Need.TheVariants as need
use Rattle.access.proofs.Choice.{chosen}
use Rattle.block.specs.Bytes32.{fields_of}
use Rattle.images.specs.SlaveImage.{is_call, unused_empty}
use Rattle.images.proofs.NumberRanges.{chip_range}
use Rattle.images.proofs.SlaveImageRanges.{kind_range}
use Rattle.slave.specs.declared.stage.StopfFor.{StopfFor}
use Rattle.slave.specs.declared.stage.StopfStage.{StopfStage}
use Rattle.slave.specs.declared.stage.StopfStage.TheVariants as clearing
use Rattle.slave.specs.declared.stage.StaleStage.{StaleStage}
use Rattle.slave.specs.declared.stage.StaleStage.TheVariants as stale
use Rattle.slave.specs.declared.stage.ArmStage.{ArmStage}
use Rattle.slave.specs.declared.stage.ArmStage.TheVariants as arm
use Rattle.slave.specs.declared.stage.MatchStage.{MatchStage}
use Rattle.slave.specs.declared.stage.MatchStage.TheVariants as matching
use Rattle.slave.specs.declared.stage.Half.{Half}
use Rattle.slave.specs.declared.stage.Half.TheVariants as half
use Rattle.slave.specs.declared.stage.ErrorStage.{ErrorStage}
use Rattle.slave.specs.declared.stage.ErrorStage.TheVariants as errors
use Rattle.slave.specs.declared.stage.AbortStage.{AbortStage}
use Rattle.slave.specs.declared.stage.AbortStage.TheVariants as abort
use Rattle.slave.specs.declared.stage.Stage.{Stage}
use Rattle.slave.specs.declared.stage.Stage.TheVariants as stage
use Rattle.slave.specs.declared.state.Kind.{Kind}
use Rattle.slave.specs.declared.state.Progress.{Progress}
use Rattle.slave.specs.declared.state.Setting.{Setting}
use Rattle.slave.specs.Machine.{owed_at}
use Rattle.stage_numbers.specs.SlaveStage.{stage_of, stopf_for_of, stopf_stage_of, stale_stage_of, arm_stage_of, match_stage_of, half_of, error_stage_of, abort_stage_of}
use Rattle.asked.specs.Asked.{is_keep}
use Rattle.slave_step.specs.Held.{Call, fits_in}

-- no stage of a group from 10 on takes a step
pub no_group : (s : Call) (n w p : ℕ) → 10 ≤ n → ltb n 10 && fits_in s n w p ≡ false
no_group s n w p h = ap (λ (b : Bool). b && fits_in s n w p) (le-ltb n 10 h)

-- the test of a block's call
call_told : (b : List ℕ) (entry : ℕ) (u : Bool) → get_or b 0 0 < 256 → get_or b 1 0 < 256 → u ≡ unused_empty (fields_of b)
    → eqb (get_or b 0 0) entry && (((ltb 6 (get_or b 0 0) && ltb (get_or b 0 0) 10) && eqb (get_or b 2 0) 0) && (ltb (get_or b 1 0) 4 && u)) ≡ eqb (fields_of b).entry entry && is_call (fields_of b)
unfolding is_call fields_of
call_told b entry u h k e = rw (e, kind_range (get_or b 0 0) h, chip_range (get_or b 1 0) k)

-- of a number that is the entry's the test may be made of the entry
own_range : (x e : ℕ) (o p : Bool) → eqb x e && (((ltb 6 e && ltb e 10) && o) && p) ≡ eqb x e && (((ltb 6 x && ltb x 10) && o) && p)
own_range x e o p = go (eqb x e) refl
  where
    go : (t : Bool) → eqb x e ≡ t → t && (((ltb 6 e && ltb e 10) && o) && p) ≡ t && (((ltb 6 x && ltb x 10) && o) && p)
    go true h = ap (λ (m : ℕ). ((ltb 6 m && ltb m 10) && o) && p) (sym (eqb-true x e h))
    go false h = refl

pub call_by_entry : (b : List ℕ) (entry : ℕ) (u : Bool) → get_or b 0 0 < 256 → get_or b 1 0 < 256 → u ≡ unused_empty (fields_of b)
    → eqb (get_or b 0 0) entry && (((ltb 6 entry && ltb entry 10) && eqb (get_or b 2 0) 0) && (ltb (get_or b 1 0) 4 && u)) ≡ eqb (fields_of b).entry entry && is_call (fields_of b)
call_by_entry b entry u h k e = own_range (get_or b 0 0) entry _ _ ∙ call_told b entry u h k e

-- ---- a byte to keep

module _ (g : Setting) (d : Progress) where
  abbrev None : Stage → Type 0
  None st = false ≡ is_keep (owed_at g st d)

  none_stopf : (f : StopfFor) (st : StopfStage) → None (stage.ClearStopf f st)
  none_stopf f clearing.Status = refl
  none_stopf f clearing.Read = refl
  none_stopf f clearing.Write = refl

  none_stale : (st : StaleStage) → None (stage.Stale st)
  none_stale stale.Status = refl
  none_stale stale.Clear = refl

  none_arm : (st : ArmStage) → None (stage.Arm st)
  none_arm arm.BufferRead = refl
  none_arm arm.BufferWrite = refl
  none_arm arm.AckRead = refl
  none_arm arm.AckWrite = refl

  none_match : (st : MatchStage) → None (stage.Match st)
  none_match matching.Status = refl
  none_match matching.Second = refl
  none_match matching.Own = refl

  none_half : (st : Half) → None (stage.ClearAf st)
  none_half half.Read = refl
  none_half half.Write = refl

  none_errors : (st : ErrorStage) → None (stage.Errors st)
  none_errors errors.Clear = refl
  none_errors errors.Clock = refl

  none_abort : (st : AbortStage) → None (stage.Abort st)
  none_abort abort.DisableRead = refl
  none_abort abort.DisableWrite = refl
  none_abort abort.Busy = refl
  none_abort abort.StopRead = refl
  none_abort abort.StopWrite = refl

  -- outside the group that receives bytes nothing is kept
  unkept : (n w p : ℕ) → (n ≡ 5 → ⊥) → None (stage_of n w p)
  unkept n w p n5 =
      chosen None (eqb n 0) (λ _. none_stopf (stopf_for_of w) (stopf_stage_of p)) (λ _. chosen None (eqb n 1) (λ _. none_stale (stale_stage_of p)) (λ _. chosen None (eqb n 2) (λ _. none_arm (arm_stage_of p)) (λ _. chosen None (eqb n 3) (λ _. refl) (λ _. chosen None (eqb n 4) (λ _. none_match (match_stage_of p)) (λ _. chosen None (eqb n 5) (λ k. absurd (n5 (eqb-true n 5 k))) (λ _. chosen None (eqb n 6) (λ _. refl) (λ _. chosen None (eqb n 7) (λ _. none_half (half_of p)) (λ _. chosen None (eqb n 8) (λ _. none_errors (error_stage_of p)) (λ _. chosen None (eqb n 9) (λ _. none_abort (abort_stage_of p)) (λ _. refl))))))))))

received_kept : (b : Bool) (n : ℕ) → b ≡ is_keep (cond b (need.Keep n) need.Drop)
received_kept true n = refl
received_kept false n = refl

pub kept_told : (chip : Chip) (x : Kind) (size : ℕ) (d : Progress) (group w p count : ℕ) → count ≡ d.count
    → eqb group 5 && ltb count size ≡ is_keep (owed_at (record { chip = chip; kind = x; size = size }) (stage_of group w p) d)
kept_told chip x size d group w p count k = go (eqb group 5) refl
  where
    go : (b : Bool) → eqb group 5 ≡ b → eqb group 5 && ltb count size ≡ is_keep (owed_at (record { chip = chip; kind = x; size = size }) (stage_of group w p) d)
    go true e = rw (eqb-true group 5 e) (ap (λ (n : ℕ). ltb n size) k ∙ received_kept (ltb d.count size) d.count)
    go false e = ap (λ (b : Bool). b && ltb count size) e ∙ unkept (record { chip = chip; kind = x; size = size }) d group w p (eqb-false group 5 e)
