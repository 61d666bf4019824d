-- A byte to keep is stored exactly by a step that is taken: the number of a refusal tells.
-- Assumes nothing.
use Prim.Native.Nat.{ℕ}
use native.Mathlib.Omega.{arith}
use mathlib.Core.Path.{◌≡◌, refl, sym, ap}
use mathlib.Core.Bool.{Bool, true, false, cond, true≢false}
use mathlib.Core.List.{List}
use lib.Dec.{eqb, ltb}
use lib.ListN.{get_or}
use Rattle.std.specs.Prelude.{Some, None}
use Rattle.access.specs.declared.need.Need.TheVariants as need
use Rattle.block.specs.declared.fields.Fields.{Fields}
use Rattle.block.specs.Bytes32.{fields_of, long_at}
use Rattle.images.specs.SlaveImage.{slave_fields, slave_in}
use Rattle.images.proofs.SlaveImageLaws.{slave_image}
use Rattle.slave.specs.declared.stage.StopfStage.TheVariants as clearing
use Rattle.slave.specs.declared.stage.StaleStage.TheVariants as stale
use Rattle.slave.specs.declared.stage.ArmStage.TheVariants as arm
use Rattle.slave.specs.declared.stage.MatchStage.TheVariants as matching
use Rattle.slave.specs.declared.stage.Half.TheVariants as half
use Rattle.slave.specs.declared.stage.ErrorStage.TheVariants as errors
use Rattle.slave.specs.declared.stage.AbortStage.TheVariants as abort
use Rattle.slave.specs.declared.stage.Stage.{Stage}
use Rattle.slave.specs.declared.stage.Stage.TheVariants as stage
use Rattle.slave.specs.declared.state.Progress.{Progress}
use Rattle.slave.specs.declared.state.Setting.{Setting}
use Rattle.slave.specs.declared.state.State.{State}
use Rattle.slave.specs.Machine.{owed_at, advance_at}
use Rattle.stage_numbers.specs.SlaveStage.{stage_group}
use Rattle.asked.specs.Asked.{is_keep, kept_place, need_number}
use Rattle.slave_step.specs.Held.{held_in}

received_place : (b : Bool) (n : ℕ) → kept_place (cond b (need.Keep n) need.Drop) ≡ cond (is_keep (cond b (need.Keep n) need.Drop)) (Some n) None
received_place true n = refl
received_place false n = refl

module _ (g : Setting) (d : Progress) where
  -- an answer is kept at the place that the block counts, or not at all
  pub place_at : (st : Stage) → kept_place (owed_at g st d) ≡ cond (is_keep (owed_at g st d)) (Some d.count) None
  place_at (stage.ClearStopf f clearing.Status) = refl
  place_at (stage.ClearStopf f clearing.Read) = refl
  place_at (stage.ClearStopf f clearing.Write) = refl
  place_at (stage.Stale stale.Status) = refl
  place_at (stage.Stale stale.Clear) = refl
  place_at (stage.Arm arm.BufferRead) = refl
  place_at (stage.Arm arm.BufferWrite) = refl
  place_at (stage.Arm arm.AckRead) = refl
  place_at (stage.Arm arm.AckWrite) = refl
  place_at stage.Poll = refl
  place_at (stage.Match matching.Status) = refl
  place_at (stage.Match matching.Second) = refl
  place_at (stage.Match matching.Own) = refl
  place_at stage.Receive = received_place (ltb d.count g.size) d.count
  place_at stage.Send = refl
  place_at (stage.ClearAf half.Read) = refl
  place_at (stage.ClearAf half.Write) = refl
  place_at (stage.Errors errors.Clear) = refl
  place_at (stage.Errors errors.Clock) = refl
  place_at (stage.Abort abort.DisableRead) = refl
  place_at (stage.Abort abort.DisableWrite) = refl
  place_at (stage.Abort abort.Busy) = refl
  place_at (stage.Abort abort.StopRead) = refl
  place_at (stage.Abort abort.StopWrite) = refl
  place_at stage.Ended = refl

  -- what follows a byte to keep is not a refusal
  pub goes_on : (st : Stage) (a n : ℕ) → is_keep (owed_at g st d) ≡ true → n ≡ need_number (owed_at g (advance_at g st d a).stage (advance_at g st d a).progress) → n ≡ 3840 → ⊥
  goes_on (stage.ClearStopf f clearing.Status) a n k q e = true≢false (sym k)
  goes_on (stage.ClearStopf f clearing.Read) a n k q e = true≢false (sym k)
  goes_on (stage.ClearStopf f clearing.Write) a n k q e = true≢false (sym k)
  goes_on (stage.Stale stale.Status) a n k q e = true≢false (sym k)
  goes_on (stage.Stale stale.Clear) a n k q e = true≢false (sym k)
  goes_on (stage.Arm arm.BufferRead) a n k q e = true≢false (sym k)
  goes_on (stage.Arm arm.BufferWrite) a n k q e = true≢false (sym k)
  goes_on (stage.Arm arm.AckRead) a n k q e = true≢false (sym k)
  goes_on (stage.Arm arm.AckWrite) a n k q e = true≢false (sym k)
  goes_on stage.Poll a n k q e = true≢false (sym k)
  goes_on (stage.Match matching.Status) a n k q e = true≢false (sym k)
  goes_on (stage.Match matching.Second) a n k q e = true≢false (sym k)
  goes_on (stage.Match matching.Own) a n k q e = true≢false (sym k)
  goes_on stage.Receive a n k q e = let m = q in omega arith
  goes_on stage.Send a n k q e = true≢false (sym k)
  goes_on (stage.ClearAf half.Read) a n k q e = true≢false (sym k)
  goes_on (stage.ClearAf half.Write) a n k q e = true≢false (sym k)
  goes_on (stage.Errors errors.Clear) a n k q e = true≢false (sym k)
  goes_on (stage.Errors errors.Clock) a n k q e = true≢false (sym k)
  goes_on (stage.Abort abort.DisableRead) a n k q e = true≢false (sym k)
  goes_on (stage.Abort abort.DisableWrite) a n k q e = true≢false (sym k)
  goes_on (stage.Abort abort.Busy) a n k q e = true≢false (sym k)
  goes_on (stage.Abort abort.StopRead) a n k q e = true≢false (sym k)
  goes_on (stage.Abort abort.StopWrite) a n k q e = true≢false (sym k)
  goes_on stage.Ended a n k q e = true≢false (sym k)

-- the block of a state that is found says its numbers
pub held_image : (entry : ℕ) (b : List ℕ) (s : State) → held_in entry b ≡ Some s → slave_fields s ≡ fields_of b
unfolding held_in
held_image entry b s e = go (eqb (fields_of b).entry entry) e
  where
    go : (t : Bool) → cond t (slave_in (fields_of b)) None ≡ Some s → slave_fields s ≡ fields_of b
    go true h = slave_image (fields_of b) s h
    go false h = let z : ◌≡◌ {A = ℕ} 0 1 = cc in absurd (omega arith)

module _ (entry : ℕ) (b : List ℕ) (s : State) (e : held_in entry b ≡ Some s) where
  pub group_of : stage_group s.stage ≡ get_or b 3 0
  unfolding slave_fields fields_of
  group_of = ap (λ (f : Fields). f.stage) (held_image entry b s e)

  pub count_of : s.progress.count ≡ long_at b 24
  unfolding slave_fields fields_of
  count_of = ap (λ (f : Fields). f.count) (held_image entry b s e)
