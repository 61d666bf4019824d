-- Where a byte is to be kept, and which stages have not ended.
-- Assumes nothing.
use Prim.Native.Nat.{ℕ}
use mathlib.Core.Path.{◌≡◌, refl, ap, ◌∙◌}
use mathlib.Core.Bool.{true, cond, not, ◌&&◌}
use lib.Dec.{eqb, ltb}
use borrow.Author.Tests.{eqb-true}
use Rattle.std.specs.Prelude.{Some, None}
use Rattle.access.specs.Machine.{is_end}
use Rattle.access.proofs.Choice.{first_true}
use Rattle.master.specs.declared.call.Setting.{Setting}
use Rattle.master.specs.declared.stage.FallStage.TheVariants as fall
use Rattle.master.specs.declared.stage.LaunchStage.TheVariants as launch
use Rattle.master.specs.declared.stage.WaitStage.TheVariants as wait
use Rattle.master.specs.declared.stage.AddressStage.TheVariants as address
use Rattle.master.specs.declared.stage.RecvStage.TheVariants as recv
use Rattle.master.specs.declared.stage.ReadStage.TheVariants as read
use Rattle.master.specs.declared.stage.Half.TheVariants as half
use Rattle.master.specs.declared.stage.AbortStage.TheVariants as abort
use Rattle.master.specs.declared.stage.Stage.{Stage}
use Rattle.master.specs.declared.stage.Stage.TheVariants as stage
use Rattle.master.specs.declared.state.Progress.{Progress}
use Rattle.master.specs.Machine.{owed_at}
use Rattle.stage_numbers.specs.MasterStage.{stage_group, stage_what, stage_phase, stage_of, is_stage}
use Rattle.asked.specs.Asked.{is_keep, kept_place}

module _ (g : Setting) (d : Progress) where
  -- an answer is kept at the block's place, or not at all
  pub place_at : (st : Stage) → kept_place (owed_at g st d) ≡ cond (is_keep (owed_at g st d)) (Some d.place) None
  place_at stage.Begin = refl
  place_at (stage.WaitStop f fall.Control) = refl
  place_at (stage.WaitStop f fall.Clock) = refl
  place_at (stage.LaunchStart launch.Control) = refl
  place_at (stage.LaunchStart launch.Status) = refl
  place_at (stage.LaunchStart launch.Read) = refl
  place_at (stage.LaunchStart launch.Write) = refl
  place_at (stage.Wait f wait.Status) = refl
  place_at (stage.Wait f wait.Clear) = refl
  place_at (stage.Wait f wait.Clock) = refl
  place_at (stage.Address address.Control) = refl
  place_at (stage.Address address.Master) = refl
  place_at (stage.Address address.Word) = refl
  place_at (stage.Address address.Cleared) = refl
  place_at stage.SendByte = refl
  place_at (stage.RecvByte recv.Status) = refl
  place_at (stage.RecvByte recv.Data) = refl
  place_at (stage.ReadIter read.PosWrite) = refl
  place_at (stage.ReadIter read.AckRead) = refl
  place_at (stage.ReadIter read.AckWrite) = refl
  place_at (stage.ReadIter read.StartRead) = refl
  place_at (stage.ReadIter read.StartWrite) = refl
  place_at (stage.ReadIter read.NackRead) = refl
  place_at (stage.ReadIter read.NackWrite) = refl
  place_at (stage.ReadIter read.Third) = refl
  place_at (stage.ReadIter read.AgainRead) = refl
  place_at (stage.ReadIter read.AgainWrite) = refl
  place_at (stage.ReadIter read.SecondLast) = refl
  place_at (stage.ReadIter read.Last) = refl
  place_at (stage.ReadIter read.PosOffRead) = refl
  place_at (stage.ReadIter read.PosOffWrite) = refl
  place_at (stage.GenerateStop k half.Read) = refl
  place_at (stage.GenerateStop k half.Write) = refl
  place_at (stage.Abort abort.FinishRead) = refl
  place_at (stage.Abort abort.FinishWrite) = refl
  place_at (stage.Abort abort.Control) = refl
  place_at (stage.Abort abort.Frequency) = refl
  place_at (stage.Abort abort.Divider) = refl
  place_at (stage.Abort abort.Rise) = refl
  place_at (stage.Abort abort.Reset) = refl
  place_at (stage.Abort abort.Release) = refl
  place_at (stage.Abort abort.PutFrequency) = refl
  place_at (stage.Abort abort.PutDivider) = refl
  place_at (stage.Abort abort.PutRise) = refl
  place_at (stage.Abort abort.Enable) = refl
  place_at (stage.Abort abort.Master) = refl
  place_at (stage.Abort abort.StopRead) = refl
  place_at (stage.Abort abort.StopWrite) = refl
  place_at stage.Ended = refl

  open_at : (st : Stage) → not (is_end (owed_at g st d)) ≡ ltb (stage_group st) 10
  open_at stage.Begin = refl
  open_at (stage.WaitStop f fall.Control) = refl
  open_at (stage.WaitStop f fall.Clock) = refl
  open_at (stage.LaunchStart launch.Control) = refl
  open_at (stage.LaunchStart launch.Status) = refl
  open_at (stage.LaunchStart launch.Read) = refl
  open_at (stage.LaunchStart launch.Write) = refl
  open_at (stage.Wait f wait.Status) = refl
  open_at (stage.Wait f wait.Clear) = refl
  open_at (stage.Wait f wait.Clock) = refl
  open_at (stage.Address address.Control) = refl
  open_at (stage.Address address.Master) = refl
  open_at (stage.Address address.Word) = refl
  open_at (stage.Address address.Cleared) = refl
  open_at stage.SendByte = refl
  open_at (stage.RecvByte recv.Status) = refl
  open_at (stage.RecvByte recv.Data) = refl
  open_at (stage.ReadIter read.PosWrite) = refl
  open_at (stage.ReadIter read.AckRead) = refl
  open_at (stage.ReadIter read.AckWrite) = refl
  open_at (stage.ReadIter read.StartRead) = refl
  open_at (stage.ReadIter read.StartWrite) = refl
  open_at (stage.ReadIter read.NackRead) = refl
  open_at (stage.ReadIter read.NackWrite) = refl
  open_at (stage.ReadIter read.Third) = refl
  open_at (stage.ReadIter read.AgainRead) = refl
  open_at (stage.ReadIter read.AgainWrite) = refl
  open_at (stage.ReadIter read.SecondLast) = refl
  open_at (stage.ReadIter read.Last) = refl
  open_at (stage.ReadIter read.PosOffRead) = refl
  open_at (stage.ReadIter read.PosOffWrite) = refl
  open_at (stage.GenerateStop k half.Read) = refl
  open_at (stage.GenerateStop k half.Write) = refl
  open_at (stage.Abort abort.FinishRead) = refl
  open_at (stage.Abort abort.FinishWrite) = refl
  open_at (stage.Abort abort.Control) = refl
  open_at (stage.Abort abort.Frequency) = refl
  open_at (stage.Abort abort.Divider) = refl
  open_at (stage.Abort abort.Rise) = refl
  open_at (stage.Abort abort.Reset) = refl
  open_at (stage.Abort abort.Release) = refl
  open_at (stage.Abort abort.PutFrequency) = refl
  open_at (stage.Abort abort.PutDivider) = refl
  open_at (stage.Abort abort.PutRise) = refl
  open_at (stage.Abort abort.Enable) = refl
  open_at (stage.Abort abort.Master) = refl
  open_at (stage.Abort abort.StopRead) = refl
  open_at (stage.Abort abort.StopWrite) = refl
  open_at stage.Ended = refl

  -- a stage that has not ended is of a group below 10
  pub still_open : (n w p : ℕ) → is_stage n w p ≡ true → not (is_end (owed_at g (stage_of n w p) d)) ≡ ltb n 10
  unfolding is_stage
  still_open n w p e =
      let group : stage_group (stage_of n w p) ≡ n = eqb-true (stage_group (stage_of n w p)) n (first_true (eqb (stage_group (stage_of n w p)) n) (eqb (stage_what (stage_of n w p)) w && eqb (stage_phase (stage_of n w p)) p) e) in
      open_at (stage_of n w p) ∙ ap (λ (x : ℕ). ltb x 10) group
