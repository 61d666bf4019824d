-- What is asked for behind a byte to keep is never a refusal: so a step that takes such a byte is told from a refused one by its number.
-- Assumes nothing.
use Prim.Native.Nat.{ℕ}
use native.Mathlib.Omega.{arith}
use mathlib.Core.Path.{◌≡◌, sym, ap, ◌∙◌}
use mathlib.Core.Bool.{Bool, true, ◌&&◌, true≢false}
use lib.Dec.{eqb}
use Rattle.access.specs.Endings.{ending_number, done, is_done}
use Rattle.access.proofs.Choice.{chosen, first_true, second_true}
use Rattle.operations.specs.declared.search.Run.{Run}
use Rattle.master.specs.declared.call.Call.{Call}
use Rattle.master.specs.declared.stage.FallStage.TheVariants as fall
use Rattle.master.specs.declared.stage.LaunchStage.TheVariants as launch
use Rattle.master.specs.declared.stage.WaitStage.TheVariants as wait
use Rattle.master.specs.declared.stage.AddressStage.TheVariants as address
use Rattle.master.specs.declared.stage.RecvStage.TheVariants as recv
use Rattle.master.specs.declared.stage.ReadStage.TheVariants as read
use Rattle.master.specs.declared.stage.Half.TheVariants as half
use Rattle.master.specs.declared.stage.AbortStage.TheVariants as abort
use Rattle.master.specs.declared.stage.Stage.{Stage}
use Rattle.master.specs.declared.stage.Stage.TheVariants as stage
use Rattle.master.specs.declared.state.Progress.{Progress}
use Rattle.master.specs.declared.state.Move.{Move}
use Rattle.master.specs.Machine.{owed_at, advance_at, byte_done, stops_here, finished, read_bytes}
use Rattle.master.specs.Fits.{counts, runs, fits_at, receiving, last_ones}
use Rattle.master.specs.Calls.{setting_of}
use Rattle.asked.specs.Asked.{is_keep, need_number}
use Rattle.access.proofs.EndingLaws.{ended_done}

module _ (c : Call) (r : Run) where
  -- what is asked for there is not a refusal
  abbrev Goes_on : Move → Type 0
  Goes_on m = (n : ℕ) → n ≡ need_number (owed_at (setting_of c) m.stage m.progress) → n ≡ 3840 → ⊥

  finished_on : (d : Progress) → d.ending ≡ done → Goes_on (finished (setting_of c) r d)
  finished_on d e =
      chosen Goes_on (stops_here (setting_of c) r)
      (λ _. chosen Goes_on d.reading (λ _ n q h. let k = q in omega arith) (λ _ n q h. let k = q in omega arith))
      (λ _. chosen Goes_on r.more (λ _ n q h. let k = q in omega arith) (λ _ n q h. let k : n ≡ 0 = q ∙ ap ending_number e in omega arith))

  read_on : (d : Progress) → d.ending ≡ done → Goes_on (read_bytes (setting_of c) r d)
  read_on d e =
      chosen Goes_on (eqb d.left 0) (λ _. finished_on d e)
      (λ _. chosen Goes_on ((setting_of c).frame.send_nack && eqb d.left 2) (λ _ n q h. let k = q in omega arith)
      (λ _. chosen Goes_on ((setting_of c).frame.send_nack && eqb d.left 3) (λ _ n q h. let k = q in omega arith) (λ _ n q h. let k = q in omega arith)))

module _ (c : Call) (r : Run) (d : Progress) where
  done_in : (b : Bool) → runs r b d ≡ true → d.ending ≡ done
  done_in b e = ended_done d.ending (first_true (is_done d.ending) b (second_true (counts r d) (is_done d.ending && b) e))

  -- what follows a byte to keep is not a refusal
  pub goes_on : (st : Stage) (a n : ℕ) → fits_at (setting_of c) r st d ≡ true → is_keep (owed_at (setting_of c) st d) ≡ true
      → n ≡ need_number (owed_at (setting_of c) (advance_at (setting_of c) r st d a).stage (advance_at (setting_of c) r st d a).progress) → n ≡ 3840 → ⊥
  goes_on stage.Begin a n fit k q = absurd (true≢false (sym k))
  goes_on (stage.WaitStop f fall.Control) a n fit k q = absurd (true≢false (sym k))
  goes_on (stage.WaitStop f fall.Clock) a n fit k q = absurd (true≢false (sym k))
  goes_on (stage.LaunchStart launch.Control) a n fit k q = absurd (true≢false (sym k))
  goes_on (stage.LaunchStart launch.Status) a n fit k q = absurd (true≢false (sym k))
  goes_on (stage.LaunchStart launch.Read) a n fit k q = absurd (true≢false (sym k))
  goes_on (stage.LaunchStart launch.Write) a n fit k q = absurd (true≢false (sym k))
  goes_on (stage.Wait f wait.Status) a n fit k q = absurd (true≢false (sym k))
  goes_on (stage.Wait f wait.Clear) a n fit k q = absurd (true≢false (sym k))
  goes_on (stage.Wait f wait.Clock) a n fit k q = absurd (true≢false (sym k))
  goes_on (stage.Address address.Control) a n fit k q = absurd (true≢false (sym k))
  goes_on (stage.Address address.Master) a n fit k q = absurd (true≢false (sym k))
  goes_on (stage.Address address.Word) a n fit k q = absurd (true≢false (sym k))
  goes_on (stage.Address address.Cleared) a n fit k q = absurd (true≢false (sym k))
  goes_on stage.SendByte a n fit k q = absurd (true≢false (sym k))
  goes_on (stage.RecvByte recv.Status) a n fit k q = absurd (true≢false (sym k))
  goes_on (stage.RecvByte recv.Data) a n fit k q = read_on c r (byte_done d) (done_in (receiving (setting_of c) r d) fit) n q
  goes_on (stage.ReadIter read.PosWrite) a n fit k q = absurd (true≢false (sym k))
  goes_on (stage.ReadIter read.AckRead) a n fit k q = absurd (true≢false (sym k))
  goes_on (stage.ReadIter read.AckWrite) a n fit k q = absurd (true≢false (sym k))
  goes_on (stage.ReadIter read.StartRead) a n fit k q = absurd (true≢false (sym k))
  goes_on (stage.ReadIter read.StartWrite) a n fit k q = absurd (true≢false (sym k))
  goes_on (stage.ReadIter read.NackRead) a n fit k q = absurd (true≢false (sym k))
  goes_on (stage.ReadIter read.NackWrite) a n fit k q = absurd (true≢false (sym k))
  goes_on (stage.ReadIter read.Third) a n fit k q = λ e. let k = q in omega arith
  goes_on (stage.ReadIter read.AgainRead) a n fit k q = absurd (true≢false (sym k))
  goes_on (stage.ReadIter read.AgainWrite) a n fit k q = absurd (true≢false (sym k))
  goes_on (stage.ReadIter read.SecondLast) a n fit k q = λ e. let k = q in omega arith
  goes_on (stage.ReadIter read.Last) a n fit k q = finished_on c r (byte_done d) (done_in (last_ones (setting_of c) r 1 d) fit) n q
  goes_on (stage.ReadIter read.PosOffRead) a n fit k q = absurd (true≢false (sym k))
  goes_on (stage.ReadIter read.PosOffWrite) a n fit k q = absurd (true≢false (sym k))
  goes_on (stage.GenerateStop what half.Read) a n fit k q = absurd (true≢false (sym k))
  goes_on (stage.GenerateStop what half.Write) a n fit k q = absurd (true≢false (sym k))
  goes_on (stage.Abort abort.FinishRead) a n fit k q = absurd (true≢false (sym k))
  goes_on (stage.Abort abort.FinishWrite) a n fit k q = absurd (true≢false (sym k))
  goes_on (stage.Abort abort.Control) a n fit k q = absurd (true≢false (sym k))
  goes_on (stage.Abort abort.Frequency) a n fit k q = absurd (true≢false (sym k))
  goes_on (stage.Abort abort.Divider) a n fit k q = absurd (true≢false (sym k))
  goes_on (stage.Abort abort.Rise) a n fit k q = absurd (true≢false (sym k))
  goes_on (stage.Abort abort.Reset) a n fit k q = absurd (true≢false (sym k))
  goes_on (stage.Abort abort.Release) a n fit k q = absurd (true≢false (sym k))
  goes_on (stage.Abort abort.PutFrequency) a n fit k q = absurd (true≢false (sym k))
  goes_on (stage.Abort abort.PutDivider) a n fit k q = absurd (true≢false (sym k))
  goes_on (stage.Abort abort.PutRise) a n fit k q = absurd (true≢false (sym k))
  goes_on (stage.Abort abort.Enable) a n fit k q = absurd (true≢false (sym k))
  goes_on (stage.Abort abort.Master) a n fit k q = absurd (true≢false (sym k))
  goes_on (stage.Abort abort.StopRead) a n fit k q = absurd (true≢false (sym k))
  goes_on (stage.Abort abort.StopWrite) a n fit k q = absurd (true≢false (sym k))
  goes_on stage.Ended a n fit k q = absurd (true≢false (sym k))
