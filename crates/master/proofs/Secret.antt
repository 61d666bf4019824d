-- The master is secret: no answer to a payload read leaves a trace in the state, and calls whose runs agree go through the same
-- states, however their runs are divided into operations.
-- Assumes nothing.
use mathlib.Core.Path.{◌≡◌, refl, sym, ap, ◌∙◌, subst}
use mathlib.Core.List.{List}
use mathlib.Core.Option.{Option}
use Prim.Native.Nat.{ℕ}
use lib.ListN.{take}
use Rattle.access.specs.declared.ending.Error.{Error}
use Rattle.access.specs.Record.{Shown, EqualUnless, DifferInPayload, Same, SameStruck}
use Rattle.access.specs.Machine.{shown_from}
use Rattle.access.proofs.Secrecy.{Blind, payload_need, blind_kept, secrecy}
use Rattle.operations.specs.declared.search.Run.{Run}
use Rattle.operations.specs.Runs.{Span}
use Rattle.master.specs.declared.call.Call.{Call}
use Rattle.master.specs.declared.call.Setting.{Setting}
use Rattle.master.specs.declared.stage.FallStage.TheVariants as falling
use Rattle.master.specs.declared.stage.LaunchStage.TheVariants as launch
use Rattle.master.specs.declared.stage.WaitStage.TheVariants as wait
use Rattle.master.specs.declared.stage.AddressStage.TheVariants as address
use Rattle.master.specs.declared.stage.RecvStage.TheVariants as recv
use Rattle.master.specs.declared.stage.ReadStage.TheVariants as reading
use Rattle.master.specs.declared.stage.Half.TheVariants as half
use Rattle.master.specs.declared.stage.AbortStage.TheVariants as abort
use Rattle.master.specs.declared.stage.Stage.{Stage}
use Rattle.master.specs.declared.stage.Stage.TheVariants.{Begin, WaitStop, LaunchStart, Wait, Address, SendByte, RecvByte, ReadIter, GenerateStop, Abort, Ended}
use Rattle.master.specs.declared.state.Progress.{Progress}
use Rattle.master.specs.Machine.{Shape, advance_at, owed_at, owed, advance, run_of, master, start}
use Rattle.master.specs.Calls.{Lent, Accepted, shape_of, setting_of, seen_after, call_shown}
use Rattle.master.specs.Claims.{Comparable, MasterIsSecret}

module _ (g : Setting) (r : Run) where
  -- by stage: a payload answer moves the machine to the same state whatever it is
  blind_at : (st : Stage) (d : Progress) (a b : ℕ) → EqualUnless (payload_need (owed_at g st d)) a b → advance_at g r st d a ≡ advance_at g r st d b
  blind_at Begin d a b e = ap (advance_at g r Begin d) e
  blind_at (WaitStop f falling.Control) d a b e = ap (advance_at g r (WaitStop f falling.Control) d) e
  blind_at (WaitStop f falling.Clock) d a b e = ap (advance_at g r (WaitStop f falling.Clock) d) e
  blind_at (LaunchStart launch.Control) d a b e = ap (advance_at g r (LaunchStart launch.Control) d) e
  blind_at (LaunchStart launch.Status) d a b e = ap (advance_at g r (LaunchStart launch.Status) d) e
  blind_at (LaunchStart launch.Read) d a b e = ap (advance_at g r (LaunchStart launch.Read) d) e
  blind_at (LaunchStart launch.Write) d a b e = ap (advance_at g r (LaunchStart launch.Write) d) e
  blind_at (Wait f wait.Status) d a b e = ap (advance_at g r (Wait f wait.Status) d) e
  blind_at (Wait f wait.Clear) d a b e = ap (advance_at g r (Wait f wait.Clear) d) e
  blind_at (Wait f wait.Clock) d a b e = ap (advance_at g r (Wait f wait.Clock) d) e
  blind_at (Address address.Control) d a b e = ap (advance_at g r (Address address.Control) d) e
  blind_at (Address address.Master) d a b e = ap (advance_at g r (Address address.Master) d) e
  blind_at (Address address.Word) d a b e = ap (advance_at g r (Address address.Word) d) e
  blind_at (Address address.Cleared) d a b e = ap (advance_at g r (Address address.Cleared) d) e
  blind_at SendByte d a b e = ap (advance_at g r SendByte d) e
  blind_at (RecvByte recv.Status) d a b e = ap (advance_at g r (RecvByte recv.Status) d) e
  blind_at (RecvByte recv.Data) d a b e = refl
  blind_at (ReadIter reading.PosWrite) d a b e = ap (advance_at g r (ReadIter reading.PosWrite) d) e
  blind_at (ReadIter reading.AckRead) d a b e = ap (advance_at g r (ReadIter reading.AckRead) d) e
  blind_at (ReadIter reading.AckWrite) d a b e = ap (advance_at g r (ReadIter reading.AckWrite) d) e
  blind_at (ReadIter reading.StartRead) d a b e = ap (advance_at g r (ReadIter reading.StartRead) d) e
  blind_at (ReadIter reading.StartWrite) d a b e = ap (advance_at g r (ReadIter reading.StartWrite) d) e
  blind_at (ReadIter reading.NackRead) d a b e = ap (advance_at g r (ReadIter reading.NackRead) d) e
  blind_at (ReadIter reading.NackWrite) d a b e = ap (advance_at g r (ReadIter reading.NackWrite) d) e
  blind_at (ReadIter reading.Third) d a b e = refl
  blind_at (ReadIter reading.AgainRead) d a b e = ap (advance_at g r (ReadIter reading.AgainRead) d) e
  blind_at (ReadIter reading.AgainWrite) d a b e = ap (advance_at g r (ReadIter reading.AgainWrite) d) e
  blind_at (ReadIter reading.SecondLast) d a b e = refl
  blind_at (ReadIter reading.Last) d a b e = refl
  blind_at (ReadIter reading.PosOffRead) d a b e = ap (advance_at g r (ReadIter reading.PosOffRead) d) e
  blind_at (ReadIter reading.PosOffWrite) d a b e = ap (advance_at g r (ReadIter reading.PosOffWrite) d) e
  blind_at (GenerateStop k half.Read) d a b e = ap (advance_at g r (GenerateStop k half.Read) d) e
  blind_at (GenerateStop k half.Write) d a b e = ap (advance_at g r (GenerateStop k half.Write) d) e
  blind_at (Abort abort.FinishRead) d a b e = ap (advance_at g r (Abort abort.FinishRead) d) e
  blind_at (Abort abort.FinishWrite) d a b e = ap (advance_at g r (Abort abort.FinishWrite) d) e
  blind_at (Abort abort.Control) d a b e = ap (advance_at g r (Abort abort.Control) d) e
  blind_at (Abort abort.Frequency) d a b e = ap (advance_at g r (Abort abort.Frequency) d) e
  blind_at (Abort abort.Divider) d a b e = ap (advance_at g r (Abort abort.Divider) d) e
  blind_at (Abort abort.Rise) d a b e = ap (advance_at g r (Abort abort.Rise) d) e
  blind_at (Abort abort.Reset) d a b e = ap (advance_at g r (Abort abort.Reset) d) e
  blind_at (Abort abort.Release) d a b e = ap (advance_at g r (Abort abort.Release) d) e
  blind_at (Abort abort.PutFrequency) d a b e = ap (advance_at g r (Abort abort.PutFrequency) d) e
  blind_at (Abort abort.PutDivider) d a b e = ap (advance_at g r (Abort abort.PutDivider) d) e
  blind_at (Abort abort.PutRise) d a b e = ap (advance_at g r (Abort abort.PutRise) d) e
  blind_at (Abort abort.Enable) d a b e = ap (advance_at g r (Abort abort.Enable) d) e
  blind_at (Abort abort.Master) d a b e = ap (advance_at g r (Abort abort.Master) d) e
  blind_at (Abort abort.StopRead) d a b e = ap (advance_at g r (Abort abort.StopRead) d) e
  blind_at (Abort abort.StopWrite) d a b e = ap (advance_at g r (Abort abort.StopWrite) d) e
  blind_at Ended d a b e = ap (advance_at g r Ended d) e

pub master_blind : (sh : Shape) → Blind (master sh)
unfolding owed advance
master_blind sh m a b e = blind_at sh.setting (run_of sh m.progress.run) m.stage m.progress a b e

-- what is seen of an accepted call is the machine's
accepted_shown : (c : Call) (l : Lent) → Accepted c l → (answers : List ℕ) → call_shown c l answers ≡ shown_from (master (shape_of c l)) l.written (start (shape_of c l)) answers
unfolding call_shown
accepted_shown c l q answers = ap (λ (o : Option Error). seen_after o c l answers) q

-- the shape of a call with these runs
abbrev shape_with : Call → List Span → Shape
shape_with c runs = record { setting = setting_of c; runs = runs }

-- the same runs: the second call is seen in the first one's machine
second_shown : (c : Call) (l₁ l₂ : Lent) → Comparable c l₁ l₂ → (answers : List ℕ)
    → call_shown c l₂ answers ≡ shown_from (master (shape_of c l₁)) l₂.written (start (shape_of c l₁)) answers
second_shown c l₁ l₂ q answers =
    accepted_shown c l₂ q.second answers
    ∙ ap (λ (runs : List Span). shown_from (master (shape_with c runs)) l₂.written (start (shape_with c runs)) answers) (sym q.runs)

hidden : (c : Call) (l₁ l₂ : Lent) → Comparable c l₁ l₂ → (xs ys : List ℕ) → DifferInPayload (call_shown c l₁ xs).events xs ys
    → (i : ℕ) → SameStruck Same (call_shown c l₁ (take i xs)) (call_shown c l₂ (take i ys))
hidden c l₁ l₂ q xs ys d i =
    subst (λ s. SameStruck Same s (call_shown c l₂ (take i ys))) (sym (accepted_shown c l₁ q.first (take i xs)))
    (subst (λ s. SameStruck Same (shown_from (master (shape_of c l₁)) l₁.written (start (shape_of c l₁)) (take i xs)) s) (sym (second_shown c l₁ l₂ q (take i ys)))
    (secrecy (blind_kept (master (shape_of c l₁)) (master_blind (shape_of c l₁))) l₁.written l₂.written refl xs ys
    (subst (λ (s : Shown). DifferInPayload s.events xs ys) (accepted_shown c l₁ q.first xs) d) i))

determined : (c : Call) (l₁ l₂ : Lent) → Comparable c l₁ l₂ → l₁.written ≡ l₂.written → (answers : List ℕ) → call_shown c l₁ answers ≡ call_shown c l₂ answers
determined c l₁ l₂ q e answers =
    accepted_shown c l₁ q.first answers
    ∙ ap (λ (w : List ℕ). shown_from (master (shape_of c l₁)) w (start (shape_of c l₁)) answers) e
    ∙ sym (second_shown c l₁ l₂ q answers)

pub master_is_secret : MasterIsSecret
master_is_secret = record { hidden = hidden; determined = determined }
