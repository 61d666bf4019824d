-- Steps keep a state that fits, and a call begins with one.
-- Assumes nothing.
use mathlib.Core.Path.{◌≡◌, refl, sym}
use mathlib.Core.Bool.{Bool, true, false, cond, not, ◌&&◌, true≢false}
use Prim.Native.Nat.{ℕ, suc, pred, ◌+◌, ◌*◌, ◌≤◌, ◌<◌}
use native.Mathlib.Omega.{arith}
use borrow.Author.Tests.{lt-ltb, le-leb, leb-true, ltb-true}
use lib.Dec.{eqb, leb, ltb}
use Rattle.std.specs.Prelude.{Option, Some, None}
use Rattle.registers.specs.declared.chip.Chip.{Chip}
use Rattle.registers.specs.Bits.{ADDMODE, ADDR, STOPF, RXNE, TXE, AF, MSL, BUSY, GENCALL, DUALF}
use Rattle.registers.specs.Fields.{ADD9_0, ADD7_1, ADD2}
use Rattle.registers.proofs.WordLaws.{field_bound}
use Rattle.registers.specs.Word.{has_bit, field_of}
use Rattle.registers.specs.Flags.{error_flags}
use Rattle.access.specs.declared.ending.Failure.{Failure}
use Rattle.access.specs.declared.ending.Error.TheVariants.{Timeout}
use Rattle.access.specs.Endings.{failure_of, is_done}
use Rattle.access.specs.Program.{late}
use Rattle.access.proofs.Choice.{chosen, both_true, first_true, second_true, either_true, other_true}
use Rattle.access.proofs.Compared.{itself}
use Rattle.errors.specs.Classes.{error_of, decided}
use Rattle.errors.specs.Met.{is_met, has_failed}
use Rattle.errors.proofs.MetLaws.{found_met, unchecked_met}
use Rattle.slave.specs.declared.config.SlaveAddress.{SlaveAddress}
use Rattle.slave.specs.declared.command.SlaveCommandKind.{SlaveCommandKind}
use Rattle.slave.specs.declared.command.SlaveCommandKind.TheVariants.{GeneralCall, Read, Write}
use Rattle.slave.specs.declared.stage.StopfFor.TheVariants as stopf
use Rattle.slave.specs.declared.stage.StopfStage.TheVariants as clearing
use Rattle.slave.specs.declared.stage.StaleStage.TheVariants as stale
use Rattle.slave.specs.declared.stage.ArmStage.TheVariants as arm
use Rattle.slave.specs.declared.stage.MatchStage.{MatchStage}
use Rattle.slave.specs.declared.stage.MatchStage.TheVariants as matching
use Rattle.slave.specs.declared.stage.Half.TheVariants as half
use Rattle.slave.specs.declared.stage.ErrorStage.TheVariants as errors
use Rattle.slave.specs.declared.stage.AbortStage.TheVariants as abort
use Rattle.slave.specs.declared.stage.Stage.{Stage}
use Rattle.slave.specs.declared.stage.Stage.TheVariants.{ClearStopf, Stale, Arm, Poll, Match, Receive, Send, ClearAf, Errors, Abort, Ended}
use Rattle.slave.specs.declared.state.Kind.{Kind}
use Rattle.slave.specs.declared.state.Kind.TheVariants.{Listen, RespondToWrite, RespondToRead}
use Rattle.slave.specs.declared.state.Setting.{Setting}
use Rattle.slave.specs.declared.state.Progress.{Progress}
use Rattle.slave.specs.declared.state.Move.{Move}
use Rattle.slave.specs.Numbers.{kind_number, address_number}
use Rattle.slave.specs.Machine.{to, saves, fails, kind_of, own_address, slave_handle_errors, sent_taken_off, leftover, polls, decode_slave_address_move, advance_at, advance, start}
use Rattle.slave.specs.Fits.{is_listen, leaves_over, can_return, counts, runs, returns, closes, is_over, fits_at, fits}
use Rattle.slave.specs.Claims.{StatesFit}

-- ---- a command is below 12,288

pub seven_below : (w : ℕ) → field_of ADD7_1 w < 128
seven_below w = field_bound ADD7_1 w

pub second_below : (w : ℕ) → field_of ADD2 w < 128
second_below w = field_bound ADD2 w

ten_below : (w : ℕ) → field_of ADD9_0 w < 1024
ten_below w = field_bound ADD9_0 w

pub kind_below : (k : SlaveCommandKind) → kind_number k ≤ 2
kind_below GeneralCall = omega arith
kind_below Read = omega arith
kind_below Write = omega arith

pub own_below : (w : ℕ) → address_number (own_address w) < 2048
own_below w = chosen (λ (a : SlaveAddress). address_number a < 2048) (has_bit ADDMODE w) (λ _. omega (arith, ten_below w)) (λ _. omega (arith, seven_below w))

command_below : (k : SlaveCommandKind) (n : ℕ) → n < 2048 → n + kind_number k * 4096 < 12288
command_below k n h = omega (arith, kind_below k)

module _ (chip : Chip) (size : ℕ) where
  abbrev G : Kind → Setting
  G x = record { chip = chip; kind = x; size = size }

  abbrev Fit : Kind → Move → Type 0
  Fit x m = fits (G x) m ≡ true

  at : (x : Kind) (st : Stage) (d : Progress) → fits_at (G x) st d ≡ true → Fit x (to st d)
  unfolding fits
  at x st d e = e

  module _ (x : Kind) (d : Progress) where
    abbrev Counts : Type 0
    Counts = counts (G x) d ≡ true

    fails_fits : (f : Failure) → Counts → is_met chip false f ≡ true → Fit x (fails f d)
    fails_fits f c m = at x (Abort abort.DisableRead) _ (both_true c m)

    -- no end is known yet
    open_counts : (b : Bool) → runs (G x) b d ≡ true → Counts
    open_counts b e = first_true (counts (G x) d) (is_done d.ending && b) e

    open_done : (b : Bool) → runs (G x) b d ≡ true → is_done d.ending ≡ true
    open_done b e = first_true (is_done d.ending) b (second_true (counts (G x) d) (is_done d.ending && b) e)

    open_more : (b : Bool) → runs (G x) b d ≡ true → b ≡ true
    open_more b e = second_true (is_done d.ending) b (second_true (counts (G x) d) (is_done d.ending && b) e)

    goes_on : (b : Bool) → runs (G x) b d ≡ true → runs (G x) true d ≡ true
    goes_on b e = both_true (open_counts b e) (both_true (open_done b e) refl)

    -- what is to be returned is known
    closed : (b : Bool) → closes (G x) b d ≡ true → is_over (G x) d ≡ true
    closed b e =
        both_true (first_true (counts (G x) d) (returns (G x) d && b) e)
        (other_true (has_failed chip false d.ending) (first_true (returns (G x) d) b (second_true (counts (G x) d) (returns (G x) d && b) e)))

    aborted : counts (G x) d && has_failed chip false d.ending ≡ true → is_over (G x) d ≡ true
    aborted e =
        both_true (first_true (counts (G x) d) (has_failed chip false d.ending) e) (either_true (returns (G x) d) (second_true (counts (G x) d) (has_failed chip false d.ending) e))

    errors_fit : (a : ℕ) → runs (G x) true d ≡ true → Fit x (slave_handle_errors d a)
    errors_fit a e = chosen (Fit x) (not (eqb (error_flags a) 0)) (λ _. at x (Errors errors.Clear) (saves a d) e) (λ _. at x (Errors errors.Clock) d e)

    judged_fits : (c : Option Failure) → decided c (λ f. is_met chip false f ≡ true) (Unit {0}) → runs (G x) true d ≡ true
        → Fit x (decided c (λ f. fails f d) (to (Errors errors.Clock) d))
    judged_fits (Some y) m e = fails_fits y (open_counts true e) m
    judged_fits None m e = at x (Errors errors.Clock) d e

  -- a turn, by its status word
  polls_fit : (x : Kind) (d : Progress) (a : ℕ) → runs (G x) true d ≡ true → Fit x (polls x size d a)
  polls_fit Listen d a e = chosen (Fit Listen) (has_bit ADDR a) (λ _. at Listen (Match matching.Status) d e) (λ _. errors_fit Listen d a e)
  polls_fit RespondToWrite d a e =
      chosen (Fit RespondToWrite) (has_bit RXNE a) (λ _. at RespondToWrite Receive d e)
      (λ _. chosen (Fit RespondToWrite) (has_bit STOPF a)
      (λ _. at RespondToWrite (ClearStopf stopf.End clearing.Status) _ (both_true c (both_true stored refl)))
      (λ _. chosen (Fit RespondToWrite) (has_bit ADDR a)
      (λ _. at RespondToWrite Ended _ (both_true c stored))
      (λ _. errors_fit RespondToWrite d a e)))
    where
      c : counts (G RespondToWrite) d ≡ true
      c = open_counts RespondToWrite d true e

      stored : eqb d.count d.count && true ≡ true
      stored = both_true (itself d.count) refl
  polls_fit RespondToRead d a e =
      chosen (Fit RespondToRead) (has_bit AF a)
      (λ _. at RespondToRead (ClearAf half.Read) _ (both_true c (both_true (both_true left (other_true (eqb (leftover size d.count) lowered) (itself (leftover size d.count)))) refl)))
      (λ _. chosen (Fit RespondToRead) (has_bit STOPF a)
      (λ _. at RespondToRead (ClearStopf stopf.End clearing.Status) _ (both_true c (both_true both refl)))
      (λ _. chosen (Fit RespondToRead) (has_bit ADDR a)
      (λ _. at RespondToRead Ended _ (both_true c both))
      (λ _. chosen (Fit RespondToRead) (has_bit TXE a) (λ _. at RespondToRead Send d e) (λ _. errors_fit RespondToRead d a e))))
    where
      c : counts (G RespondToRead) d ≡ true
      c = open_counts RespondToRead d true e

      lowered : ℕ
      lowered = leftover size (sent_taken_off a d.count)

      left : leaves_over size d.count lowered ≡ true
      left =
          chosen (λ (n : ℕ). leaves_over size d.count (leftover size n) ≡ true) (has_bit TXE a)
          (λ _. either_true (eqb (leftover size d.count) (leftover size (pred d.count))) (itself (leftover size d.count)))
          (λ _. other_true (eqb (leftover size (pred d.count)) (leftover size d.count)) (itself (leftover size (pred d.count))))

      both : can_return RespondToRead size d.count lowered lowered ≡ true
      both = both_true left (either_true (eqb lowered (leftover size d.count)) (itself lowered))

  -- the slave is addressed
  match_fits : (st : MatchStage) (d : Progress) (a : ℕ) → runs (G Listen) true d ≡ true → Fit Listen (decode_slave_address_move st d a)
  match_fits matching.Status d a e =
      chosen (Fit Listen) (has_bit GENCALL a) (λ _. at Listen Ended _ (both_true (open_counts Listen d true e) refl))
      (λ _. chosen (Fit Listen) (has_bit DUALF a) (λ _. at Listen (Match matching.Second) (saves a d) e) (λ _. at Listen (Match matching.Own) (saves a d) e))
  match_fits matching.Second d a e =
      at Listen Ended _ (both_true (open_counts Listen d true e) (both_true (lt-ltb (field_of ADD2 a + kind_number (kind_of d.word) * 4096) 12288 (command_below (kind_of d.word) (field_of ADD2 a) (omega (arith, second_below a)))) refl))
  match_fits matching.Own d a e =
      at Listen Ended _ (both_true (open_counts Listen d true e) (both_true (lt-ltb (address_number (own_address a) + kind_number (kind_of d.word) * 4096) 12288 (command_below (kind_of d.word) (address_number (own_address a)) (own_below a))) refl))

  -- the counts
  stored_fits : (d : Progress) → leb d.count size ≡ true → leb (cond (ltb d.count size) (suc d.count) d.count) size ≡ true
  stored_fits d c =
      chosen (λ (n : ℕ). leb n size ≡ true) (ltb d.count size) (λ h. le-leb (suc d.count) size (ltb-true d.count size h)) (λ _. c)

  sent_fits : (d : Progress) → leb d.count (suc size) ≡ true → leb (cond (leb d.count size) (suc d.count) d.count) (suc size) ≡ true
  sent_fits d c =
      chosen (λ (n : ℕ). leb n (suc size) ≡ true) (leb d.count size) (λ h. le-leb (suc d.count) (suc size) (omega (arith, leb-true d.count size h))) (λ _. c)

  kept_at : (x : Kind) (st : Stage) (d : Progress) (a : ℕ) → fits_at (G x) st d ≡ true → Fit x (advance_at (G x) st d a)
  kept_at x (ClearStopf stopf.Listen clearing.Status) d a e = at x (ClearStopf stopf.Listen clearing.Read) d e
  kept_at x (ClearStopf stopf.End clearing.Status) d a e = at x (ClearStopf stopf.End clearing.Read) d e
  kept_at x (ClearStopf stopf.Listen clearing.Read) d a e = at x (ClearStopf stopf.Listen clearing.Write) (saves a d) e
  kept_at x (ClearStopf stopf.End clearing.Read) d a e = at x (ClearStopf stopf.End clearing.Write) (saves a d) e
  kept_at x (ClearStopf stopf.Listen clearing.Write) d a e = at x (Stale stale.Status) d e
  kept_at x (ClearStopf stopf.End clearing.Write) d a e = at x Ended d (closed x d (not (is_listen x)) e)
  kept_at x (Stale stale.Status) d a e = chosen (Fit x) (not (eqb (error_flags a) 0)) (λ _. at x (Stale stale.Clear) (saves a d) e) (λ _. at x (Arm arm.BufferRead) d e)
  kept_at x (Stale stale.Clear) d a e = at x (Arm arm.BufferRead) d e
  kept_at x (Arm arm.BufferRead) d a e = at x (Arm arm.BufferWrite) (saves a d) e
  kept_at x (Arm arm.BufferWrite) d a e = at x (Arm arm.AckRead) d e
  kept_at x (Arm arm.AckRead) d a e = at x (Arm arm.AckWrite) (saves a d) e
  kept_at x (Arm arm.AckWrite) d a e = at x Poll d (goes_on x d (is_listen x) e)
  kept_at x Poll d a e = polls_fit x d a e
  kept_at Listen (Match st) d a e = match_fits st d a e
  kept_at RespondToWrite (Match st) d a e = absurd (true≢false (sym (open_more RespondToWrite d false e)))
  kept_at RespondToRead (Match st) d a e = absurd (true≢false (sym (open_more RespondToRead d false e)))
  kept_at Listen Receive d a e = absurd (true≢false (sym (open_more Listen d false e)))
  kept_at RespondToWrite Receive d a e = at RespondToWrite Poll _ (both_true (stored_fits d (open_counts RespondToWrite d true e)) (both_true (open_done RespondToWrite d true e) refl))
  kept_at RespondToRead Receive d a e = absurd (true≢false (sym (open_more RespondToRead d false e)))
  kept_at Listen Send d a e = absurd (true≢false (sym (open_more Listen d false e)))
  kept_at RespondToWrite Send d a e = absurd (true≢false (sym (open_more RespondToWrite d false e)))
  kept_at RespondToRead Send d a e = at RespondToRead Poll _ (both_true (sent_fits d (open_counts RespondToRead d true e)) (both_true (open_done RespondToRead d true e) refl))
  kept_at x (ClearAf half.Read) d a e = at x (ClearAf half.Write) (saves a d) e
  kept_at x (ClearAf half.Write) d a e = at x Ended d (closed x d _ e)
  kept_at x (Errors errors.Clear) d a e = judged_fits x d (error_of chip false d.word) (found_met chip false d.word) e
  kept_at x (Errors errors.Clock) d a e = chosen (Fit x) (late a) (λ _. fails_fits x d (failure_of Timeout) (open_counts x d true e) (unchecked_met chip false Timeout)) (λ _. at x Poll d e)
  kept_at x (Abort abort.DisableRead) d a e = at x (Abort abort.DisableWrite) (saves a d) e
  kept_at x (Abort abort.DisableWrite) d a e = at x (Abort abort.Busy) d e
  kept_at x (Abort abort.Busy) d a e = chosen (Fit x) (has_bit BUSY a && not (has_bit MSL a)) (λ _. at x (Abort abort.StopRead) d e) (λ _. at x Ended d (aborted x d e))
  kept_at x (Abort abort.StopRead) d a e = at x (Abort abort.StopWrite) (saves a d) e
  kept_at x (Abort abort.StopWrite) d a e = at x Ended d (aborted x d e)
  kept_at x Ended d a e = at x Ended d e

  starts_fit : (x : Kind) → Fit x (start x)
  unfolding fits
  starts_fit Listen = refl
  starts_fit RespondToWrite = both_true (le-leb 0 size (omega arith)) refl
  starts_fit RespondToRead = both_true (le-leb 0 (suc size) (omega arith)) refl

kept : (g : Setting) (m : Move) (a : ℕ) → fits g m ≡ true → fits g (advance g m a) ≡ true
unfolding fits advance
kept g m a e = kept_at g.chip g.size g.kind m.stage m.progress a e

pub states_fit : StatesFit
states_fit = record { begins = λ g. starts_fit g.chip g.size g.kind; kept = kept }
