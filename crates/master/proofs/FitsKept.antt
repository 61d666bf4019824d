-- Steps keep a state that fits, and a call begins with one.
-- Assumes nothing.
use mathlib.Core.Path.{◌≡◌, refl, sym, ap, ◌∙◌, subst}
use mathlib.Core.Bool.{Bool, true, false, cond, beq, not, ◌&&◌, ◌||◌, true≢false}
use Prim.Native.Nat.{ℕ, zero, suc, pred, ◌+◌, ◌≤◌, ◌<◌}
use native.Mathlib.Omega.{arith}
use borrow.Author.Tests.{lt-ltb, le-leb, leb-true, ltb-true, eq-eqb, eqb-true, eqb-false, not-true}
use lib.Dec.{eqb, leb, ltb}
use Rattle.std.specs.Prelude.{Option, Some, None}
use Rattle.registers.specs.Word.{has_bit}
use Rattle.registers.specs.Flags.{error_flags}
use Rattle.registers.specs.Bits.{START, STOP, SB, RXNE, MSL}
use Rattle.access.specs.declared.ending.Failure.{Failure}
use Rattle.access.specs.declared.ending.Error.TheVariants.{Arbitration, Timeout}
use Rattle.access.specs.Endings.{failure_of, is_done}
use Rattle.access.specs.Program.{late}
use Rattle.access.proofs.Choice.{chosen, both_true, first_true, second_true, first_false, either_true, other_true, same_true, true_same}
use Rattle.errors.specs.Classes.{error_of, decided}
use Rattle.errors.specs.Met.{is_met, has_failed}
use Rattle.errors.proofs.MetLaws.{found_met, unchecked_met}
use Rattle.operations.specs.declared.search.Run.{Run}
use Rattle.operations.specs.Operations.{is_read}
use Rattle.operations.specs.Runs.{run_at}
use Rattle.master.specs.declared.call.Setting.{Setting}
use Rattle.master.specs.declared.stage.Fall.{Fall}
use Rattle.master.specs.declared.stage.Fall.TheVariants as fall
use Rattle.master.specs.declared.stage.FallStage.{FallStage}
use Rattle.master.specs.declared.stage.FallStage.TheVariants as falling
use Rattle.master.specs.declared.stage.LaunchStage.{LaunchStage}
use Rattle.master.specs.declared.stage.LaunchStage.TheVariants as launch
use Rattle.master.specs.declared.stage.Flag.{Flag}
use Rattle.master.specs.declared.stage.Flag.TheVariants.{Sb, Addr, Txe, Sent, Three, Two, Rxne}
use Rattle.master.specs.declared.stage.WaitStage.{WaitStage}
use Rattle.master.specs.declared.stage.WaitStage.TheVariants as wait
use Rattle.master.specs.declared.stage.AddressStage.{AddressStage}
use Rattle.master.specs.declared.stage.AddressStage.TheVariants as address
use Rattle.master.specs.declared.stage.RecvStage.{RecvStage}
use Rattle.master.specs.declared.stage.RecvStage.TheVariants as recv
use Rattle.master.specs.declared.stage.ReadStage.{ReadStage}
use Rattle.master.specs.declared.stage.ReadStage.TheVariants as reading
use Rattle.master.specs.declared.stage.StopFor.{StopFor}
use Rattle.master.specs.declared.stage.StopFor.TheVariants as stop
use Rattle.master.specs.declared.stage.Half.{Half}
use Rattle.master.specs.declared.stage.Half.TheVariants as half
use Rattle.master.specs.declared.stage.AbortStage.{AbortStage}
use Rattle.master.specs.declared.stage.AbortStage.TheVariants as abort
use Rattle.master.specs.declared.stage.Stage.{Stage}
use Rattle.master.specs.declared.stage.Stage.TheVariants.{Begin, WaitStop, LaunchStart, Wait, Address, SendByte, RecvByte, ReadIter, GenerateStop, Abort, Ended}
use Rattle.master.specs.declared.state.Progress.{Progress}
use Rattle.master.specs.declared.state.Move.{Move}
use Rattle.master.specs.Machine.{Shape, to, saves, saves_divider, saves_rise, byte_done, begun, next_run, next16, fresh, fails, is_set, stops_here, continues, finished, write_bytes_move, read_bytes, waited, tests, waits, fallen, wait_stop_finished, launch_start, addressed, address_phase, recv_byte, blocking_read_iter, generate_stop, abort_transfer, begins, advance_at, begins_at, found_run, advance, start_with, start}
use Rattle.master.specs.Fits.{counts, untouched, starting, whole, sending, receiving, last_ones, single, closing, fits_fall, fits_wait, fits_read, fits_stop, fits_abort, runs, fits_at, fits_nothing, fits_found, fits}
use Rattle.master.proofs.Counts.{next_place, positive, suc_of}

-- what an accepted call's runs are like
pub record Sound (sh : Shape) : Type 0 where
  pub readable : (k : ℕ) (r : Run) → run_at sh.runs k ≡ Some r → is_read r.direction ≡ true → 0 < r.length
  pub small : (k : ℕ) (r : Run) → run_at sh.runs k ≡ Some r → r.before + r.length ≤ 65535
  pub follows : (k : ℕ) (r : Run) → run_at sh.runs k ≡ Some r → r.more ≡ true → (t : Run) × (run_at sh.runs (next16 k) ≡ Some t)
  pub started : (k : ℕ) (r : Run) → run_at sh.runs k ≡ Some r → r.more ≡ true → sh.setting.frame.send_start ≡ true

split : (a b : Bool) → a && b ≡ true → (a ≡ true) × (b ≡ true)
split a b e = (first_true a b e, second_true a b e)

above_three : (n : ℕ) → 0 < n → (n ≡ 1 → ⊥) → (n ≡ 2 → ⊥) → (n ≡ 3 → ⊥) → 3 < n
above_three zero p a b c = absurd (omega arith)
above_three (suc zero) p a b c = absurd (a refl)
above_three (suc (suc zero)) p a b c = absurd (b refl)
above_three (suc (suc (suc zero))) p a b c = absurd (c refl)
above_three (suc (suc (suc (suc n)))) p a b c = omega arith

module _ (sh : Shape) (sound : Sound sh) where
  abbrev g : Setting
  g = sh.setting

  abbrev Fit : Move → Type 0
  Fit m = fits sh m ≡ true

  -- the run that a progress is in, and its counts
  record In (r : Run) (d : Progress) : Type 0 where
    found : run_at sh.runs d.run ≡ Some r
    same : d.reading ≡ is_read r.direction
    within : d.left ≤ r.length
    rest : d.place + d.left ≡ r.before + r.length

  -- the same with no error so far
  record Here (r : Run) (d : Progress) : Type 0 where
    where_in : In r d
    unfailed : is_done d.ending ≡ true

  in_counts : {r : Run} {d : Progress} → In r d → counts r d ≡ true
  in_counts {r} {d} h = both_true (same_true h.same) (both_true (le-leb d.left r.length h.within) (eq-eqb _ _ h.rest))

  counts_in : {r : Run} {d : Progress} → run_at sh.runs d.run ≡ Some r → counts r d ≡ true → In r d
  counts_in {r} {d} f e =
      let p = split (beq (is_read r.direction) d.reading) (leb d.left r.length && eqb (d.place + d.left) (r.before + r.length)) e in
      let q = split (leb d.left r.length) (eqb (d.place + d.left) (r.before + r.length)) p.1 in
      record { found = f; same = true_same _ _ p.0; within = leb-true d.left r.length q.0; rest = eqb-true _ _ q.1 }

  at : {r : Run} (st : Stage) (d : Progress) → run_at sh.runs d.run ≡ Some r → fits_at g r st d ≡ true → Fit (to st d)
  unfolding fits
  at st d f e = ap (λ x. fits_found g x st d) f ∙ e

  -- within a run
  running : {r : Run} {d : Progress} {b : Bool} → Here r d → b ≡ true → runs r b d ≡ true
  running h e = both_true (in_counts h.where_in) (both_true h.unfailed e)

  here : {r : Run} {d : Progress} (b : Bool) → run_at sh.runs d.run ≡ Some r → runs r b d ≡ true → Here r d × (b ≡ true)
  here {r} {d} b f e =
      let p = split (counts r d) (is_done d.ending && b) e in
      let q = split (is_done d.ending) b p.1 in
      (record { where_in = counts_in f p.0; unfailed = q.0 }, q.1)

  -- a word is saved
  saved : {r : Run} {d : Progress} (w : ℕ) → Here r d → Here r (saves w d)
  saved w h =
      record {
        where_in = record { found = h.where_in.found; same = h.where_in.same; within = h.where_in.within; rest = h.where_in.rest };
        unfailed = h.unfailed;
      }

  -- a byte is done
  byte_here : {r : Run} {d : Progress} → Here r d → 0 < d.left → Here r (byte_done d)
  byte_here {r} {d} h p =
      record {
        where_in = record {
          found = h.where_in.found;
          same = h.where_in.same;
          within = omega (arith, h.where_in.within, less);
          rest = ap (λ (x : ℕ). x + pred d.left) (next_place d.place (omega (arith, p, small_rest))) ∙ omega (arith, less, h.where_in.rest);
        };
        unfailed = h.unfailed;
      }
    where
      less : suc (pred d.left) ≡ d.left
      less = sym (suc_of d.left p)

      small_rest : d.place + d.left ≤ 65535
      small_rest = omega (arith, h.where_in.rest, sound.small d.run r h.where_in.found)

  -- ---- what the tests of a stage say

  module _ (r : Run) (d : Progress) where
    starting_facts : starting g r d ≡ true → (g.frame.send_start ≡ true) × (d.left ≡ r.length)
    starting_facts e =
        let p = split g.frame.send_start (whole r d) e in
        (p.0, eqb-true _ _ p.1)

    sending_facts : sending d ≡ true → (d.reading ≡ false) × (0 < d.left)
    sending_facts e =
        let p = split (not d.reading) (ltb 0 d.left) e in
        (not-true _ p.0, ltb-true 0 d.left p.1)

    receiving_facts : receiving g r d ≡ true → (d.reading ≡ true) × ((0 < d.left) × (g.frame.send_nack ≡ true → (r.length ≡ 1 → ⊥) → 3 < d.left))
    receiving_facts e =
        let p = split d.reading (ltb 0 d.left && (not g.frame.send_nack || (ltb 3 d.left || eqb r.length 1))) e in
        let q = split (ltb 0 d.left) (not g.frame.send_nack || (ltb 3 d.left || eqb r.length 1)) p.1 in
        (p.0, (ltb-true 0 d.left q.0, go g.frame.send_nack (ltb 3 d.left) (eqb r.length 1) refl refl q.1))
      where
        go : (a b c : Bool) → ltb 3 d.left ≡ b → eqb r.length 1 ≡ c → not a || (b || c) ≡ true → a ≡ true → (r.length ≡ 1 → ⊥) → 3 < d.left
        go a true c x y z u v = ltb-true 3 d.left x
        go a false true x y z u v = absurd (v (eqb-true _ _ y))
        go true false false x y z u v = absurd (true≢false (sym z))
        go false false false x y z u v = absurd (true≢false (sym u))

    last_facts : (n : ℕ) → last_ones g r n d ≡ true → (d.reading ≡ true) × ((g.frame.send_nack ≡ true) × ((d.left ≡ n) × (1 < r.length)))
    last_facts n e =
        let p = split d.reading (g.frame.send_nack && (eqb d.left n && ltb 1 r.length)) e in
        let q = split g.frame.send_nack (eqb d.left n && ltb 1 r.length) p.1 in
        let t = split (eqb d.left n) (ltb 1 r.length) q.1 in
        (p.0, (q.0, (eqb-true _ _ t.0, ltb-true 1 r.length t.1)))

    last_is : (n : ℕ) → d.reading ≡ true → g.frame.send_nack ≡ true → d.left ≡ n → 1 < r.length → last_ones g r n d ≡ true
    last_is n a b c e = both_true a (both_true b (both_true (eq-eqb _ _ c) (lt-ltb 1 r.length e)))

  -- ---- where a run goes on

  continues_fits : {r : Run} {d : Progress} → Here r d → d.left ≡ 0 → Fit (continues r d)
  continues_fits {r} {d} h z = chosen Fit r.more onward over
    where
      onward : r.more ≡ true → Fit (to Begin (next_run d))
      onward m =
          let t = sound.follows d.run r h.where_in.found m in
          at Begin (next_run d) t.1 (both_true h.unfailed (other_true (is_read t.0.direction) (sound.started d.run r h.where_in.found m)))

      over : r.more ≡ false → Fit (to Ended d)
      over m = at Ended d h.where_in.found (both_true (in_counts h.where_in) (other_true (has_failed g.chip true d.ending) (both_true h.unfailed (both_true (eq-eqb _ _ z) (ap not m)))))

  finished_fits : {r : Run} {d : Progress} → Here r d → d.left ≡ 0 → Fit (finished g r d)
  finished_fits {r} {d} h z =
      chosen Fit (stops_here g r)
      (λ s. chosen Fit d.reading
      (λ _. at (WaitStop fall.End falling.Control) d h.where_in.found (running h (both_true s (eq-eqb _ _ z))))
      (λ w. at (GenerateStop stop.Write half.Read) d h.where_in.found (running h (both_true (ap not w) (both_true s (eq-eqb _ _ z))))))
      (λ _. continues_fits h z)

  sends_on_fits : {r : Run} {d : Progress} → Here r d → d.reading ≡ false → Fit (write_bytes_move g r d)
  sends_on_fits {r} {d} h w =
      chosen Fit (eqb d.left 0)
      (λ z. finished_fits h (eqb-true _ _ z))
      (λ n. at (Wait Txe wait.Status) d h.where_in.found (running h (both_true (ap not w) (lt-ltb 0 d.left (positive d.left n)))))

  -- with NACK, a single byte is left only where there is but one
  reads_on_fits : {r : Run} {d : Progress} → Here r d → d.reading ≡ true → (g.frame.send_nack ≡ true → d.left ≡ 1 → r.length ≡ 1) → Fit (read_bytes g r d)
  reads_on_fits {r} {d} h w one =
      chosen Fit (eqb d.left 0)
      (λ z. finished_fits h (eqb-true _ _ z))
      (λ n. chosen Fit (g.frame.send_nack && eqb d.left 2)
      (λ t. by_last 2 Two refl (omega arith) (split g.frame.send_nack (eqb d.left 2) t))
      (λ n2. chosen Fit (g.frame.send_nack && eqb d.left 3)
      (λ t. by_last 3 Three refl (omega arith) (split g.frame.send_nack (eqb d.left 3) t))
      (λ n3. at (Wait Rxne wait.Status) d h.where_in.found (running h (both_true w (both_true (lt-ltb 0 d.left (positive d.left n)) (by_rxne g.frame.send_nack refl (positive d.left n) n2 n3)))))))
    where
      by_last : (n : ℕ) (f : Flag) → fits_wait g r f d ≡ last_ones g r n d → 1 < n → (g.frame.send_nack ≡ true) × (eqb d.left n ≡ true) → Fit (to (Wait f wait.Status) d)
      by_last n f e m t =
          let l : d.left ≡ n = eqb-true _ _ t.1 in
          at (Wait f wait.Status) d h.where_in.found (running h (e ∙ last_is r d n w t.0 l (omega (arith, h.where_in.within))))

      by_rxne : (b : Bool) → g.frame.send_nack ≡ b → 0 < d.left → b && eqb d.left 2 ≡ false → b && eqb d.left 3 ≡ false → not b || (ltb 3 d.left || eqb r.length 1) ≡ true
      by_rxne false e p n2 n3 = refl
      by_rxne true e p n2 n3 = go (eqb d.left 1) refl
        where
          go : (c : Bool) → eqb d.left 1 ≡ c → ltb 3 d.left || eqb r.length 1 ≡ true
          go true q = other_true (ltb 3 d.left) (eq-eqb _ _ (one e (eqb-true _ _ q)))
          go false q = either_true (eqb r.length 1) (lt-ltb 3 d.left (above_three d.left p (eqb-false _ _ q) (eqb-false _ _ n2) (eqb-false _ _ n3)))

  -- an error
  fails_fits : {r : Run} {d : Progress} (x : Failure) → Here r d → is_met g.chip true x ≡ true → Fit (fails x d)
  fails_fits {r} {d} x h m = at (Abort abort.FinishRead) _ h.where_in.found (both_true (in_counts same_counts) (both_true m refl))
    where
      same_counts : In r (fails x d).progress
      same_counts = record { found = h.where_in.found; same = h.where_in.same; within = h.where_in.within; rest = h.where_in.rest }

  -- the last run is over: where STOP is asked no other follows
  ended_fits : {r : Run} {d : Progress} → Here r d → closing g r d ≡ true → Fit (to Ended d)
  ended_fits {r} {d} h e =
      at Ended d h.where_in.found
      (both_true (in_counts h.where_in) (other_true (has_failed g.chip true d.ending) (both_true h.unfailed (both_true (second_true (stops_here g r) _ e) (last r.more (first_true _ (eqb d.left 0) e))))))
    where
      last : (b : Bool) → cond b false g.frame.send_stop ≡ true → not b ≡ true
      last true q = absurd (true≢false (sym q))
      last false q = refl

  -- one of the last bytes is read, and n are left
  less_fits : {r : Run} {d : Progress} (st : Stage) (n : ℕ) → Here r d → last_ones g r (suc n) d ≡ true
      → (Here r (byte_done d) → last_ones g r n (byte_done d) ≡ true → fits_at g r st (byte_done d) ≡ true) → Fit (to st (byte_done d))
  less_fits {r} {d} st n h e f =
      let x = last_facts r d (suc n) e in
      let b = byte_here h (omega (arith, x.1.1.0)) in
      at st (byte_done d) h.where_in.found (f b (last_is r (byte_done d) n x.0 x.1.0 (ap pred x.1.1.0) x.1.1.1))

  -- ---- the waits

  -- a byte that is sent, or read
  sent_fits : {r : Run} {d : Progress} → Here r d → sending d ≡ true → Fit (write_bytes_move g r (byte_done d))
  sent_fits {r} {d} h e =
      let x = sending_facts r d e in
      sends_on_fits (byte_here h x.1) x.0

  received_fits : {r : Run} {d : Progress} → Here r d → receiving g r d ≡ true → Fit (read_bytes g r (byte_done d))
  received_fits {r} {d} h e =
      let x = receiving_facts r d e in
      reads_on_fits (byte_here h x.1.0) x.0 (λ n l. only_one n l x.1.0 (x.1.1 n))
    where
      only_one : g.frame.send_nack ≡ true → pred d.left ≡ 1 → 0 < d.left → ((r.length ≡ 1 → ⊥) → 3 < d.left) → r.length ≡ 1
      only_one n l p f = go (eqb r.length 1) refl
        where
          go : (b : Bool) → eqb r.length 1 ≡ b → r.length ≡ 1
          go true q = eqb-true _ _ q
          go false q = absurd (omega (arith, f (eqb-false _ _ q), l, suc_of d.left p))

  waited_fits : {r : Run} {d : Progress} (f : Flag) → Here r d → fits_wait g r f d ≡ true → Fit (waited g r f d)
  waited_fits {r} {d} Sb h e = at (Address address.Control) d h.where_in.found (running h e)
  waited_fits {r} {d} Addr h e =
      chosen Fit (d.reading && (leb d.left 2 && g.frame.send_nack))
      (λ t. two (split d.reading _ t).0 (split (leb d.left 2) _ (split d.reading _ t).1))
      (λ _. at (Address address.Cleared) d h.where_in.found (running h e))
    where
      two : d.reading ≡ true → (leb d.left 2 ≡ true) × (g.frame.send_nack ≡ true) → Fit (to (ReadIter reading.AckRead) d)
      two w t =
          at (ReadIter reading.AckRead) d h.where_in.found
          (running h (both_true w (both_true e (both_true (subst (λ (x : ℕ). leb x 2 ≡ true) (starting_facts r d e).1 t.0) t.1))))
  waited_fits {r} {d} Txe h e = at SendByte d h.where_in.found (running h e)
  waited_fits Sent h e = sent_fits h e
  waited_fits {r} {d} Three h e = at (ReadIter reading.NackRead) d h.where_in.found (running h e)
  waited_fits {r} {d} Two h e =
      chosen Fit (stops_here g r)
      (λ s. at (GenerateStop stop.Two half.Read) d h.where_in.found (running h (both_true e s)))
      (λ s. at (ReadIter reading.AgainRead) d h.where_in.found (running h (both_true e (ap not s))))
  waited_fits {r} {d} Rxne h e = at (RecvByte recv.Status) d h.where_in.found (running h e)

  -- a stage of the wait
  waiting_fits : {r : Run} {d : Progress} (f : Flag) (st : WaitStage) → Here r d → fits_wait g r f d ≡ true → Fit (to (Wait f st) d)
  waiting_fits {r} {d} f st h e = at (Wait f st) d h.where_in.found (running h e)

  tests_fits : {r : Run} {d : Progress} (f : Flag) (w : ℕ) → Here r d → fits_wait g r f d ≡ true → Fit (tests g r f d w)
  tests_fits {r} {d} f w h e = chosen Fit (not (is_set f w)) (λ _. waiting_fits f wait.Clock h e) (λ _. waited_fits f h e)

  judged_fits : {r : Run} {d : Progress} (f : Flag) (c : Option Failure) (w : ℕ) → decided c (λ x. is_met g.chip true x ≡ true) (Unit {0}) → Here r d → fits_wait g r f d ≡ true
      → Fit (decided c (λ x. fails x d) (tests g r f d w))
  judged_fits f (Some x) w m h e = fails_fits x h m
  judged_fits f None w m h e = tests_fits f w h e

  -- what is waited for does not depend on the word that is saved
  same_wait : (r : Run) (d : Progress) (f : Flag) (w : ℕ) → fits_wait g r f d ≡ true → fits_wait g r f (saves w d) ≡ true
  same_wait r d Sb w e = e
  same_wait r d Addr w e = e
  same_wait r d Txe w e = e
  same_wait r d Sent w e = e
  same_wait r d Three w e = e
  same_wait r d Two w e = e
  same_wait r d Rxne w e = e

  waits_fits : {r : Run} {d : Progress} (f : Flag) (st : WaitStage) (a : ℕ) → Here r d → fits_wait g r f d ≡ true → Fit (waits g r st f d a)
  waits_fits {r} {d} f wait.Status a h e =
      chosen Fit (not (eqb (error_flags a) 0)) (λ _. waiting_fits f wait.Clear (saved a h) (same_wait r d f a e)) (λ _. tests_fits f a h e)
  waits_fits {r} {d} f wait.Clear a h e = judged_fits f (error_of g.chip true d.word) d.word (found_met g.chip true d.word) h e
  waits_fits {r} {d} f wait.Clock a h e = chosen Fit (late a) (λ _. fails_fits (failure_of Timeout) h (unchecked_met g.chip true Timeout)) (λ _. waiting_fits f wait.Status h e)

  -- ---- the other groups of stages

  fallen_fits : {r : Run} {d : Progress} (f : Fall) → Here r d → fits_fall g r f d ≡ true → Fit (fallen f d)
  fallen_fits {r} {d} fall.Start h e = at (LaunchStart launch.Control) d h.where_in.found (running h e)
  fallen_fits {r} {d} fall.End h e =
      chosen Fit d.reading
      (λ w. at (ReadIter reading.PosOffRead) d h.where_in.found (running h (both_true w e)))
      (λ _. ended_fits h e)

  stop_fits : {r : Run} {d : Progress} (f : Fall) (st : FallStage) (a : ℕ) → Here r d → fits_fall g r f d ≡ true → Fit (wait_stop_finished st f d a)
  stop_fits {r} {d} f falling.Control a h e =
      chosen Fit (has_bit STOP a) (λ _. at (WaitStop f falling.Clock) d h.where_in.found (running h e)) (λ _. fallen_fits f h e)
  stop_fits {r} {d} f falling.Clock a h e =
      chosen Fit (late a) (λ _. fails_fits (failure_of Timeout) h (unchecked_met g.chip true Timeout)) (λ _. at (WaitStop f falling.Control) d h.where_in.found (running h e))

  launch_fits : {r : Run} {d : Progress} (st : LaunchStage) (a : ℕ) → Here r d → starting g r d ≡ true → Fit (launch_start st d a)
  launch_fits {r} {d} launch.Control a h e =
      chosen Fit (has_bit START a) (λ _. waiting_fits Sb wait.Status h e) (λ _. at (LaunchStart launch.Status) d h.where_in.found (running h e))
  launch_fits {r} {d} launch.Status a h e =
      chosen Fit (not (has_bit SB a)) (λ _. at (LaunchStart launch.Read) d h.where_in.found (running h e)) (λ _. waiting_fits Sb wait.Status h e)
  launch_fits {r} {d} launch.Read a h e = at (LaunchStart launch.Write) (saves a d) h.where_in.found (running (saved a h) e)
  launch_fits launch.Write a h e = waiting_fits Sb wait.Status h e

  addressed_fits : {r : Run} {d : Progress} → Here r d → starting g r d ≡ true → Fit (addressed g r d)
  addressed_fits {r} {d} h e =
      chosen Fit d.reading
      (λ w. chosen Fit (eqb d.left 1 && stops_here g r)
      (λ t. one w (split (eqb d.left 1) (stops_here g r) t))
      (λ s. chosen Fit (eqb d.left 1 && g.frame.send_nack)
      (λ t. again w s (split (eqb d.left 1) g.frame.send_nack t))
      (λ _. reads_on_fits h w (λ _ l. sym (starting_facts r d e).1 ∙ l))))
      (λ w. sends_on_fits h w)
    where
      length_one : eqb d.left 1 ≡ true → eqb r.length 1 ≡ true
      length_one q = subst (λ (x : ℕ). eqb x 1 ≡ true) (starting_facts r d e).1 q

      one : d.reading ≡ true → (eqb d.left 1 ≡ true) × (stops_here g r ≡ true) → Fit (to (GenerateStop stop.One half.Read) d)
      one w t = at (GenerateStop stop.One half.Read) d h.where_in.found (running h (both_true (both_true w (both_true e (length_one t.0))) t.1))

      again : d.reading ≡ true → eqb d.left 1 && stops_here g r ≡ false → (eqb d.left 1 ≡ true) × (g.frame.send_nack ≡ true) → Fit (to (ReadIter reading.StartRead) d)
      again w s t =
          at (ReadIter reading.StartRead) d h.where_in.found
          (running h (both_true (both_true w (both_true e (length_one t.0))) (both_true t.1 (ap not (ap (λ (b : Bool). b && stops_here g r) (sym t.0) ∙ s)))))

  address_fits : {r : Run} {d : Progress} (st : AddressStage) (a : ℕ) → Here r d → starting g r d ≡ true → Fit (address_phase g r st d a)
  address_fits {r} {d} address.Control a h e =
      chosen Fit (has_bit START a) (λ _. fails_fits (failure_of Arbitration) h (unchecked_met g.chip true Arbitration)) (λ _. at (Address address.Master) d h.where_in.found (running h e))
  address_fits {r} {d} address.Master a h e =
      chosen Fit (not (has_bit MSL a)) (λ _. fails_fits (failure_of Arbitration) h (unchecked_met g.chip true Arbitration)) (λ _. at (Address address.Word) d h.where_in.found (running h e))
  address_fits address.Word a h e = waiting_fits Addr wait.Status h e
  address_fits address.Cleared a h e = addressed_fits h e

  recv_fits : {r : Run} {d : Progress} (st : RecvStage) (a : ℕ) → Here r d → receiving g r d ≡ true → Fit (recv_byte g r st d a)
  recv_fits {r} {d} recv.Status a h e =
      chosen Fit (not (has_bit RXNE a)) (λ _. waiting_fits Rxne wait.Clock h e) (λ _. at (RecvByte recv.Data) d h.where_in.found (running h e))
  recv_fits recv.Data a h e = received_fits h e

  -- a run of one byte goes on
  single_fits : {r : Run} {d : Progress} → Here r d → single g r d ≡ true → Fit (read_bytes g r d)
  single_fits {r} {d} h e =
      let p = split d.reading (starting g r d && eqb r.length 1) e in
      let q = split (starting g r d) (eqb r.length 1) p.1 in
      reads_on_fits h p.0 (λ _ _. eqb-true _ _ q.1)

  read_fits : {r : Run} {d : Progress} (st : ReadStage) (a : ℕ) → Here r d → fits_read g r st d ≡ true → Fit (blocking_read_iter g r st d a)
  read_fits {r} {d} reading.PosWrite a h e =
      let p = split d.reading (whole r d) e in
      let l : d.left ≡ r.length = eqb-true _ _ p.1 in
      chosen Fit g.frame.send_start
      (λ s. at (WaitStop fall.Start falling.Control) d h.where_in.found (running h (both_true s p.1)))
      (λ _. reads_on_fits h p.0 (λ _ o. sym l ∙ o))
  read_fits {r} {d} reading.AckRead a h e = at (ReadIter reading.AckWrite) (saves a d) h.where_in.found (running (saved a h) e)
  read_fits {r} {d} reading.AckWrite a h e =
      let p = split d.reading (starting g r d && (leb r.length 2 && g.frame.send_nack)) e in
      at (Address address.Cleared) d h.where_in.found (running h (split (starting g r d) (leb r.length 2 && g.frame.send_nack) p.1).0)
  read_fits {r} {d} reading.StartRead a h e = at (ReadIter reading.StartWrite) (saves a d) h.where_in.found (running (saved a h) e)
  read_fits {r} {d} reading.StartWrite a h e = single_fits h (split (single g r d) (g.frame.send_nack && not (stops_here g r)) e).0
  read_fits {r} {d} reading.NackRead a h e = at (ReadIter reading.NackWrite) (saves a d) h.where_in.found (running (saved a h) e)
  read_fits {r} {d} reading.NackWrite a h e = at (ReadIter reading.Third) d h.where_in.found (running h e)
  read_fits {r} {d} reading.Third a h e = less_fits (Wait Two wait.Status) 2 h e (λ b x. running b x)
  read_fits {r} {d} reading.AgainRead a h e = at (ReadIter reading.AgainWrite) (saves a d) h.where_in.found (running (saved a h) e)
  read_fits {r} {d} reading.AgainWrite a h e = at (ReadIter reading.SecondLast) d h.where_in.found (running h (split (last_ones g r 2 d) (not (stops_here g r)) e).0)
  read_fits {r} {d} reading.SecondLast a h e = less_fits (ReadIter reading.Last) 1 h e (λ b x. running b x)
  read_fits {r} {d} reading.Last a h e =
      let x = last_facts r d 1 e in
      finished_fits (byte_here h (omega (arith, x.1.1.0))) (ap pred x.1.1.0)
  read_fits {r} {d} reading.PosOffRead a h e = at (ReadIter reading.PosOffWrite) (saves a d) h.where_in.found (running (saved a h) e)
  read_fits {r} {d} reading.PosOffWrite a h e = ended_fits h (split d.reading (closing g r d) e).1

  generate_fits : {r : Run} {d : Progress} (k : StopFor) (st : Half) (a : ℕ) → Here r d → fits_stop g r k d ≡ true → Fit (generate_stop g r st k d a)
  generate_fits {r} {d} stop.Write half.Read a h e = at (GenerateStop stop.Write half.Write) (saves a d) h.where_in.found (running (saved a h) e)
  generate_fits {r} {d} stop.One half.Read a h e = at (GenerateStop stop.One half.Write) (saves a d) h.where_in.found (running (saved a h) e)
  generate_fits {r} {d} stop.Two half.Read a h e = at (GenerateStop stop.Two half.Write) (saves a d) h.where_in.found (running (saved a h) e)
  generate_fits {r} {d} stop.Write half.Write a h e = at (WaitStop fall.End falling.Control) d h.where_in.found (running h (split (not d.reading) (closing g r d) e).1)
  generate_fits {r} {d} stop.One half.Write a h e = single_fits h (split (single g r d) (stops_here g r) e).0
  generate_fits {r} {d} stop.Two half.Write a h e = at (ReadIter reading.SecondLast) d h.where_in.found (running h (split (last_ones g r 2 d) (stops_here g r) e).0)

  -- ---- the abort

  -- an error has been met, and the run's counts stay
  record Aborts (r : Run) (d : Progress) : Type 0 where
    found : run_at sh.runs d.run ≡ Some r
    stay : counts r d ≡ true
    failed : has_failed g.chip true d.ending ≡ true

  aborting : {r : Run} {d : Progress} (st : AbortStage) → Aborts r d → fits_abort g.chip st ≡ true → Fit (to (Abort st) d)
  aborting {r} {d} st h e = at (Abort st) d h.found (both_true h.stay (both_true h.failed e))

  abort_ends : {r : Run} {d : Progress} → Aborts r d → Fit (to Ended d)
  abort_ends {r} {d} h = at Ended d h.found (both_true h.stay (either_true (is_done d.ending && (eqb d.left 0 && not r.more)) h.failed))

  abort_saved : {r : Run} {d : Progress} (w : ℕ) → Aborts r d → Aborts r (saves w d)
  abort_saved w h = record { found = h.found; stay = h.stay; failed = h.failed }

  divider_saved : {r : Run} {d : Progress} (w : ℕ) → Aborts r d → Aborts r (saves_divider w d)
  divider_saved w h = record { found = h.found; stay = h.stay; failed = h.failed }

  rise_saved : {r : Run} {d : Progress} (w : ℕ) → Aborts r d → Aborts r (saves_rise w d)
  rise_saved w h = record { found = h.found; stay = h.stay; failed = h.failed }

  abort_fits : {r : Run} {d : Progress} (st : AbortStage) (a : ℕ) → Aborts r d → Fit (abort_transfer g.chip st d a)
  abort_fits abort.FinishRead a h = aborting abort.FinishWrite (abort_saved a h) refl
  abort_fits abort.FinishWrite a h = aborting abort.Control h refl
  abort_fits abort.Control a h = chosen Fit (has_bit START a || has_bit STOP a) (λ _. aborting abort.Frequency h refl) (λ _. aborting abort.Master h refl)
  abort_fits abort.Frequency a h = aborting abort.Divider (abort_saved a h) refl
  abort_fits abort.Divider a h =
      chosen Fit g.chip.i2c_v3 (λ v. aborting abort.Rise (divider_saved a h) v) (λ _. aborting abort.Reset (divider_saved a h) refl)
  abort_fits abort.Rise a h = aborting abort.Reset (rise_saved a h) refl
  abort_fits abort.Reset a h = aborting abort.Release h refl
  abort_fits abort.Release a h = aborting abort.PutFrequency h refl
  abort_fits abort.PutFrequency a h = aborting abort.PutDivider h refl
  abort_fits abort.PutDivider a h = chosen Fit g.chip.i2c_v3 (λ v. aborting abort.PutRise h v) (λ _. aborting abort.Enable h refl)
  abort_fits abort.PutRise a h = aborting abort.Enable h refl
  abort_fits abort.Enable a h = abort_ends h
  abort_fits abort.Master a h = chosen Fit (has_bit MSL a) (λ _. aborting abort.StopRead h refl) (λ _. abort_ends h)
  abort_fits abort.StopRead a h = aborting abort.StopWrite (abort_saved a h) refl
  abort_fits abort.StopWrite a h = abort_ends h

  -- ---- a run begins

  begun_here : {r : Run} (d : Progress) → run_at sh.runs d.run ≡ Some r → is_done d.ending ≡ true → Here r (begun r d)
  begun_here {r} d f e = record { where_in = record { found = f; same = refl; within = omega arith; rest = refl }; unfailed = e }

  begins_fits : {r : Run} (d : Progress) (a : ℕ) → run_at sh.runs d.run ≡ Some r → is_done d.ending ≡ true → is_read r.direction || g.frame.send_start ≡ true
      → Fit (begins (begun r d) a)
  begins_fits {r} d a f e q =
      let h = begun_here d f e in
      chosen Fit (is_read r.direction)
      (λ w. at (ReadIter reading.PosWrite) (saves a (begun r d)) f (running (saved a h) (both_true w (eq-eqb r.length r.length refl))))
      (λ w. stop_fits fall.Start falling.Control a h (both_true (ap (λ (b : Bool). b || g.frame.send_start) (sym w) ∙ q) (eq-eqb r.length r.length refl)))

  kept_at : (r : Run) (st : Stage) (d : Progress) (a : ℕ) → run_at sh.runs d.run ≡ Some r → fits_at g r st d ≡ true → Fit (advance_at g r st d a)
  kept_at r Begin d a f e =
      let p = split (untouched d) (is_done d.ending && (is_read r.direction || g.frame.send_start)) e in
      let q = split (is_done d.ending) (is_read r.direction || g.frame.send_start) p.1 in
      begins_fits d a f q.0 q.1
  kept_at r (WaitStop x st) d a f e =
      let h = here (fits_fall g r x d) f e in
      stop_fits x st a h.0 h.1
  kept_at r (LaunchStart st) d a f e =
      let h = here (starting g r d) f e in
      launch_fits st a h.0 h.1
  kept_at r (Wait x st) d a f e =
      let h = here (fits_wait g r x d) f e in
      waits_fits x st a h.0 h.1
  kept_at r (Address st) d a f e =
      let h = here (starting g r d) f e in
      address_fits st a h.0 h.1
  kept_at r SendByte d a f e =
      let h = here (sending d) f e in
      waiting_fits Sent wait.Status h.0 h.1
  kept_at r (RecvByte st) d a f e =
      let h = here (receiving g r d) f e in
      recv_fits st a h.0 h.1
  kept_at r (ReadIter st) d a f e =
      let h = here (fits_read g r st d) f e in
      read_fits st a h.0 h.1
  kept_at r (GenerateStop k st) d a f e =
      let h = here (fits_stop g r k d) f e in
      generate_fits k st a h.0 h.1
  kept_at r (Abort st) d a f e =
      let p = split (counts r d) (has_failed g.chip true d.ending && fits_abort g.chip st) e in
      abort_fits st a (record { found = f; stay = p.0; failed = (split (has_failed g.chip true d.ending) (fits_abort g.chip st) p.1).0 })
  kept_at r Ended d a f e = at Ended d f e

  -- a state without a run is that of an empty list, which has ended
  kept_nothing : (st : Stage) (d : Progress) (a : ℕ) → run_at sh.runs d.run ≡ None → fits_nothing st d ≡ true → Fit (advance_at g (found_run None) st d a)
  unfolding fits
  kept_nothing Begin d a f e = absurd (true≢false (sym e))
  kept_nothing (WaitStop x st) d a f e = absurd (true≢false (sym e))
  kept_nothing (LaunchStart st) d a f e = absurd (true≢false (sym e))
  kept_nothing (Wait x st) d a f e = absurd (true≢false (sym e))
  kept_nothing (Address st) d a f e = absurd (true≢false (sym e))
  kept_nothing SendByte d a f e = absurd (true≢false (sym e))
  kept_nothing (RecvByte st) d a f e = absurd (true≢false (sym e))
  kept_nothing (ReadIter st) d a f e = absurd (true≢false (sym e))
  kept_nothing (GenerateStop k st) d a f e = absurd (true≢false (sym e))
  kept_nothing (Abort st) d a f e = absurd (true≢false (sym e))
  kept_nothing Ended d a f e = ap (λ x. fits_found g x Ended d) f ∙ e

  pub fits_kept : (m : Move) (a : ℕ) → fits sh m ≡ true → fits sh (advance sh m a) ≡ true
  unfolding fits advance
  fits_kept m a e = go (run_at sh.runs m.progress.run) refl e
    where
      go : (x : Option Run) → run_at sh.runs m.progress.run ≡ x → fits_found g x m.stage m.progress ≡ true → Fit (advance_at g (found_run x) m.stage m.progress a)
      go (Some r) f e = kept_at r m.stage m.progress a f e
      go None f e = kept_nothing m.stage m.progress a f e

  -- ---- the start

  run_starts : (r : Run) → run_at sh.runs 0 ≡ Some r → Fit (begins_at g r)
  run_starts r f = chosen Fit (is_read r.direction || g.frame.send_start) begins_run sends_at_once
    where
      begins_run : is_read r.direction || g.frame.send_start ≡ true → Fit (to Begin fresh)
      begins_run q = at Begin fresh f q

      sends_at_once : is_read r.direction || g.frame.send_start ≡ false → Fit (write_bytes_move g r (begun r fresh))
      sends_at_once q = sends_on_fits (begun_here fresh f refl) (first_false (is_read r.direction) g.frame.send_start q)

  -- a call begins with a state that fits
  pub fits_start : fits sh (start sh) ≡ true
  unfolding fits
  fits_start = go (run_at sh.runs 0) refl
    where
      go : (x : Option Run) → run_at sh.runs 0 ≡ x → Fit (start_with g x)
      go (Some r) f = run_starts r f
      go None f = ap (λ x. fits_found g x Ended fresh) f
