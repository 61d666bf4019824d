-- Each function of the Rust agrees with its stages of the machine.
-- Assumes nothing.
use mathlib.Core.Path.{◌≡◌, refl, sym, ap, ◌∙◌, subst}
use mathlib.Core.Bool.{Bool, true, false, cond, not, ◌&&◌, ◌||◌, true≢false}
use mathlib.Core.List.{List, [], ◌∷◌, ◌++◌}
use Prim.Native.Nat.{ℕ, zero, suc, ◌+◌, ◌≤◌, ◌<◌}
use native.Mathlib.Nat.{add-zero, add-suc, suc-add}
use native.Mathlib.Numerals.{add-one, add-two, add-three}
use native.Mathlib.Omega.{arith}
use borrow.Author.Tests.{ne_eqb, not-false, eqb-true}
use lib.Dec.{eqb, leb, ltb, eqb-suc-zero}
use lib.ListN.{length, get_or, drop}
use Rattle.std.specs.Prelude.{Option, Some, None, Err}
use Rattle.registers.specs.declared.register.Register.TheVariants.{Ctlr1, Ctlr2, Datar, Star1, Star2, Ckcfgr, Rtr}
use Rattle.registers.specs.Bits.{PE, START, STOP, ACK, POS, SWRST, SB, ADDR, BTF, RXNE, TXE, MSL}
use Rattle.registers.specs.Fields.{FREQ, DATA}
use Rattle.registers.specs.Word.{has_bit, put_bit, field_of, put_field}
use Rattle.registers.specs.Flags.{error_flags}
use Rattle.registers.specs.Addresses.{address_word}
use Rattle.registers.proofs.TransferLaws.{transfer_off}
use Rattle.access.specs.declared.ending.Error.TheVariants.{Arbitration, Timeout}
use Rattle.access.specs.declared.ending.Failure.{Failure}
use Rattle.access.specs.declared.need.Need.TheVariants as need
use Rattle.access.specs.Endings.{failure_of}
use Rattle.access.specs.Program.{Program, finish, access, keep, read, write, clock, spin, late, check_timeout, for_each}
use Rattle.access.proofs.Agreement.{Agree, no_answers, weaken, ends, reads_first, reads, writes, asks, sends, keeps, cases, cases_with, both_false, passes, along, program_is}
use Rattle.errors.specs.Classes.{error_of, decided}
use Rattle.errors.specs.Check.{check_errors}
use Rattle.errors.proofs.ClassLaws.{no_flags}
use Rattle.operations.specs.declared.search.Run.{Run}
use Rattle.master.specs.declared.call.Frame.{Frame}
use Rattle.master.specs.declared.stage.Fall.{Fall}
use Rattle.master.specs.declared.stage.Fall.TheVariants as fall
use Rattle.master.specs.declared.stage.FallStage.TheVariants as falling
use Rattle.master.specs.declared.stage.LaunchStage.TheVariants as launch
use Rattle.master.specs.declared.stage.Flag.{Flag}
use Rattle.master.specs.declared.stage.Flag.TheVariants.{Sb, Addr, Txe, Sent, Three, Two, Rxne}
use Rattle.master.specs.declared.stage.WaitStage.TheVariants as wait
use Rattle.master.specs.declared.stage.AddressStage.TheVariants as address
use Rattle.master.specs.declared.stage.RecvStage.TheVariants as recv
use Rattle.master.specs.declared.stage.ReadStage.TheVariants as reading
use Rattle.master.specs.declared.stage.AbortStage.TheVariants as abort
use Rattle.master.specs.declared.stage.Stage.TheVariants.{Begin, WaitStop, LaunchStart, Wait, Address, RecvByte, ReadIter, Abort, Ended}
use Rattle.master.specs.declared.state.Progress.{Progress}
use Rattle.master.specs.declared.state.Move.{Move}
use Rattle.master.specs.Rust as text
use Rattle.master.specs.Rust.{generate_stop, finish_transfer, abort_transfer, validate_address, wait_stop_finished, launch_start}
use Rattle.master.specs.Ours.{check_and_clear_error_flags, wait_flag, send_byte, write_bytes, recv_next, take_next, recv_all, recv_above_3, blocking_read_iter}
use Rattle.master.specs.Machine.{to, saves, saves_divider, saves_rise, ends_with, counted, begun, fails, is_set, stops_here, continues, finished, write_bytes_move, read_bytes, waited, tests, fallen, begins, Shape, run_of, owed, advance, master}
use Rattle.master.proofs.Counts.{next_place}

-- the first of what is left of a list, what follows it, and that it is there
pub head_of : (l : List ℕ) (i x : ℕ) (r : List ℕ) → drop i l ≡ x ∷ r → get_or l i 0 ≡ x
head_of [] zero x r q = cc
head_of [] (suc i) x r q = cc
head_of (y ∷ l) zero x r q = cc
head_of (y ∷ l) (suc i) x r q = head_of l i x r q

pub tail_of : (l : List ℕ) (i x : ℕ) (r : List ℕ) → drop i l ≡ x ∷ r → drop (suc i) l ≡ r
tail_of [] zero x r q = cc
tail_of [] (suc i) x r q = cc
tail_of (y ∷ l) zero x r q = cc
tail_of (y ∷ l) (suc i) x r q = tail_of l i x r q

pub below_of : (l : List ℕ) (i x : ℕ) (r : List ℕ) → drop i l ≡ x ∷ r → i < length l
below_of [] zero x r q = let z : ◌≡◌ {A = ℕ} 0 1 = cc in absurd (omega arith)
below_of [] (suc i) x r q = let z : ◌≡◌ {A = ℕ} 0 1 = cc in absurd (omega arith)
below_of (y ∷ l) zero x r q = omega arith
below_of (y ∷ l) (suc i) x r q = omega (arith, below_of l i x r q)

module _ (sh : Shape) (bytes : List ℕ) where
  abbrev chip : Rattle.registers.specs.declared.chip.Chip.Chip
  chip = sh.setting.chip

  abbrev Ag : ℕ → ℕ → Program → Move → Type 0
  Ag n at p m = Agree (master sh) bytes n at p m

  -- the run that a progress is in
  abbrev run : Progress → Run
  run d = run_of sh d.run

  -- after an error the abort agrees, wherever it was met
  abbrev pub Handles : ℕ → (Failure → Program) → Type 0
  Handles n h = (at : ℕ) (x : Failure) (d : Progress) → Ag n at (h x) (fails x d)

  fewer : {n : ℕ} {h : Failure → Program} → Handles (suc n) h → Handles n h
  fewer H = λ at x d. weaken (H at x d)

  -- ---- abort_transfer

  -- the second half of a reset
  reset_agrees : (n at : ℕ) (d : Progress) (x : Failure)
      → Ag n at
      (access (write Ctlr1 (put_bit SWRST true 0)) (λ _. access (write Ctlr1 (put_bit SWRST false 0)) (λ _. access (write Ctlr2 (put_field FREQ (field_of FREQ d.word) 0)) (λ _.
      access (write Ckcfgr d.divider) (λ _. cond chip.i2c_v3
      (access (write Rtr d.rise) (λ _. access (write Ctlr1 (put_bit PE true 0)) (λ _. finish (Err x))))
      (access (write Ctlr1 (put_bit PE true 0)) (λ _. finish (Err x))))))))
      (to (Abort abort.Reset) (ends_with (Err x) d))
  unfolding owed advance
  reset_agrees n at d x =
      writes refl (λ _. writes refl (λ _. writes refl (λ _. writes refl (λ _. cases chip.i2c_v3
      (writes refl (λ _. writes refl (λ _. ends (Err x) refl)))
      (writes refl (λ _. ends (Err x) refl))))))

  pub abort_transfer_agrees : (n at : ℕ) (x : Failure) (h : Failure → Program) (d : Progress)
      → Ag n at (abort_transfer chip n h (λ _. finish (Err x))) (fails x d)
  unfolding abort_transfer finish_transfer generate_stop owed advance
  abort_transfer_agrees n at x h d =
      reads refl (λ a. writes (ap (need.Write Ctlr2) (sym (transfer_off a))) (λ _. reads refl (λ c. cases (has_bit START c || has_bit STOP c)
      (reads refl (λ f. reads refl (λ v. cases_with chip.i2c_v3
      (λ _. reads refl (λ r. reset_agrees n at (saves_rise r (saves_divider v (saves f d))) x))
      (λ absent. without_rise n f v absent))))
      (reads refl (λ m. cases (has_bit MSL m)
      (reads refl (λ w. writes refl (λ _. ends (Err x) refl)))
      (ends (Err x) refl))))))
    where
      -- without i2c_v3 no rise time is kept
      without_rise : (n f v : ℕ) → chip.i2c_v3 ≡ false
          → Ag n at
          (access (write Ctlr1 (put_bit SWRST true 0)) (λ _. access (write Ctlr1 (put_bit SWRST false 0)) (λ _. access (write Ctlr2 (put_field FREQ (field_of FREQ f) 0)) (λ _.
          access (write Ckcfgr v) (λ _. cond chip.i2c_v3
          (access (write Rtr 0) (λ _. access (write Ctlr1 (put_bit PE true 0)) (λ _. finish (Err x))))
          (access (write Ctlr1 (put_bit PE true 0)) (λ _. finish (Err x))))))))
          (to (Abort abort.Reset) (saves_divider v (saves f (ends_with (Err x) d))))
      without_rise n f v absent =
          writes refl (λ _. writes refl (λ _. writes refl (λ _. writes refl (λ _. both_false _ _ absent (writes refl (λ _. ends (Err x) refl))))))

  -- ---- wait_stop_finished

  stop_turns : (m at : ℕ) (f : Fall) (h : Failure → Program) (k : Program) (d : Progress) → Handles m h → Ag m at k (fallen f d)
      → Ag m at (spin m (λ again. access (read Ctlr1) (λ a. cond (has_bit STOP a) (access clock (λ t. cond (late t) (h (failure_of Timeout)) again)) k))) (to (WaitStop f falling.Control) d)
  unfolding owed advance
  stop_turns zero at f h k d H K = no_answers
  stop_turns (suc m) at f h k d H K =
      reads_first refl (λ a. cases (has_bit STOP a)
      (asks refl (λ t. cases (late t) (weaken (H at (failure_of Timeout) d)) (stop_turns m at f h k d (fewer H) (weaken K))))
      (weaken K))

  pub wait_stop_finished_agrees : (n at : ℕ) (f : Fall) (h : Failure → Program) (k : Unit {0} → Program) (d : Progress) → Handles n h
      → Ag n at (k tt) (fallen f d) → Ag n at (wait_stop_finished chip n h k) (to (WaitStop f falling.Control) d)
  unfolding wait_stop_finished check_timeout
  wait_stop_finished_agrees n at f h k d H K = stop_turns n at f h (k tt) d H K

  -- the same from the first access of a write run
  begin_stop_agrees : (n at l p : ℕ) (h : Failure → Program) (k : Unit {0} → Program) (d : Progress) → begun (run d) d ≡ counted false l p d → Handles n h
      → Ag n at (k tt) (to (LaunchStart launch.Control) (counted false l p d)) → Ag n at (wait_stop_finished chip n h k) (to Begin d)
  unfolding wait_stop_finished check_timeout owed advance
  begin_stop_agrees zero at l p h k d q H K = no_answers
  begin_stop_agrees (suc m) at l p h k d q H K =
      reads_first refl (λ a. along (ap (λ x. begins x a) (sym q)) (cases (has_bit STOP a)
      (asks refl (λ t. cases (late t) (weaken (H at (failure_of Timeout) (counted false l p d))) (stop_turns m at fall.Start h (k tt) (counted false l p d) (fewer H) (weaken K))))
      (weaken K)))

  -- ---- launch_start, from the place where STOP has fallen

  launch_start_agrees : (n at : ℕ) (h : Failure → Program) (k : Unit {0} → Program) (d : Progress) → ((v : ℕ) → Ag n at (k tt) (to (Wait Sb wait.Status) (saves v d)))
      → Ag n at
      (access (read Ctlr1) (λ a. cond (has_bit START a) (k tt) (access (read Star1) (λ b. cond (not (has_bit SB b))
      (access (read Ctlr1) (λ w. access (write Ctlr1 (cond d.reading (put_bit ACK true (put_bit START true w)) (put_bit START true w))) (λ _. k tt)))
      (k tt)))))
      (to (LaunchStart launch.Control) d)
  unfolding owed advance
  launch_start_agrees n at h k d K =
      reads refl (λ a. cases (has_bit START a) (K d.word)
      (reads refl (λ b. cases (not (has_bit SB b)) (reads refl (λ w. writes refl (λ _. K w))) (K d.word))))

  -- ---- check_and_clear_error_flags

  judged_agrees : (n at : ℕ) (c : Option Failure) (h : Failure → Program) (p : Program) (d : Progress) (m : Move) → Handles n h → Ag n at p m
      → Ag n at (decided c h p) (decided c (λ x. fails x d) m)
  judged_agrees n at (Some x) h p d m H K = H at x d
  judged_agrees n at None h p d m H K = K

  pub check_and_clear_error_flags_agrees : (m n at : ℕ) (f : Flag) (h : Failure → Program) (k : ℕ → Program) (d : Progress) → Handles m h
      → ((a v : ℕ) → Ag m at (k a) (tests sh.setting (run d) f (saves v d) a))
      → Ag (suc m) at (check_and_clear_error_flags chip n h k) (to (Wait f wait.Status) d)
  unfolding check_and_clear_error_flags check_errors owed advance
  check_and_clear_error_flags_agrees m n at f h k d H K =
      reads_first refl (λ a. cases_with (not (eqb (error_flags a) 0))
      (λ _. writes refl (λ _. judged_agrees m at (error_of chip true a) h (k a) (saves a d) _ H (K a a)))
      (λ clear. program_is (ap (λ c. decided c h (k a)) (no_flags chip true a (eqb-true _ _ (not-false _ clear)))) (K a d.word)))

  -- ---- the waits

  flag_turns : (m n at bit : ℕ) (f : Flag) → ((w : ℕ) → is_set f w ≡ has_bit bit w) → (h : Failure → Program) (k : Program) (d : Progress) → Handles m h
      → ((v : ℕ) → Ag m at k (waited sh.setting (run d) f (saves v d)))
      → Ag m at (spin m (λ again. check_and_clear_error_flags chip n h (λ a. cond (not (has_bit bit a)) (access clock (λ t. cond (late t) (h (failure_of Timeout)) again)) k))) (to (Wait f wait.Status) d)
  unfolding owed advance
  flag_turns zero n at bit f same h k d H K = no_answers
  flag_turns (suc m) n at bit f same h k d H K =
      check_and_clear_error_flags_agrees m n at f h _ d (fewer H) (λ a v. along (ap (λ b. cond (not b) (to (Wait f wait.Clock) (saves v d)) (waited sh.setting (run d) f (saves v d))) (sym (same a)))
      (cases (not (has_bit bit a))
      (asks refl (λ t. cases (late t) (weaken (H at (failure_of Timeout) (saves v d)))
      (flag_turns m n at bit f same h k (saves v d) (fewer H) (λ u. weaken (K u)))))
      (weaken (K v))))

  pub wait_flag_agrees : (n at bit : ℕ) (f : Flag) → ((w : ℕ) → is_set f w ≡ has_bit bit w) → (h : Failure → Program) (k : Unit {0} → Program) (d : Progress) → Handles n h
      → ((v : ℕ) → Ag n at (k tt) (waited sh.setting (run d) f (saves v d))) → Ag n at (wait_flag chip bit n h k) (to (Wait f wait.Status) d)
  unfolding text.wait_flag check_timeout
  wait_flag_agrees n at bit f same h k d H K = flag_turns n n at bit f same h (k tt) d H K

  -- ---- from START to ADDR

  -- once START is asked
  started : ℕ → (Failure → Program) → (Unit {0} → Program) → Bool → Program
  started n h k read_run =
      wait_flag chip SB n h (λ _. access (read Ctlr1) (λ a. cond (has_bit START a) (h (failure_of Arbitration))
      (access (read Star2) (λ b. cond (not (has_bit MSL b)) (h (failure_of Arbitration))
      (access (write Datar (address_word sh.setting.address read_run)) (λ _. wait_flag chip ADDR n h k))))))

  -- once STOP has fallen
  start_and_address_agrees : (n at : ℕ) (h : Failure → Program) (k : Unit {0} → Program) (d : Progress) → Handles n h → ((v : ℕ) → Ag n at (k tt) (waited sh.setting (run d) Addr (saves v d)))
      → Ag n at
      (access (read Ctlr1) (λ a. cond (has_bit START a) (started n h k d.reading) (access (read Star1) (λ b. cond (not (has_bit SB b))
      (access (read Ctlr1) (λ w. access (write Ctlr1 (cond d.reading (put_bit ACK true (put_bit START true w)) (put_bit START true w))) (λ _. started n h k d.reading)))
      (started n h k d.reading)))))
      (to (LaunchStart launch.Control) d)
  unfolding started owed advance
  start_and_address_agrees n at h k d H K =
      launch_start_agrees n at h (λ _. started n h k d.reading) d (λ v. wait_flag_agrees n at SB Sb (λ w. refl) h _ (saves v d) H (λ v. reads refl (λ a. cases (has_bit START a) (H at (failure_of Arbitration) (saves v d))
      (reads refl (λ b. cases (not (has_bit MSL b)) (H at (failure_of Arbitration) (saves v d))
      (writes refl (λ _. wait_flag_agrees n at ADDR Addr (λ w. refl) h k (saves v d) H K)))))))

  -- ---- write_bytes

  -- the byte at the place p, l more to come
  pub send_byte_agrees : (n at b l p : ℕ) (h : Failure → Program) (k : Unit {0} → Program) (d : Progress) → get_or bytes p 0 ≡ b → p < 65535 → Handles n h
      → ((v : ℕ) → Ag n at (k tt) (write_bytes_move sh.setting (run d) (counted false l (suc p) (saves v d))))
      → Ag n at (send_byte chip b n h k) (to (Wait Txe wait.Status) (counted false (suc l) p d))
  unfolding text.send_byte owed advance
  send_byte_agrees n at b l p h k d q low H K =
      wait_flag_agrees n at TXE Txe (λ w. refl) h _ (counted false (suc l) p d) H (λ v. sends p refl q
      (λ _. wait_flag_agrees n at BTF Sent (λ w. refl) h _ (counted false (suc l) p (saves v d)) H (λ u.
      along (ap (λ (x : ℕ). write_bytes_move sh.setting (run d) (counted false l x (saves u d))) (sym (next_place p low))) (K u))))

  -- the bytes of a write run; `tail` is what later runs write
  bytes_agree : (n at : ℕ) (h : Failure → Program) (k : Unit {0} → Program) (bs tail : List ℕ) (p : ℕ) (d : Progress) → length bytes ≤ 65535 → drop p bytes ≡ bs ++ tail → Handles n h
      → ((v q : ℕ) → drop q bytes ≡ tail → Ag n at (k tt) (finished sh.setting (run d) (counted false 0 q (saves v d))))
      → Ag n at (for_each bs (send_byte chip) n h k) (write_bytes_move sh.setting (run d) (counted false (length bs) p d))
  bytes_agree n at h k [] tail p d short q H K = K d.word p q
  bytes_agree n at h k (b ∷ bs) tail p d short q H K =
      along (ap (λ (t : Bool). cond t (finished sh.setting (run d) (counted false (suc (length bs)) p d)) (to (Wait Txe wait.Status) (counted false (suc (length bs)) p d))) (sym (eqb-suc-zero (length bs))))
      (send_byte_agrees n at b (length bs) p h _ d (head_of bytes p b (bs ++ tail) q) (omega (arith, below_of bytes p b (bs ++ tail) q)) H
      (λ u. bytes_agree n at h k bs tail (suc p) (saves u d) short (tail_of bytes p b (bs ++ tail) q) H K))

  -- where STOP is asked there is no other run
  stops_last : (r : Run) → stops_here sh.setting r ≡ true → (d : Progress) → continues r d ≡ to Ended d
  stops_last r e d = go r.more refl
    where
      go : (b : Bool) → r.more ≡ b → continues r d ≡ to Ended d
      go true q = absurd (true≢false (sym (ap (λ (b : Bool). cond b false sh.setting.frame.send_stop) (sym q) ∙ e)))
      go false q = rw q

  close_write_agrees : (n at q : ℕ) (h : Failure → Program) (k : Unit {0} → Program) (d : Progress) → Handles n h
      → ((v : ℕ) → Ag n at (k tt) (continues (run d) (counted false 0 q (saves v d))))
      → Ag n at (cond (stops_here sh.setting (run d)) (access (read Ctlr1) (λ w. access (write Ctlr1 (put_bit STOP true w)) (λ _. wait_stop_finished chip n h k))) (k tt))
      (finished sh.setting (run d) (counted false 0 q d))
  unfolding owed advance
  close_write_agrees n at q h k d H K =
      cases_with (stops_here sh.setting (run d))
      (λ e. reads refl (λ w. writes refl (λ _. wait_stop_finished_agrees n at fall.End h k (counted false 0 q (saves w d)) H (along (stops_last (run d) e (counted false 0 q (saves w d))) (K w)))))
      (λ _. K d.word)

  -- the frame of a run: START as the call asks it, STOP at the last run alone
  abbrev pub frame_in : Progress → Frame
  frame_in d = record { send_start = sh.setting.frame.send_start; send_stop = stops_here sh.setting (run d); send_nack = sh.setting.frame.send_nack }

  pub write_bytes_agrees : ltb 0x7f sh.setting.address ≡ false → (n at : ℕ) (k : Unit {0} → Program) (bs tail : List ℕ) (p : ℕ) (d : Progress)
      → begun (run d) d ≡ counted false (length bs) p d → length bytes ≤ 65535 → drop p bytes ≡ bs ++ tail
      → ((v q : ℕ) → drop q bytes ≡ tail → Ag n at (k tt) (continues (run d) (counted false 0 q (saves v d))))
      → Ag n at (write_bytes chip sh.setting.address bs (frame_in d) n (λ x. finish (Err x)) k)
      (cond sh.setting.frame.send_start (to Begin d) (write_bytes_move sh.setting (run d) (counted false (length bs) p d)))
  unfolding text.write_bytes validate_address text.start_and_address launch_start started owed advance
  write_bytes_agrees ok n at k bs tail p d q short e K =
      passes _ ok (cases sh.setting.frame.send_start
      (begin_stop_agrees n at (length bs) p h _ d q H (start_and_address_agrees n at h _ (counted false (length bs) p d) H (λ v. reads refl (λ _. bytes_agree n at h _ bs tail p (saves v d) short e H close))))
      (bytes_agree n at h _ bs tail p d short e H close))
    where
      h : Failure → Program
      h x = abort_transfer chip n (λ x. finish (Err x)) (λ _. finish (Err x))

      H : Handles n h
      H at x d = abort_transfer_agrees n at x (λ x. finish (Err x)) d

      close : (v q : ℕ) → drop q bytes ≡ tail
          → Ag n at (cond (stops_here sh.setting (run d)) (access (read Ctlr1) (λ w. access (write Ctlr1 (put_bit STOP true w)) (λ _. wait_stop_finished chip n h k))) (k tt))
          (finished sh.setting (run d) (counted false 0 q (saves v d)))
      close v q t = close_write_agrees n at q h k (saves v d) H (λ v. K v q t)

  -- ---- recv_byte

  rx_turns : (m n at : ℕ) (h : Failure → Program) (k : Program) (d : Progress) → Handles m h → ((v : ℕ) → Ag m at k (to (RecvByte recv.Data) (saves v d)))
      → Ag m at (spin m (λ again. check_and_clear_error_flags chip n h (λ _. access (read Star1) (λ a. cond (not (has_bit RXNE a)) (access clock (λ t. cond (late t) (h (failure_of Timeout)) again)) k))))
      (to (Wait Rxne wait.Status) d)
  unfolding owed advance
  rx_turns zero n at h k d H K = no_answers
  rx_turns (suc m) n at h k d H K =
      check_and_clear_error_flags_agrees m n at Rxne h _ d (fewer H) (λ _ v. reads refl (λ a. cases (not (has_bit RXNE a))
      (asks refl (λ t. cases (late t) (weaken (H at (failure_of Timeout) (saves v d)))
      (rx_turns m n at h k (saves v d) (fewer H) (λ u. weaken (K u)))))
      (weaken (K v))))

  -- a byte at the place `at`, l more to come
  pub recv_next_agrees : (n at l : ℕ) (h : Failure → Program) (k : Unit {0} → Program) (d : Progress) → at < 65535 → Handles n h
      → ((v : ℕ) → Ag n (suc at) (k tt) (read_bytes sh.setting (run d) (counted true l (suc at) (saves v d))))
      → Ag n at (recv_next chip n h k) (to (Wait Rxne wait.Status) (counted true (suc l) at d))
  unfolding text.recv_next text.recv_byte check_timeout owed advance
  recv_next_agrees n at l h k d low H K =
      rx_turns n n at h (access (read Datar) (λ a. keep (field_of DATA a) (k tt))) (counted true (suc l) at d) H (λ v. keeps refl (λ _.
      along (ap (λ (x : ℕ). read_bytes sh.setting (run d) (counted true l x (saves v d))) (sym (next_place at low))) (K v)))

  -- ---- blocking_read_iter

  -- which wait a read goes on with
  module _ (at : ℕ) (d : Progress) where
    wait_plain : sh.setting.frame.send_nack ≡ false → (l : ℕ) → read_bytes sh.setting (run d) (counted true (suc l) at d) ≡ to (Wait Rxne wait.Status) (counted true (suc l) at d)
    wait_plain q l = rw (eqb-suc-zero l, q)

    wait_one : sh.setting.frame.send_nack ≡ true → read_bytes sh.setting (run d) (counted true 1 at d) ≡ to (Wait Rxne wait.Status) (counted true 1 at d)
    wait_one q = rw q

    wait_two : sh.setting.frame.send_nack ≡ true → read_bytes sh.setting (run d) (counted true 2 at d) ≡ to (Wait Two wait.Status) (counted true 2 at d)
    wait_two q = rw q

    wait_three : sh.setting.frame.send_nack ≡ true → read_bytes sh.setting (run d) (counted true 3 at d) ≡ to (Wait Three wait.Status) (counted true 3 at d)
    wait_three q = rw q

    wait_many : sh.setting.frame.send_nack ≡ true → (l : ℕ)
        → read_bytes sh.setting (run d) (counted true (suc (suc (suc (suc l)))) at d) ≡ to (Wait Rxne wait.Status) (counted true (suc (suc (suc (suc l)))) at d)
    wait_many q l =
        rw (q, ne_eqb (suc (suc (suc (suc l)))) 0 (λ e. omega arith), ne_eqb (suc (suc (suc (suc l)))) 2 (λ e. omega arith), ne_eqb (suc (suc (suc (suc l)))) 3 (λ e. omega arith))

  -- the bytes of a read run without NACK
  plain_agrees : sh.setting.frame.send_nack ≡ false → (n at : ℕ) (h : Failure → Program) (k : Unit {0} → Program) (l : ℕ) (d : Progress) → at + l ≤ 65535 → Handles n h
      → ((v : ℕ) → Ag n (at + l) (k tt) (finished sh.setting (run d) (counted true 0 (at + l) (saves v d))))
      → Ag n at (recv_all chip l n h k) (read_bytes sh.setting (run d) (counted true l at d))
  unfolding text.recv_all
  plain_agrees q n at h k zero d low H K = subst (λ (x : ℕ). Ag n x (k tt) (finished sh.setting (run d) (counted true 0 x d))) (add-zero at) (K d.word)
  plain_agrees q n at h k (suc l) d low H K =
      along (sym (wait_plain at d q l))
      (recv_next_agrees n at l h _ d (omega arith) H (λ v. plain_agrees q n (suc at) h k l (saves v d) (omega arith) H
      (λ u. subst (λ (x : ℕ). Ag n x (k tt) (finished sh.setting (run d) (counted true 0 x (saves u d)))) (add-suc at l ∙ sym (suc-add at l)) (K u))))

  -- the last two bytes, from the wait for BTF on
  abbrev last_two : Bool → ℕ → (Failure → Program) → (Unit {0} → Program) → Program
  last_two b n h k =
      cond b
      (generate_stop chip n h (λ _. take_next chip n h (λ _. take_next chip n h k)))
      (access (read Ctlr1) (λ w. access (write Ctlr1 (put_bit START true w)) (λ _. take_next chip n h (λ _. take_next chip n h k))))

  two_agrees : (n at : ℕ) (h : Failure → Program) (k : Unit {0} → Program) (d : Progress) → at + 2 ≤ 65535 → Handles n h
      → ((v : ℕ) → Ag n (suc (suc at)) (k tt) (finished sh.setting (run d) (counted true 0 (suc (suc at)) (saves v d))))
      → Ag n at (wait_flag chip BTF n h (λ _. last_two (stops_here sh.setting (run d)) n h k)) (to (Wait Two wait.Status) (counted true 2 at d))
  unfolding generate_stop text.take_next owed advance
  two_agrees n at h k d low H K =
      wait_flag_agrees n at BTF Two (λ w. refl) h _ (counted true 2 at d) H (λ v. cases (stops_here sh.setting (run d))
      (reads refl (λ w. writes refl (λ _. both w)))
      (reads refl (λ w. writes refl (λ _. both w))))
    where
      both : (w : ℕ) → Ag n at (access (read Datar) (λ a. keep (field_of DATA a) (access (read Datar) (λ b. keep (field_of DATA b) (k tt))))) (to (ReadIter reading.SecondLast) (counted true 2 at (saves w d)))
      both w =
          keeps refl (λ _. along (ap (λ (x : ℕ). to (ReadIter reading.Last) (counted true 1 x (saves w d))) (sym (next_place at (omega arith))))
          (keeps refl (λ _. along (ap (λ (x : ℕ). finished sh.setting (run d) (counted true 0 x (saves w d))) (sym (next_place (suc at) (omega arith)))) (K w))))

  -- from the wait for BTF on, with three bytes left or two
  abbrev from_three : Bool → ℕ → (Failure → Program) → (Unit {0} → Program) → ℕ → Program
  from_three b n h k r =
      wait_flag chip BTF n h (λ _. cond (eqb r 3)
      (access (read Ctlr1) (λ w. access (write Ctlr1 (put_bit ACK false w)) (λ _. take_next chip n h (λ _. wait_flag chip BTF n h (λ _. last_two b n h k)))))
      (last_two b n h k))

  -- two bytes or more
  above_agrees : sh.setting.frame.send_nack ≡ true → (n at : ℕ) (h : Failure → Program) (k : Unit {0} → Program) (m : ℕ) (d : Progress) → at + suc (suc m) ≤ 65535 → Handles n h
      → ((v : ℕ) → Ag n (at + suc (suc m)) (k tt) (finished sh.setting (run d) (counted true 0 (at + suc (suc m)) (saves v d))))
      → Ag n at (recv_above_3 chip (suc (suc m)) n h (from_three (stops_here sh.setting (run d)) n h k)) (read_bytes sh.setting (run d) (counted true (suc (suc m)) at d))
  unfolding text.recv_above_3 text.take_next owed advance
  above_agrees q n at h k zero d low H K =
      along (sym (wait_two at d q)) (two_agrees n at h k d low H (λ v. subst (λ (x : ℕ). Ag n x (k tt) (finished sh.setting (run d) (counted true 0 x (saves v d)))) (add-two at) (K v)))
  above_agrees q n at h k (suc zero) d low H K =
      along (sym (wait_three at d q))
      (wait_flag_agrees n at BTF Three (λ w. refl) h _ (counted true 3 at d) H (λ v. reads refl (λ w. writes refl (λ _. keeps refl (λ _.
      along (ap (λ (x : ℕ). to (Wait Two wait.Status) (counted true 2 x (saves w d))) (sym (next_place at (omega arith))))
      (two_agrees n (suc at) h k (saves w d) (omega arith) H (λ u. subst (λ (x : ℕ). Ag n x (k tt) (finished sh.setting (run d) (counted true 0 x (saves u d)))) (add-three at) (K u))))))))
  above_agrees q n at h k (suc (suc m)) d low H K =
      along (sym (wait_many at d q m))
      (recv_next_agrees n at (suc (suc (suc m))) h _ d (omega arith) H (λ v. above_agrees q n (suc at) h k (suc m) (saves v d) (omega arith) H
      (λ u. subst (λ (x : ℕ). Ag n x (k tt) (finished sh.setting (run d) (counted true 0 x (saves u d)))) (more at m) (K u))))
    where
      more : (at m : ℕ) → at + suc (suc (suc (suc m))) ≡ suc at + suc (suc (suc m))
      more at m = omega arith

  -- all bytes of a read run
  abbrev all_bytes : Bool → ℕ → ℕ → (Failure → Program) → (Unit {0} → Program) → Program
  all_bytes b l n h k =
      cond (not sh.setting.frame.send_nack) (recv_all chip l n h k)
      (cond (eqb l 1) (recv_next chip n h k) (recv_above_3 chip l n h (from_three b n h k)))

  bytes_read_agree : (n at : ℕ) (h : Failure → Program) (k : Unit {0} → Program) (m : ℕ) (d : Progress) → at + suc m ≤ 65535 → Handles n h
      → ((v : ℕ) → Ag n (at + suc m) (k tt) (finished sh.setting (run d) (counted true 0 (at + suc m) (saves v d))))
      → Ag n at (all_bytes (stops_here sh.setting (run d)) (suc m) n h k) (read_bytes sh.setting (run d) (counted true (suc m) at d))
  bytes_read_agree n at h k m d low H K = go sh.setting.frame.send_nack refl m low K
    where
      go : (b : Bool) → sh.setting.frame.send_nack ≡ b → (m : ℕ) → at + suc m ≤ 65535
          → ((v : ℕ) → Ag n (at + suc m) (k tt) (finished sh.setting (run d) (counted true 0 (at + suc m) (saves v d))))
          → Ag n at
          (cond (not b) (recv_all chip (suc m) n h k) (cond (eqb (suc m) 1) (recv_next chip n h k) (recv_above_3 chip (suc m) n h (from_three (stops_here sh.setting (run d)) n h k))))
          (read_bytes sh.setting (run d) (counted true (suc m) at d))
      go false q m low K = plain_agrees q n at h k (suc m) d low H K
      go true q zero low K =
          along (sym (wait_one at d q)) (recv_next_agrees n at 0 h k d (omega arith) H (λ v. subst (λ (x : ℕ). Ag n x (k tt) (finished sh.setting (run d) (counted true 0 x (saves v d)))) (add-one at) (K v)))
      go true q (suc m) low K = passes _ (ne_eqb (suc (suc m)) 1 (λ e. omega arith)) (above_agrees q n at h k m d low H K)

  -- the end of a read run: STOP, or nothing
  close_read_agrees : (n at q : ℕ) (h : Failure → Program) (k : Unit {0} → Program) (d : Progress) → Handles n h
      → ((v : ℕ) → Ag n at (k tt) (continues (run d) (counted true 0 q (saves v d))))
      → Ag n at (cond (stops_here sh.setting (run d)) (wait_stop_finished chip n h (λ _. access (read Ctlr1) (λ w. access (write Ctlr1 (put_bit POS false w)) (λ _. k tt)))) (k tt))
      (finished sh.setting (run d) (counted true 0 q d))
  unfolding owed advance
  close_read_agrees n at q h k d H K =
      cases_with (stops_here sh.setting (run d))
      (λ e. wait_stop_finished_agrees n at fall.End h _ (counted true 0 q d) H (reads refl (λ w. writes refl (λ _. along (stops_last (run d) e (counted true 0 q (saves w d))) (K w)))))
      (λ _. K d.word)

  -- STAR2 is read behind ADDR
  star2_agrees : (n at : ℕ) (h : Failure → Program) (k : Unit {0} → Program) (m : ℕ) (d : Progress) → at + suc m ≤ 65535 → Handles n h
      → ((v : ℕ) → Ag n (at + suc m) (k tt) (finished sh.setting (run d) (counted true 0 (at + suc m) (saves v d))))
      → Ag n at
      (access (read Star2) (λ _. cond (eqb (suc m) 1 && stops_here sh.setting (run d))
      (generate_stop chip n h (λ _. all_bytes (stops_here sh.setting (run d)) (suc m) n h k))
      (cond (eqb (suc m) 1 && sh.setting.frame.send_nack)
      (access (read Ctlr1) (λ w. access (write Ctlr1 (put_bit START true w)) (λ _. all_bytes (stops_here sh.setting (run d)) (suc m) n h k)))
      (all_bytes (stops_here sh.setting (run d)) (suc m) n h k))))
      (to (Address address.Cleared) (counted true (suc m) at d))
  unfolding generate_stop owed advance
  star2_agrees n at h k m d low H K =
      reads refl (λ _. cases (eqb (suc m) 1 && stops_here sh.setting (run d))
      (reads refl (λ w. writes refl (λ _. bytes_read_agree n at h k m (saves w d) low H K)))
      (cases (eqb (suc m) 1 && sh.setting.frame.send_nack)
      (reads refl (λ w. writes refl (λ _. bytes_read_agree n at h k m (saves w d) low H K)))
      (bytes_read_agree n at h k m d low H K)))

  pub blocking_read_iter_agrees : ltb 0x7f sh.setting.address ≡ false → (n at : ℕ) (k : Unit {0} → Program) (m : ℕ) (d : Progress)
      → begun (run d) d ≡ counted true (suc m) at d → at + suc m ≤ 65535
      → ((v : ℕ) → Ag n (at + suc m) (k tt) (continues (run d) (counted true 0 (at + suc m) (saves v d))))
      → Ag n at (blocking_read_iter chip sh.setting.address (suc m) (frame_in d) n (λ x. finish (Err x)) k) (to Begin d)
  unfolding text.blocking_read_iter validate_address text.start_and_address launch_start text.wait_btf started owed advance
  blocking_read_iter_agrees ok n at k m d q low K =
      passes _ ok (passes _ (eqb-suc-zero m) (reads refl (λ w. along (ap (λ x. begins x w) (sym q)) (writes refl (λ _. cases sh.setting.frame.send_start
      (wait_stop_finished_agrees n at fall.Start h _ (counted true (suc m) at (saves w d)) H (start_and_address_agrees n at h _ (counted true (suc m) at (saves w d)) H
      (λ v. cases (leb (suc m) 2 && sh.setting.frame.send_nack)
      (reads refl (λ w. writes refl (λ _. star2_agrees n at h _ m (saves w d) low H close)))
      (star2_agrees n at h _ m (saves v d) low H close))))
      (bytes_read_agree n at h _ m (saves w d) low H close))))))
    where
      h : Failure → Program
      h x = abort_transfer chip n (λ x. finish (Err x)) (λ _. finish (Err x))

      H : Handles n h
      H at x d = abort_transfer_agrees n at x (λ x. finish (Err x)) d

      close : (v : ℕ) → Ag n (at + suc m)
          (cond (stops_here sh.setting (run d)) (wait_stop_finished chip n h (λ _. access (read Ctlr1) (λ w. access (write Ctlr1 (put_bit POS false w)) (λ _. k tt)))) (k tt))
          (finished sh.setting (run d) (counted true 0 (at + suc m) (saves v d)))
      close v = close_read_agrees n (at + suc m) (at + suc m) h k (saves v d) H K
