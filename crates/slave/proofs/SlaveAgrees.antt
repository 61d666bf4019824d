-- Each function of the Rust's slave agrees with its stages of the machine.
-- Assumes nothing.
use mathlib.Core.Path.{◌≡◌, refl, sym, ap, ◌∙◌}
use mathlib.Core.Bool.{Bool, true, false, cond, not, ◌&&◌}
use mathlib.Core.List.{List}
use Prim.Native.Nat.{ℕ, zero, suc}
use borrow.Author.Tests.{eqb-true, not-false}
use lib.Dec.{eqb, ltb}
use lib.ListN.{length, get_or}
use Rattle.std.specs.Prelude.{Option, Some, None, Err}
use Rattle.registers.specs.declared.register.Register.TheVariants.{Ctlr1, Ctlr2, Datar, Star1, Star2}
use Rattle.registers.specs.Bits.{ACK, ITBUFEN, ADDMODE, ADDR, STOPF, RXNE, TXE, AF, MSL, BUSY, GENCALL, DUALF}
use Rattle.registers.specs.Fields.{ADD9_0, ADD7_1, ADD2, DATA}
use Rattle.registers.specs.Word.{has_bit, put_bit, field_of}
use Rattle.registers.specs.Flags.{error_flags}
use Rattle.registers.proofs.TransferLaws.{slave_transfer_off}
use Rattle.registers.proofs.AddressLaws.{ten_read}
use Rattle.access.specs.declared.ending.Error.TheVariants.{Timeout}
use Rattle.access.specs.declared.ending.Failure.{Failure}
use Rattle.access.specs.declared.need.Need.TheVariants as need
use Rattle.access.specs.Endings.{returned, failure_of}
use Rattle.access.specs.Program.{Program, finish, access, keep, read, write, send, clock, spin_from, late, check_timeout}
use Rattle.access.proofs.EndingLaws.{both_same}
use Rattle.access.proofs.Agreement.{Agree, no_answers, ends, reads_first, reads, writes, asks, sends, drops, keeps, cases, cases_with, along, program_is}
use Rattle.errors.specs.Classes.{error_of, decided}
use Rattle.errors.specs.Check.{check_errors}
use Rattle.errors.proofs.ClassLaws.{no_flags}
use Rattle.slave.specs.declared.config.SlaveAddress.TheVariants.{SevenBit, TenBit}
use Rattle.slave.specs.declared.command.SlaveCommandKind.{SlaveCommandKind}
use Rattle.slave.specs.declared.command.SlaveCommandKind.TheVariants.{GeneralCall}
use Rattle.slave.specs.declared.command.SlaveCommand.{SlaveCommand}
use Rattle.slave.specs.declared.stage.StopfFor.{StopfFor}
use Rattle.slave.specs.declared.stage.StopfFor.TheVariants as stopf
use Rattle.slave.specs.declared.stage.StopfStage.TheVariants as clearing
use Rattle.slave.specs.declared.stage.ArmStage.TheVariants as arm
use Rattle.slave.specs.declared.stage.MatchStage.TheVariants as matching
use Rattle.slave.specs.declared.stage.Half.TheVariants as half
use Rattle.slave.specs.declared.stage.ErrorStage.TheVariants as errors
use Rattle.slave.specs.declared.stage.Stage.TheVariants.{ClearStopf, Arm, Poll, Match, Receive, ClearAf, Errors, Ended}
use Rattle.slave.specs.declared.state.Kind.TheVariants.{Listen, RespondToWrite, RespondToRead}
use Rattle.slave.specs.declared.state.Setting.{Setting}
use Rattle.slave.specs.declared.state.Progress.{Progress}
use Rattle.slave.specs.declared.state.Move.{Move}
use Rattle.slave.specs.Rust as rust
use Rattle.slave.specs.Ours as ours
use Rattle.slave.specs.Numbers.{command_number, status_number}
use Rattle.slave.specs.Calls.{both_left}
use Rattle.slave.specs.Machine.{to, saves, counted, fails, clear_stopf_move, slave_handle_errors, commanded, kind_of, own_address, leftover, sent_taken_off, polls, owed, advance, slave}
use Rattle.slave.proofs.CountLaws.{capped, capped_zero, capped_next, capped_byte, capped_left, capped_taken}

module _ (g : Setting) (bytes : List ℕ) where
  abbrev Ag : ℕ → ℕ → Program → Move → Type 0
  Ag n at p m = Agree (slave g) bytes n at p m

  -- what follows an error once the abort is done
  abbrev last : Failure → Program
  last x = finish (Err x)

  -- and what follows it at once: the abort
  abbrev aborts : ℕ → Failure → Program
  aborts n x = rust.abort_slave_transfer n last (λ _. last x)

  pub abort_slave_transfer_agrees : (m n at : ℕ) (x : Failure) (d : Progress) → Ag m at (aborts n x) (fails x d)
  unfolding rust.abort_slave_transfer rust.disable_slave_transfers owed advance
  abort_slave_transfer_agrees m n at x d =
      reads refl (λ a. writes (ap (need.Write Ctlr2) (sym (slave_transfer_off a))) (λ _. reads refl (λ b. cases (has_bit BUSY b && not (has_bit MSL b))
      (reads refl (λ w. writes refl (λ _. ends (Err x) refl)))
      (ends (Err x) refl))))

  -- where clearing STOPF leads
  abbrev behind : StopfFor → Progress → Move
  behind f d = clear_stopf_move clearing.Write f d 0

  pub clear_stopf_agrees : (m n at : ℕ) (f : StopfFor) (h : Failure → Program) (k : Unit {0} → Program) (d : Progress) → ((v : ℕ) → Ag m at (k tt) (behind f (saves v d)))
      → Ag m at (rust.clear_stopf n h k) (to (ClearStopf f clearing.Status) d)
  unfolding rust.clear_stopf owed advance
  clear_stopf_agrees m n at stopf.Listen h k d K = reads refl (λ _. reads refl (λ w. writes refl (λ _. K w)))
  clear_stopf_agrees m n at stopf.End h k d K = reads refl (λ _. reads refl (λ w. writes refl (λ _. K w)))

  pub clear_af_agrees : (m n at : ℕ) (h : Failure → Program) (k : Unit {0} → Program) (d : Progress) → ((v : ℕ) → Ag m at (k tt) (to Ended (saves v d)))
      → Ag m at (rust.clear_af n h k) (to (ClearAf half.Read) d)
  unfolding rust.clear_af owed advance
  clear_af_agrees m n at h k d K = reads refl (λ w. writes refl (λ _. K w))

  -- ---- errors and the clock, at the end of a turn

  judged_agrees : (m n at : ℕ) (c : Option Failure) (p : Program) (d : Progress) (t : Move) → Ag m at p t
      → Ag m at (decided c (aborts n) p) (decided c (λ x. fails x d) t)
  judged_agrees m n at (Some x) p d t K = abort_slave_transfer_agrees m n at x d
  judged_agrees m n at None p d t K = K

  abbrev asking : ℕ → Program → Program
  asking n again = access clock (λ t. cond (late t) (aborts n (failure_of Timeout)) again)

  clock_agrees : (m n at : ℕ) (again : Program) (d : Progress) → Ag m at again (to Poll d)
      → Ag m at (asking n again) (to (Errors errors.Clock) d)
  unfolding owed advance
  clock_agrees m n at again d K = asks refl (λ t. cases (late t) (abort_slave_transfer_agrees m n at (failure_of Timeout) d) K)

  pub check_errors_and_time_agrees : (m n at a : ℕ) (again : Program) (d : Progress) → ((v : ℕ) → Ag m at again (to Poll (saves v d)))
      → Ag m at (ours.check_errors_and_time g.chip a n last (λ _. again)) (slave_handle_errors d a)
  unfolding rust.check_errors_and_time check_errors check_timeout owed advance
  check_errors_and_time_agrees m n at a again d K =
      cases_with (not (eqb (error_flags a) 0))
      (λ _. writes refl (λ _. judged_agrees m n at (error_of g.chip false a) _ (saves a d) _ (clock_agrees m n at again (saves a d) (K a))))
      (λ clear. program_is (ap (λ c. decided c (aborts n) (asking n again)) (no_flags g.chip false a (eqb-true _ _ (not-false _ clear))))
      (clock_agrees m n at again d (K d.word)))

  -- ---- listen

  -- what follows a command
  abbrev command_end : SlaveCommand → Program
  command_end c = finish (returned (command_number c))

  own_agrees : (m at b : ℕ) (d : Progress) (o : ℕ) (k : SlaveCommandKind) → k ≡ kind_of d.word
      → Ag m at (cond (has_bit ADDMODE o) (command_end (record { kind = k; address = TenBit (rust.ten_bits o) })) (command_end (record { kind = k; address = SevenBit (field_of ADD7_1 o) })))
      (commanded (kind_of d.word) (own_address o) d)
  unfolding owed
  own_agrees m at b d o k e = go (has_bit ADDMODE o) refl
    where
      go : (c : Bool) → has_bit ADDMODE o ≡ c
          → Ag m at (cond c (command_end (record { kind = k; address = TenBit (rust.ten_bits o) })) (command_end (record { kind = k; address = SevenBit (field_of ADD7_1 o) })))
          (commanded (kind_of d.word) (cond c (TenBit (field_of ADD9_0 o)) (SevenBit (field_of ADD7_1 o))) d)
      go true q = ends _ (λ i. need.End (returned (command_number (record { kind = sym e i; address = TenBit (sym (ten_read o) i) }))))
      go false q = ends _ (λ i. need.End (returned (command_number (record { kind = sym e i; address = SevenBit (field_of ADD7_1 o) }))))

  match_agrees : (m n at : ℕ) (d : Progress)
      → Ag m at (access (read Star2) (λ b. rust.decode_slave_address b n last (λ o. command_end (record { kind = rust.kind_of_command b; address = o })))) (to (Match matching.Status) d)
  unfolding rust.decode_slave_address owed advance
  match_agrees m n at d = reads refl (λ b. cases_with (has_bit GENCALL b)
      (λ e. ends _ (ap (λ k. need.End (returned (command_number (record { kind = k; address = SevenBit 0 })))) (sym (general b e))))
      (λ e. cases (has_bit DUALF b)
      (reads refl (λ o. ends _ (ap (λ k. need.End (returned (command_number (record { kind = k; address = SevenBit (field_of ADD2 o) })))) (sym (plain b e)))))
      (reads refl (λ o. own_agrees m at b (saves b d) o (rust.kind_of_command b) (plain b e)))))
    where
      general : (b : ℕ) → has_bit GENCALL b ≡ true → rust.kind_of_command b ≡ GeneralCall
      general b e = rw e

      plain : (b : ℕ) → has_bit GENCALL b ≡ false → rust.kind_of_command b ≡ kind_of b
      plain b e = rw e

  listen_turns : g.kind ≡ Listen → (m n at : ℕ) (d : Progress)
      → Ag m at
      (spin_from m (tt {0}) (λ s next. access (read Star1) (λ a. cond (has_bit ADDR a)
      (access (read Star2) (λ b. rust.decode_slave_address b n last (λ o. command_end (record { kind = rust.kind_of_command b; address = o }))))
      (ours.check_errors_and_time g.chip a n last (λ _. next (tt {0}))))))
      (to Poll d)
  unfolding owed advance
  listen_turns e zero n at d = no_answers
  listen_turns e (suc m) n at d =
      reads_first refl (λ a. along (ap (λ x. polls x g.size d a) (sym e)) (cases (has_bit ADDR a)
      (match_agrees m n at d)
      (check_errors_and_time_agrees m n at a _ d (λ v. listen_turns e m n at (saves v d)))))

  pub blocking_listen_agrees : g.kind ≡ Listen → (n at : ℕ) (d : Progress) → Ag n at (ours.blocking_listen g.chip n last command_end) (to (ClearStopf stopf.Listen clearing.Status) d)
  unfolding rust.blocking_listen rust.clear_slave_stale_flags owed advance
  blocking_listen_agrees e n at d =
      clear_stopf_agrees n n at stopf.Listen last _ d (λ v. reads refl (λ a. cases (not (eqb (error_flags a) 0))
      (writes refl (λ _. armed (saves a d)))
      (armed (saves v d))))
    where
      armed : (d : Progress) → Ag n at
          (access (read Ctlr2) (λ w. access (write Ctlr2 (put_bit ITBUFEN false w)) (λ _. access (read Ctlr1) (λ w. access (write Ctlr1 (put_bit ACK true w)) (λ _.
          spin_from n (tt {0}) (λ s next. access (read Star1) (λ a. cond (has_bit ADDR a)
          (access (read Star2) (λ b. rust.decode_slave_address b n last (λ o. command_end (record { kind = rust.kind_of_command b; address = o }))))
          (ours.check_errors_and_time g.chip a n last (λ _. next (tt {0}))))))))))
          (to (Arm arm.BufferRead) d)
      armed d = reads refl (λ w. writes refl (λ _. reads refl (λ u. writes refl (λ _. listen_turns e n n at (saves u d)))))

  -- ---- receive

  abbrev stored_end : ℕ → Program
  stored_end n = finish (returned n)

  abbrev receiving : ℕ → ℕ → ℕ → Program
  receiving n m stored =
      spin_from m stored (λ stored next. access (read Star1) (λ a. cond (has_bit RXNE a)
      (access (read Datar) (λ b. cond (ltb stored g.size) (keep (field_of DATA b) (next (suc stored))) (next stored)))
      (cond (has_bit STOPF a) (rust.clear_stopf n last (λ _. stored_end stored))
      (cond (has_bit ADDR a) (stored_end stored)
      (ours.check_errors_and_time g.chip a n last (λ _. next stored))))))

  receive_turns : g.kind ≡ RespondToWrite → (m n stored : ℕ) (d : Progress) → Ag m stored (receiving n m stored) (to Poll (counted stored d))
  unfolding owed advance
  receive_turns e zero n stored d = no_answers
  receive_turns e (suc m) n stored d =
      reads_first refl (λ a. along (ap (λ x. polls x g.size (counted stored d) a) (sym e)) (cases (has_bit RXNE a)
      (byte (ltb stored g.size) refl (receive_turns e m n))
      (cases (has_bit STOPF a)
      (clear_stopf_agrees m n stored stopf.End last _ _ (λ v. ends _ refl))
      (cases (has_bit ADDR a) (ends _ refl)
      (check_errors_and_time_agrees m n stored a _ (counted stored d) (λ v. receive_turns e m n stored (saves v d)))))))
    where
      byte : (b : Bool) → ltb stored g.size ≡ b → ((s : ℕ) (d : Progress) → Ag m s (receiving n m s) (to Poll (counted s d)))
          → Ag m stored (access (read Datar) (λ v. cond b (keep (field_of DATA v) (receiving n m (suc stored))) (receiving n m stored))) (to Receive (counted stored d))
      byte true q rest =
          keeps (ap (λ (b : Bool). cond b (need.Keep stored) need.Drop) q)
          (λ _. along (ap (λ (b : Bool). to Poll (counted (cond b (suc stored) stored) d)) (sym q)) (rest (suc stored) d))
      byte false q rest =
          drops (ap (λ (b : Bool). cond b (need.Keep stored) need.Drop) q)
          (λ _. along (ap (λ (b : Bool). to Poll (counted (cond b (suc stored) stored) d)) (sym q)) (rest stored d))

  pub blocking_respond_to_write_agrees : g.kind ≡ RespondToWrite → (n : ℕ) (d : Progress) → d.count ≡ 0
      → Ag n 0 (ours.blocking_respond_to_write g.chip g.size n last stored_end) (to Poll d)
  unfolding rust.blocking_respond_to_write
  blocking_respond_to_write_agrees e n d z = along (ap (λ (x : ℕ). to Poll (counted x d)) (sym z)) (receive_turns e n n 0 d)

  -- ---- reply

  abbrev counts_end : ours.Counts → Program
  counts_end c = finish (both_left c)

  abbrev sending : ℕ → ℕ → ℕ → Program
  sending n m sent =
      spin_from m sent (λ sent next. access (read Star1) (λ a. cond (has_bit AF a)
      (rust.clear_af n last (λ _. counts_end (ours.counts g.chip a (length bytes) sent)))
      (cond (has_bit STOPF a) (rust.clear_stopf n last (λ _. counts_end (ours.counts g.chip a (length bytes) (rust.taken_off g.chip a sent))))
      (cond (has_bit ADDR a) (counts_end (ours.counts g.chip a (length bytes) (rust.taken_off g.chip a sent)))
      (cond (has_bit TXE a) (access (send (get_or bytes sent 0)) (λ _. next (suc sent)))
      (ours.check_errors_and_time g.chip a n last (λ _. next sent)))))))

  -- `sent` is what the Rust counts, and the machine counts it capped
  reply_turns : g.kind ≡ RespondToRead → g.size ≡ length bytes → (m n at sent : ℕ) (d : Progress) → Ag m at (sending n m sent) (to Poll (counted (capped g.size sent) d))
  unfolding owed advance
  reply_turns e l zero n at sent d = no_answers
  reply_turns e l (suc m) n at sent d =
      reads_first refl (λ a. along (ap (λ x. polls x g.size (counted (capped g.size sent) d) a) (sym e)) (cases_with (has_bit AF a)
      (λ af. clear_af_agrees m n at last _ _ (λ v. ends _ (ap need.End (both_same left (second_lowered a af)))))
      (λ af. cases (has_bit STOPF a)
      (clear_stopf_agrees m n at stopf.End last _ _ (λ v. ends _ (ap need.End (both_same (taken a) (second_stays a af)))))
      (cases (has_bit ADDR a)
      (ends _ (ap need.End (both_same (taken a) (second_stays a af))))
      (cases (has_bit TXE a)
      (sends (capped g.size sent) refl byte (λ _. along (ap (λ (x : ℕ). to Poll (counted x d)) (sym (capped_next g.size sent))) (reply_turns e l m n at (suc sent) d)))
      (check_errors_and_time_agrees m n at a _ _ (λ v. reply_turns e l m n at sent (saves v d))))))))
    where
      left : leftover g.size (capped g.size sent) ≡ status_number (rust.send_status (length bytes) sent)
      left = capped_left g.size sent ∙ ap (λ (x : ℕ). status_number (rust.send_status x sent)) l

      taken : (a : ℕ) → leftover g.size (sent_taken_off a (capped g.size sent)) ≡ status_number (rust.send_status (length bytes) (rust.taken_off g.chip a sent))
      taken a = capped_taken g.chip g.size a sent ∙ ap (λ (x : ℕ). status_number (rust.send_status x (rust.taken_off g.chip a sent))) l

      -- AF takes one off for the second count, where STOPF and ADDR have it off already
      second_lowered : (a : ℕ) → has_bit AF a ≡ true → leftover g.size (sent_taken_off a (capped g.size sent)) ≡ status_number (ours.counts g.chip a (length bytes) sent).second
      second_lowered a af = rw af (taken a)

      second_stays : (a : ℕ) → has_bit AF a ≡ false
          → leftover g.size (sent_taken_off a (capped g.size sent)) ≡ status_number (ours.counts g.chip a (length bytes) (rust.taken_off g.chip a sent)).second
      second_stays a af = rw af (taken a)

      byte : get_or bytes (capped g.size sent) 0 ≡ get_or bytes sent 0
      byte = ap (λ (x : ℕ). get_or bytes (capped x sent) 0) l ∙ capped_byte bytes sent

  pub blocking_respond_to_read_agrees : g.kind ≡ RespondToRead → g.size ≡ length bytes → (n at : ℕ) (d : Progress) → d.count ≡ 0
      → Ag n at (ours.blocking_respond_to_read g.chip bytes n last counts_end) (to Poll d)
  unfolding rust.blocking_respond_to_read
  blocking_respond_to_read_agrees e l n at d z = along (ap (λ (x : ℕ). to Poll (counted x d)) (capped_zero g.size ∙ sym z)) (reply_turns e l n n at 0 d)
