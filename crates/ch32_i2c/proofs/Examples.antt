-- The demands speak of something: calls that are accepted, and what comes of them, by computation.
-- Assumes nothing.
use Rattle.std.specs.Prelude.{Err}
use mathlib.Core.Path.{◌≡◌, refl, ap, sym, subst, ◌∙◌}
use mathlib.Core.Bool.{true, false}
use mathlib.Core.List.{List, [], ◌∷◌, ◌++◌}
use mathlib.Core.Option.{Option, none, some}
use Prim.Native.Nat.{ℕ, suc}
use native.Mathlib.Omega.{arith}
use lib.ListN.{length, replicate}
use Rattle.registers.specs.Word.{has_bit, put_bit, field_of, put_field}
use Rattle.registers.specs.Flags.{error_flags, clear_error}
use Rattle.registers.specs.Addresses.{address_word}
use Rattle.access.specs.Program.{check_timeout, late}
use Rattle.access.specs.declared.ending.Error.TheVariants.{Bus, Arbitration, Nack, Overrun, InvalidAddress, ReservedAddress}
use Rattle.access.specs.declared.next.Next.{Next}
use Rattle.access.specs.declared.next.Next.TheVariants as next
use Rattle.access.specs.Numbers.{next_number}
use Rattle.access.specs.Endings.{Ending, flagged, done, returned, returned_both, failed}
use Rattle.access.specs.Record.{Shown, no_more, Same}
use Rattle.alike.specs.Like.{forget_end}
use Rattle.operations.specs.Operations.{operations_of, shaped}
use Rattle.operations.specs.Runs.{runs_of, runs_from}
use Rattle.operations.specs.Search.{fault_from}
use Rattle.errors.specs.Classes.{error_of}
use Rattle.errors.specs.Check.{check_errors}
use Rattle.errors.specs.AsTheRust.{added_forgotten}
use Rattle.master.specs.Calls.{refusal, rust_with, ours_with, until_with}
use Rattle.master.specs.Rust as rust
use Rattle.master.specs.Ours as ours
use Rattle.master.specs.Joined.{joined, join_written}
use Rattle.slave.specs.Calls.{rust_slave, ours_slave}
use Rattle.slave.specs.Rust as slave
use Rattle.slave.specs.Reserved.{config_reserved}
use Rattle.slave.specs.Init.{config_fault}
use Rattle.slave.specs.Init as init_slave
use Rattle.slave.proofs.CallAgrees.{slave_is_ours}
use Rattle.block.specs.Fields.{same_fields}
use Rattle.block.specs.Bytes32.{fields_of}
use Rattle.images.specs.InitSlaveImage.{init_slave_fields, init_slave_of, init_slave_in}
use Rattle.calls.specs.InitSlave.{init_slave_held}
use Rattle.timing.specs.Rust.{timing}
use Rattle.ch32_i2c.specs.InitSlave.{config_of}
use Rattle.ch32_i2c.specs.Fed.{Seen, end_in, record_in, DifferAtPayload, payload_in}
use Rattle.ch32_i2c.specs.Demands.{Call, transaction, write, listen, respond_to_write, respond_to_read, Accepted, Over, Commanded, Replied, can_end, IsMet, checks_of, check_departs, IsTheRust, BerrUnread, EndsMoved, end_after, SameRuns, transactions, RepliesEnd, SeenAlike, SeenSame}
use Rattle.ch32_i2c.specs.Demands as demands
use Rattle.ch32_i2c.proofs.Demands.{demand_1, demand_2, demand_3}

-- two blocks, whatever they held before
abbrev zeros : List ℕ
zeros = replicate 32 0

abbrev ones : List ℕ
ones = replicate 32 255

-- ---- two transactions of the same runs, divided differently: two writes of one byte and a read of two; a write of two bytes, an empty
-- write and two reads of one

abbrev first : Call
first = transaction 0 0x50 (0 ∷ 1 ∷ 0 ∷ 0 ∷ 1 ∷ 0 ∷ 1 ∷ 2 ∷ 0 ∷ []) (1 ∷ 2 ∷ [])

abbrev second : Call
second = transaction 0 0x50 (0 ∷ 2 ∷ 0 ∷ 0 ∷ 0 ∷ 0 ∷ 1 ∷ 1 ∷ 0 ∷ 1 ∷ 1 ∷ 0 ∷ []) (7 ∷ 8 ∷ [])

first_accepted : Accepted first zeros (0 ∷ 0 ∷ [])
unfolding refusal shaped fault_from operations_of runs_of runs_from
first_accepted = refl

second_accepted : Accepted second ones (9 ∷ 9 ∷ [])
unfolding refusal shaped fault_from operations_of runs_of runs_from
second_accepted = refl

same_runs : SameRuns first 2 second 2
unfolding operations_of runs_of runs_from
same_runs = transactions refl

-- answers until both bytes are sent
abbrev sending : List ℕ
sending = 0 ∷ 0 ∷ 0 ∷ 0 ∷ 0 ∷ 1 ∷ 0 ∷ 1 ∷ 0 ∷ 2 ∷ 0 ∷ 0x80 ∷ 0 ∷ 4 ∷ 0x80 ∷ 0 ∷ 4 ∷ []

sending_alike : DifferAtPayload (record_in (demands.ours 18 first 2 sending)) sending sending
unfolding ours_with operations_of rust.blocking_transaction rust.validate_address rust.validate_operations rust.validate_from rust.transact rust.write_group rust.write_bytes rust.start_and_address rust.launch_start rust.wait_stop_finished rust.wait_flag ours.check_and_clear_error_flags check_errors error_of rust.send_byte rust.abort_transfer rust.finish_transfer rust.generate_stop rust.checked_add has_bit put_bit field_of put_field error_flags clear_error address_word check_timeout late
sending_alike = (refl, (refl, (refl, (refl, (refl, (refl, (refl, (refl, (refl, (refl, (refl, (refl, (refl, (refl, (refl, (refl, (refl, tt)))))))))))))))))

transfers_alike : SeenAlike Same first second zeros (0 ∷ 0 ∷ []) ones (9 ∷ 9 ∷ []) sending sending
transfers_alike =
    demand_3.transfers first second zeros (0 ∷ 0 ∷ []) ones (9 ∷ 9 ∷ []) same_runs tt tt first_accepted second_accepted sending sending
    (subst (λ (rs : List Seen). DifferAtPayload rs sending sending) (sym (demand_2.records first zeros (0 ∷ 0 ∷ []) tt first_accepted 18 sending (omega arith)).record_is) sending_alike)

-- ---- two receives of one length that get other bytes: RXNE twice, the second byte past the buffer, then ADDR

abbrev xs : List ℕ
xs = 0x40 ∷ 0x11 ∷ 0x40 ∷ 0x22 ∷ 2 ∷ []

abbrev ys : List ℕ
ys = 0x40 ∷ 0x99 ∷ 0x40 ∷ 0 ∷ 2 ∷ []

received_differ : DifferAtPayload (record_in (demands.ours 6 (respond_to_write 0) 1 xs)) xs ys
unfolding ours_slave slave.blocking_respond_to_write slave.clear_stopf has_bit error_flags
received_differ = (refl, (tt, (refl, (tt, (refl, tt)))))

receives_alike : SeenAlike Same (respond_to_write 0) (respond_to_write 0) zeros (0 ∷ []) ones (5 ∷ []) xs ys
receives_alike =
    demand_3.receives 0 zeros (0 ∷ []) ones (5 ∷ []) refl refl refl xs ys
    (subst (λ (rs : List Seen). DifferAtPayload rs xs ys) (sym (demand_2.records (respond_to_write 0) zeros (0 ∷ []) tt refl 6 xs (omega arith)).record_is) received_differ)

-- ---- two replies of other bytes and lengths, and any answers

replies_alike : (answers : List ℕ) → SeenAlike (RepliesEnd 2 1) (respond_to_read 3 (1 ∷ 2 ∷ [])) (respond_to_read 3 (7 ∷ [])) zeros [] ones [] answers answers
replies_alike answers = demand_3.replies 3 (1 ∷ 2 ∷ []) (7 ∷ []) zeros ones refl refl answers

-- ---- a reply of three bytes whose master refuses the second: TXE three times, then AF with TXE clear. The Rust counts three bytes as
-- sent, and the third still waits in the data register

abbrev reply : Call
reply = respond_to_read 0 (7 ∷ 8 ∷ 9 ∷ [])

abbrev refusing : List ℕ
refusing = 0x80 ∷ 0 ∷ 0x80 ∷ 0 ∷ 0x80 ∷ 0 ∷ 0x400 ∷ 0x480 ∷ 0 ∷ []

reply_ours : (demands.ours 10 reply 0 refusing).end ≡ some (returned_both 0 1)
unfolding ours_slave slave.blocking_respond_to_read slave.clear_af has_bit put_bit put_field error_flags
reply_ours = refl

reply_ends : end_after reply zeros [] refusing ≡ some (returned_both 0 1)
reply_ends = (demand_2.records reply zeros [] refl refl 10 refusing (omega arith)).end_is ∙ reply_ours

reply_of_the_rust : (demands.rust 10 reply 0 refusing).end ≡ some (returned 0)
unfolding rust_slave slave.blocking_respond_to_read slave.clear_af has_bit put_bit put_field error_flags
reply_of_the_rust = refl

reply_counted : Replied 3 (returned_both 0 1)
reply_counted = demand_1.replied 0 (7 ∷ 8 ∷ 9 ∷ []) zeros refl refusing (returned_both 0 1) reply_ends

-- in C: bit 32
reply_number : next_number (next.End (returned_both 0 1)) ≡ 0x1_0000_0000
reply_number = refl

-- ---- a byte of a write whose status word shows ARLO and OVR: both were cleared, and the end tells both

abbrev disturbed : Call
disturbed = write 0 0x21 3 (7 ∷ [])

abbrev two_flags : List ℕ
two_flags = 0x0a00 ∷ 0 ∷ 0 ∷ 0 ∷ 0 ∷ 0 ∷ []

disturbed_accepted : Accepted disturbed zeros []
unfolding refusal shaped
disturbed_accepted = refl

disturbed_ours : (demands.ours 7 disturbed 0 two_flags).end ≡ some (Err (flagged Arbitration 0x0a00))
unfolding ours_with rust.validate_address rust.write_bytes rust.send_byte rust.wait_flag ours.check_and_clear_error_flags check_errors error_of rust.abort_transfer rust.finish_transfer rust.generate_stop has_bit put_bit field_of put_field error_flags clear_error check_timeout late
disturbed_ours = refl

disturbed_ends : end_after disturbed zeros [] two_flags ≡ some (Err (flagged Arbitration 0x0a00))
disturbed_ends = (demand_2.records disturbed zeros [] refl disturbed_accepted 7 two_flags (omega arith)).end_is ∙ disturbed_ours

disturbed_of_the_rust : (demands.rust 7 disturbed 0 two_flags).end ≡ some (failed Arbitration)
unfolding rust_with rust.validate_address rust.write_bytes rust.send_byte rust.wait_flag rust.check_and_clear_error_flags rust.abort_transfer rust.finish_transfer rust.generate_stop has_bit put_bit field_of put_field error_flags clear_error check_timeout late
disturbed_of_the_rust = refl

-- the flags fit: 2 with these two, on this chip
disturbed_fits : can_end disturbed (Err (flagged Arbitration 0x0a00)) ≡ true
disturbed_fits = subst (IsMet (can_end disturbed)) disturbed_ends (demand_1.ends disturbed zeros [] refl disturbed_accepted two_flags)

-- in C: bits 48 to 63
disturbed_number : next_number (next.End (Err (flagged Arbitration 0x0a00))) ≡ 0x0a00_0000_0000_0200
disturbed_number = refl

-- ---- a byte of a write with both chip flags: AF alone, as the Rust; AF with BERR, where the two differ

abbrev line : Call
line = write 3 0x21 3 (7 ∷ [])

abbrev after_word : ℕ → List ℕ
after_word w = w ∷ 0 ∷ 0 ∷ 0 ∷ 0 ∷ 0 ∷ []

line_accepted : Accepted line zeros []
unfolding refusal shaped
line_accepted = refl

-- no error check reads BERR, so this is the Rust's call
nacked_unread : BerrUnread 7 line 0 (after_word 0x0400)
unfolding until_with ours_with rust.validate_address rust.write_bytes rust.send_byte rust.wait_flag ours.check_and_clear_error_flags check_errors error_of rust.abort_transfer rust.finish_transfer rust.generate_stop has_bit put_bit field_of put_field error_flags clear_error check_timeout late
nacked_unread = refl

nacked_is_the_rust : IsTheRust line zeros [] (after_word 0x0400) (demands.rust 7 line 0 (after_word 0x0400))
nacked_is_the_rust = demand_2.without_berr line zeros [] refl line_accepted 7 (after_word 0x0400) (omega arith) nacked_unread

nacked_ours : (demands.ours 7 line 0 (after_word 0x0400)).end ≡ some (Err (flagged Nack 0x0400))
unfolding ours_with rust.validate_address rust.write_bytes rust.send_byte rust.wait_flag ours.check_and_clear_error_flags check_errors error_of rust.abort_transfer rust.finish_transfer rust.generate_stop has_bit put_bit field_of put_field error_flags clear_error check_timeout late
nacked_ours = refl

nacked_of_the_rust : (demands.rust 7 line 0 (after_word 0x0400)).end ≡ some (failed Nack)
nacked_of_the_rust =
    sym nacked_is_the_rust.end_is
    ∙ ap (forget_end added_forgotten) ((demand_2.records line zeros [] refl line_accepted 7 (after_word 0x0400) (omega arith)).end_is ∙ nacked_ours)

-- a broken line raises both: ours is Bus, and the Rust's Nack
broken_ours : (demands.ours 7 line 0 (after_word 0x0500)).end ≡ some (Err (flagged Bus 0x0500))
unfolding ours_with rust.validate_address rust.write_bytes rust.send_byte rust.wait_flag ours.check_and_clear_error_flags check_errors error_of rust.abort_transfer rust.finish_transfer rust.generate_stop has_bit put_bit field_of put_field error_flags clear_error check_timeout late
broken_ours = refl

broken_ends : end_after line zeros [] (after_word 0x0500) ≡ some (Err (flagged Bus 0x0500))
broken_ends = (demand_2.records line zeros [] refl line_accepted 7 (after_word 0x0500) (omega arith)).end_is ∙ broken_ours

broken_of_the_rust : (demands.rust 7 line 0 (after_word 0x0500)).end ≡ some (failed Nack)
unfolding rust_with rust.validate_address rust.write_bytes rust.send_byte rust.wait_flag rust.check_and_clear_error_flags rust.abort_transfer rust.finish_transfer rust.generate_stop has_bit put_bit field_of put_field error_flags clear_error check_timeout late
broken_of_the_rust = refl

broken_departs : check_departs (checks_of line) (some (Err (flagged Bus 0x0500))) ≡ true
unfolding has_bit
broken_departs = refl

broken_moved : EndsMoved (end_after line zeros [] (after_word 0x0500)) (demands.rust 7 line 0 (after_word 0x0500)).end
broken_moved = demand_2.moved line zeros [] refl line_accepted 7 (after_word 0x0500) (omega arith) (ap (check_departs (checks_of line)) broken_ends ∙ broken_departs)

-- the text that stops at such a word goes less far: an error check read it
broken_read : BerrUnread 7 line 0 (after_word 0x0500) → ⊥
unfolding until_with ours_with rust.validate_address rust.write_bytes rust.send_byte rust.wait_flag ours.check_and_clear_error_flags check_errors error_of rust.abort_transfer rust.finish_transfer rust.generate_stop has_bit put_bit field_of put_field error_flags clear_error check_timeout late
broken_read u = none≢some (ap (λ (s : Shown). s.end) u)
  where
    none≢some : ◌≡◌ {A = Option Ending} none (some (Err (flagged Bus 0x0500))) → ⊥
    none≢some e = subst present (sym e) tt
      where
        present : Option Ending → Type 0
        present none = ⊥
        present (some x) = Unit {0}

-- a slave's byte on this chip, with OVR and BERR; the Rust has Overrun there
abbrev heard : Call
heard = respond_to_write 3

heard_ours : (demands.ours 7 heard 1 (after_word 0x0900)).end ≡ some (Err (flagged Bus 0x0900))
unfolding ours_slave slave.blocking_respond_to_write slave.check_errors_and_time slave.abort_slave_transfer slave.disable_slave_transfers slave.clear_stopf check_errors error_of has_bit put_bit put_field error_flags clear_error check_timeout late
heard_ours = refl

heard_of_the_rust : (demands.rust 7 heard 1 (after_word 0x0900)).end ≡ some (failed Overrun)
unfolding rust_slave slave.blocking_respond_to_write slave.check_errors_and_time slave.slave_handle_errors slave.abort_slave_transfer slave.disable_slave_transfers slave.clear_stopf has_bit put_bit put_field error_flags clear_error check_timeout late
heard_of_the_rust = refl

-- ---- payloads that agree: a transaction divided otherwise, of the same bytes; a receive that gets the same bytes

abbrev third : Call
third = transaction 0 0x50 (0 ∷ 2 ∷ 0 ∷ 1 ∷ 1 ∷ 0 ∷ 1 ∷ 1 ∷ 0 ∷ []) (1 ∷ 2 ∷ [])

third_accepted : Accepted third ones (9 ∷ 9 ∷ [])
unfolding refusal shaped fault_from operations_of runs_of runs_from
third_accepted = refl

first_runs_third : SameRuns first 2 third 2
unfolding operations_of runs_of runs_from
first_runs_third = transactions refl

same_written : demands.written_runs first ≡ demands.written_runs third
unfolding operations_of joined join_written
same_written = refl

-- neither has read a byte yet
nothing_read : payload_in (record_in (demands.ours 18 first 2 sending)) ≡ payload_in (record_in (demands.ours 18 third 2 sending))
unfolding ours_with operations_of rust.blocking_transaction rust.validate_address rust.validate_operations rust.validate_from rust.transact rust.write_group rust.write_bytes rust.start_and_address rust.launch_start rust.wait_stop_finished rust.wait_flag ours.check_and_clear_error_flags check_errors error_of rust.send_byte rust.abort_transfer rust.finish_transfer rust.generate_stop rust.checked_add has_bit put_bit field_of put_field error_flags clear_error address_word check_timeout late
nothing_read = refl

transfers_same : SeenSame first third zeros (0 ∷ 0 ∷ []) ones (9 ∷ 9 ∷ []) sending sending
transfers_same =
    let p = (demand_2.records first zeros (0 ∷ 0 ∷ []) tt first_accepted 18 sending (omega arith)).record_is in
    let q = (demand_2.records third ones (9 ∷ 9 ∷ []) tt third_accepted 18 sending (omega arith)).record_is in
    demand_3.transfers_whole first third zeros (0 ∷ 0 ∷ []) ones (9 ∷ 9 ∷ []) first_runs_third tt tt first_accepted third_accepted sending sending
    (subst (λ (rs : List Seen). DifferAtPayload rs sending sending) (sym p) sending_alike)
    (record { written = same_written; answered = ap payload_in p ∙ nothing_read ∙ sym (ap payload_in q) })

received_same : DifferAtPayload (record_in (demands.ours 6 (respond_to_write 0) 1 xs)) xs xs
unfolding ours_slave slave.blocking_respond_to_write slave.clear_stopf has_bit error_flags
received_same = (refl, (tt, (refl, (tt, (refl, tt)))))

receives_same : SeenSame (respond_to_write 0) (respond_to_write 0) zeros (0 ∷ []) ones (5 ∷ []) xs xs
receives_same =
    let p = (demand_2.records (respond_to_write 0) zeros (0 ∷ []) tt refl 6 xs (omega arith)).record_is in
    let q = (demand_2.records (respond_to_write 0) ones (5 ∷ []) tt refl 6 xs (omega arith)).record_is in
    demand_3.receives_whole 0 zeros (0 ∷ []) ones (5 ∷ []) refl refl refl xs xs (subst (λ (rs : List Seen). DifferAtPayload rs xs xs) (sym p) received_same)
    (record { written = refl; answered = ap payload_in (p ∙ sym q) })

-- ---- a call that is over at once, and one that goes on

abbrev nothing : Call
nothing = transaction 0 0x50 [] []

nothing_accepted : Accepted nothing zeros []
unfolding refusal shaped fault_from operations_of runs_of runs_from
nothing_accepted = refl

nothing_ends : demands.end_after nothing zeros [] [] ≡ some done
nothing_ends = ap (λ (n : Next). end_in (n ∷ [])) ((demand_1.accepts nothing zeros [] tt nothing_accepted).done refl)

stays_over : (more : List ℕ) → Over nothing zeros [] [] more
stays_over more = demand_1.over nothing zeros [] tt nothing_accepted [] more done nothing_ends

goes_on : demands.takes first ((demands.entry_of first).begin zeros (0 ∷ 0 ∷ [])).block ((demands.entry_of first).begin zeros (0 ∷ 0 ∷ [])).read ≡ true
goes_on = (demand_1.accepts first zeros (0 ∷ 0 ∷ []) tt first_accepted).taken

-- ---- a refusal of the Rust's, whatever holds behind it: a frame of any bytes, 70,000 too, to address 0x80

frame_to_80 : (bytes : List ℕ) → demands.own_refusal (demands.write 0 0x80 0 bytes) 0 ≡ some InvalidAddress
unfolding refusal
frame_to_80 bytes = refl

rust_refuses : (bytes answers : List ℕ) → demands.rust (suc (length answers)) (demands.write 0 0x80 0 bytes) 0 answers ≡ no_more (some (failed InvalidAddress))
rust_refuses bytes answers = demand_2.refused (demands.write 0 0x80 0 bytes) 0 InvalidAddress (frame_to_80 bytes) refl (suc (length answers)) answers (omega arith)

-- ---- a listen that is addressed by a general call

abbrev addressed : List ℕ
addressed = 0 ∷ 0 ∷ 0 ∷ 0 ∷ 0 ∷ 0 ∷ 0 ∷ 0 ∷ 2 ∷ 0x10 ∷ []

listen_ends : (demands.ours 11 (listen 0) 0 addressed).end ≡ some (returned 0)
unfolding ours_slave slave.blocking_listen slave.clear_slave_stale_flags slave.clear_stopf slave.decode_slave_address has_bit put_bit put_field error_flags
listen_ends = refl

listen_commanded : Commanded (returned 0)
listen_commanded = demand_1.commanded 0 zeros refl addressed (returned 0) ((demand_2.records (listen 0) zeros [] refl refl 11 addressed (omega arith)).end_is ∙ listen_ends)

-- ---- settings that are accepted

init_accepted : Accepted (demands.init 0 36_000_000 400_000 1) zeros []
unfolding timing
init_accepted = refl

init_slave_accepted : Accepted (demands.init_slave 1 0x3ff 0 0 0 0) zeros []
unfolding config_fault config_reserved
init_slave_accepted = refl

-- ---- addresses that UM10204 reserves

-- an own address of seven bits without general call
abbrev own_at : ℕ → Call
own_at address = demands.init_slave 0 address 0 0 0 0

reserved_refused : demands.refusal_of (own_at 0x07) 32 0 ≡ some ReservedAddress
unfolding config_fault config_reserved
reserved_refused = refl

-- the Rust goes on there
rust_goes_on : (demands.rust 1 (own_at 0x07) 0 []).end ≡ none
unfolding config_fault config_reserved init_slave.owed
rust_goes_on = ap (λ (s : Shown). s.end) (slave_is_ours.init_departs (config_of 0 0x07 0 0 0 0) refl 1 [] (omega arith))

unreserved_accepted : Accepted (own_at 0x08) zeros []
unfolding config_fault config_reserved
unreserved_accepted = refl

general_call_accepted : Accepted (demands.init_slave 0 0 0 0 1 0) zeros []
unfolding config_fault config_reserved
general_call_accepted = refl

ten_bits_accepted : Accepted (demands.init_slave 1 0x003 0 0 0 0) zeros []
unfolding config_fault config_reserved
ten_bits_accepted = refl

-- own 0x78 with second 0x80: 9 comes first, and the Rust gives it too
nine_first : demands.own_refusal (demands.init_slave 0 0x78 1 0x80 0 0) 0 ≡ some InvalidAddress
unfolding config_fault
nine_first = refl

rust_gives_nine : (answers : List ℕ) → demands.rust (suc (length answers)) (demands.init_slave 0 0x78 1 0x80 0 0) 0 answers ≡ no_more (some (failed InvalidAddress))
rust_gives_nine answers = demand_2.refused (demands.init_slave 0 0x78 1 0x80 0 0) 0 InvalidAddress nine_first refl (suc (length answers)) answers (omega arith)

-- a block of `init_slave` before its first access, with this own address of seven bits
abbrev block_at : ℕ → List ℕ
block_at address = 6 ∷ replicate 7 0 ++ (address ∷ replicate 23 0)

block_taken : demands.takes (own_at 0x42) (block_at 0x42) [] ≡ true
unfolding init_slave_held init_slave_in init_slave_of init_slave_fields fields_of same_fields config_fault config_reserved init_slave.owed
block_taken = refl

reserved_block_refused : demands.takes (own_at 0x42) (block_at 0x07) [] ≡ false
unfolding init_slave_held init_slave_in init_slave_of init_slave_fields fields_of same_fields config_fault config_reserved
reserved_block_refused = refl
