-- Layer 2: listen and the two responders as one machine. Each turn of their loops begins at `Poll`.
use Rattle.std.specs.Prelude.{true, false, cond, not, ◌&&◌, ℕ, suc, pred, ◌-◌, eqb, leb, ltb, Err}
use Rattle.registers.specs.declared.chip.Chip.{Chip}
use Rattle.registers.specs.declared.register.Register.TheVariants.{Ctlr1, Ctlr2, Oaddr1, Oaddr2, Star1, Star2}
use Rattle.registers.specs.Bits.{STOP, ACK, ITBUFEN, ADDMODE, ADDR, STOPF, RXNE, TXE, AF, MSL, BUSY, TRA, GENCALL, DUALF}
use Rattle.registers.specs.Fields.{SLAVE_TRANSFER, ADD7_1, ADD9_0, ADD2}
use Rattle.registers.specs.Word.{has_bit, put_bit, field_of, put_field}
use Rattle.registers.specs.Flags.{error_flags, clear_error}
use Rattle.access.specs.declared.ending.Failure.{Failure}
use Rattle.access.specs.declared.ending.Error.TheVariants.{Timeout}
use Rattle.access.specs.declared.need.Need.{Need}
use Rattle.access.specs.declared.need.Need.TheVariants as need
use Rattle.access.specs.Endings.{Ending, done, returned, returned_both, failure_of}
use Rattle.access.specs.Program.{late}
use Rattle.access.specs.Machine.{Machine}
use Rattle.errors.specs.Classes.{error_of, decided}
use Rattle.slave.specs.declared.config.SlaveAddress.{SlaveAddress}
use Rattle.slave.specs.declared.config.SlaveAddress.TheVariants.{SevenBit, TenBit}
use Rattle.slave.specs.declared.command.SlaveCommandKind.{SlaveCommandKind}
use Rattle.slave.specs.declared.command.SlaveCommandKind.TheVariants as command
use Rattle.slave.specs.declared.stage.StopfFor.{StopfFor}
use Rattle.slave.specs.declared.stage.StopfFor.TheVariants as stopf
use Rattle.slave.specs.declared.stage.StopfStage.{StopfStage}
use Rattle.slave.specs.declared.stage.StopfStage.TheVariants as clearing
use Rattle.slave.specs.declared.stage.StaleStage.{StaleStage}
use Rattle.slave.specs.declared.stage.StaleStage.TheVariants as stale
use Rattle.slave.specs.declared.stage.ArmStage.{ArmStage}
use Rattle.slave.specs.declared.stage.ArmStage.TheVariants as arm
use Rattle.slave.specs.declared.stage.MatchStage.{MatchStage}
use Rattle.slave.specs.declared.stage.MatchStage.TheVariants as matching
use Rattle.slave.specs.declared.stage.Half.{Half}
use Rattle.slave.specs.declared.stage.Half.TheVariants as half
use Rattle.slave.specs.declared.stage.ErrorStage.{ErrorStage}
use Rattle.slave.specs.declared.stage.ErrorStage.TheVariants as errors
use Rattle.slave.specs.declared.stage.AbortStage.{AbortStage}
use Rattle.slave.specs.declared.stage.AbortStage.TheVariants as abort
use Rattle.slave.specs.declared.stage.Stage.{Stage}
use Rattle.slave.specs.declared.stage.Stage.TheVariants.{ClearStopf, Stale, Arm, Poll, Match, Receive, Send, ClearAf, Errors, Abort, Ended}
use Rattle.slave.specs.declared.state.Kind.{Kind}
use Rattle.slave.specs.declared.state.Kind.TheVariants.{Listen, RespondToWrite, RespondToRead}
use Rattle.slave.specs.declared.state.Setting.{Setting}
use Rattle.slave.specs.declared.state.Progress.{Progress}
use Rattle.slave.specs.declared.state.Move.{Move}
use Rattle.slave.specs.Numbers.{command_number}

-- ---- progress

abbrev pub to : Stage → Progress → Move
to st d = record { stage = st; progress = d }

abbrev pub saves : ℕ → Progress → Progress
saves w d = record { count = d.count; word = w; ending = d.ending }

abbrev pub counted : ℕ → Progress → Progress
counted n d = record { count = n; word = d.word; ending = d.ending }

abbrev pub ends_with : Ending → Progress → Progress
ends_with e d = record { count = d.count; word = d.word; ending = e }

abbrev pub fresh : Progress
fresh = record { count = 0; word = 0; ending = done }

-- an error: the abort begins
abbrev pub fails : Failure → Progress → Move
fails x d = to (Abort abort.DisableRead) (ends_with (Err x) d)

-- ---- where an answer leads

abbrev pub clear_stopf_move : StopfStage → StopfFor → Progress → ℕ → Move
clear_stopf_move clearing.Status f d a = to (ClearStopf f clearing.Read) d
clear_stopf_move clearing.Read f d a = to (ClearStopf f clearing.Write) (saves a d)
clear_stopf_move clearing.Write stopf.Listen d a = to (Stale stale.Status) d
clear_stopf_move clearing.Write stopf.End d a = to Ended d

abbrev pub clear_slave_stale_flags_move : StaleStage → Progress → ℕ → Move
clear_slave_stale_flags_move stale.Status d a = cond (not (eqb (error_flags a) 0)) (to (Stale stale.Clear) (saves a d)) (to (Arm arm.BufferRead) d)
clear_slave_stale_flags_move stale.Clear d a = to (Arm arm.BufferRead) d

abbrev pub arms : ArmStage → Progress → ℕ → Move
arms arm.BufferRead d a = to (Arm arm.BufferWrite) (saves a d)
arms arm.BufferWrite d a = to (Arm arm.AckRead) d
arms arm.AckRead d a = to (Arm arm.AckWrite) (saves a d)
arms arm.AckWrite d a = to Poll d

-- the kind by STAR2, where GENCALL is clear
abbrev pub kind_of : ℕ → SlaveCommandKind
kind_of star2 = cond (has_bit TRA star2) command.Read command.Write

-- OADDR1 by its ANSWER, ADDMODE included
abbrev pub own_address : ℕ → SlaveAddress
own_address oaddr1 = cond (has_bit ADDMODE oaddr1) (TenBit (field_of ADD9_0 oaddr1)) (SevenBit (field_of ADD7_1 oaddr1))

-- the call ends with a command
abbrev pub commanded : SlaveCommandKind → SlaveAddress → Progress → Move
commanded k a d = to Ended (ends_with (returned (command_number (record { kind = k; address = a }))) d)

abbrev pub decode_slave_address_move : MatchStage → Progress → ℕ → Move
decode_slave_address_move matching.Status d a =
    cond (has_bit GENCALL a) (commanded command.GeneralCall (SevenBit 0) d)
    (cond (has_bit DUALF a) (to (Match matching.Second) (saves a d)) (to (Match matching.Own) (saves a d)))
decode_slave_address_move matching.Second d a = commanded (kind_of d.word) (SevenBit (field_of ADD2 a)) d
decode_slave_address_move matching.Own d a = commanded (kind_of d.word) (own_address a) d

-- the status word a shows error flags, or none
abbrev pub slave_handle_errors : Progress → ℕ → Move
slave_handle_errors d a = cond (not (eqb (error_flags a) 0)) (to (Errors errors.Clear) (saves a d)) (to (Errors errors.Clock) d)

-- the flags are cleared: the first decides, and AF decides nothing
abbrev pub check_errors_and_time : Chip → ErrorStage → Progress → ℕ → Move
check_errors_and_time chip errors.Clear d a = decided (error_of chip false d.word) (λ x. fails x d) (to (Errors errors.Clock) d)
check_errors_and_time chip errors.Clock d a = cond (late a) (fails (failure_of Timeout) d) (to Poll d)

abbrev pub blocking_listen : Progress → ℕ → Move
blocking_listen d a = cond (has_bit ADDR a) (to (Match matching.Status) d) (slave_handle_errors d a)

-- the bytes stored
abbrev pub stored_ending : Progress → Progress
stored_ending d = ends_with (returned d.count) d

abbrev pub blocking_respond_to_write : Progress → ℕ → Move
blocking_respond_to_write d a =
    cond (has_bit RXNE a) (to Receive d)
    (cond (has_bit STOPF a) (to (ClearStopf stopf.End clearing.Status) (stored_ending d))
    (cond (has_bit ADDR a) (to Ended (stored_ending d)) (slave_handle_errors d a)))

-- how many of `size` bytes are left when `sent` are sent: 0 where all are
abbrev pub leftover : ℕ → ℕ → ℕ
leftover size sent = size - sent

-- the status word a: with TXE clear the last byte was not clocked out
abbrev pub sent_taken_off : ℕ → ℕ → ℕ
sent_taken_off a sent = cond (has_bit TXE a) sent (pred sent)

-- the bytes left over by the Rust's count of those sent, and by the second
abbrev pub sent_ending : ℕ → ℕ → ℕ → Progress → Progress
sent_ending size sent second d = ends_with (returned_both (leftover size sent) (leftover size second)) d

abbrev pub blocking_respond_to_read : ℕ → Progress → ℕ → Move
blocking_respond_to_read size d a =
    cond (has_bit AF a) (to (ClearAf half.Read) (sent_ending size d.count (sent_taken_off a d.count) d))
    (cond (has_bit STOPF a) (to (ClearStopf stopf.End clearing.Status) (sent_ending size (sent_taken_off a d.count) (sent_taken_off a d.count) d))
    (cond (has_bit ADDR a) (to Ended (sent_ending size (sent_taken_off a d.count) (sent_taken_off a d.count) d))
    (cond (has_bit TXE a) (to Send d) (slave_handle_errors d a))))

-- a turn of the loop, by its status word
abbrev pub polls : Kind → ℕ → Progress → ℕ → Move
polls Listen size d a = blocking_listen d a
polls RespondToWrite size d a = blocking_respond_to_write d a
polls RespondToRead size d a = blocking_respond_to_read size d a

-- a byte has come: it counts where there was room for it
abbrev pub received : ℕ → Progress → Move
received size d = to Poll (counted (cond (ltb d.count size) (suc d.count) d.count) d)

-- a byte is out: the count stops at one more than the data has
abbrev pub sent : ℕ → Progress → Move
sent size d = to Poll (counted (cond (leb d.count size) (suc d.count) d.count) d)

abbrev pub clear_af_move : Half → Progress → ℕ → Move
clear_af_move half.Read d a = to (ClearAf half.Write) (saves a d)
clear_af_move half.Write d a = to Ended d

abbrev pub abort_slave_transfer_move : AbortStage → Progress → ℕ → Move
abort_slave_transfer_move abort.DisableRead d a = to (Abort abort.DisableWrite) (saves a d)
abort_slave_transfer_move abort.DisableWrite d a = to (Abort abort.Busy) d
abort_slave_transfer_move abort.Busy d a = cond (has_bit BUSY a && not (has_bit MSL a)) (to (Abort abort.StopRead) d) (to Ended d)
abort_slave_transfer_move abort.StopRead d a = to (Abort abort.StopWrite) (saves a d)
abort_slave_transfer_move abort.StopWrite d a = to Ended d

abbrev pub advance_at : Setting → Stage → Progress → ℕ → Move
advance_at g (ClearStopf f st) d a = clear_stopf_move st f d a
advance_at g (Stale st) d a = clear_slave_stale_flags_move st d a
advance_at g (Arm st) d a = arms st d a
advance_at g Poll d a = polls g.kind g.size d a
advance_at g (Match st) d a = decode_slave_address_move st d a
advance_at g Receive d a = received g.size d
advance_at g Send d a = sent g.size d
advance_at g (ClearAf st) d a = clear_af_move st d a
advance_at g (Errors st) d a = check_errors_and_time g.chip st d a
advance_at g (Abort st) d a = abort_slave_transfer_move st d a
advance_at g Ended d a = to Ended d

-- ---- what is owed

abbrev pub owed_stopf : StopfStage → Progress → Need
owed_stopf clearing.Status d = need.Read Star1
owed_stopf clearing.Read d = need.Read Ctlr1
owed_stopf clearing.Write d = need.Write Ctlr1 d.word

-- STAR1 with the error flags of the saved word cleared
abbrev pub clear_word : Progress → ℕ
clear_word d = clear_error (error_flags d.word)

abbrev pub owed_stale : StaleStage → Progress → Need
owed_stale stale.Status d = need.Read Star1
owed_stale stale.Clear d = need.Write Star1 (clear_word d)

abbrev pub owed_arm : ArmStage → Progress → Need
owed_arm arm.BufferRead d = need.Read Ctlr2
owed_arm arm.BufferWrite d = need.Write Ctlr2 (put_bit ITBUFEN false d.word)
owed_arm arm.AckRead d = need.Read Ctlr1
owed_arm arm.AckWrite d = need.Write Ctlr1 (put_bit ACK true d.word)

abbrev pub owed_match : MatchStage → Need
owed_match matching.Status = need.Read Star2
owed_match matching.Second = need.Read Oaddr2
owed_match matching.Own = need.Read Oaddr1

-- a byte past the buffer is dropped
abbrev pub owed_receive : ℕ → Progress → Need
owed_receive size d = cond (ltb d.count size) (need.Keep d.count) need.Drop

abbrev pub owed_af : Half → Progress → Need
owed_af half.Read d = need.Read Star1
owed_af half.Write d = need.Write Star1 (put_bit AF false d.word)

abbrev pub owed_errors : ErrorStage → Progress → Need
owed_errors errors.Clear d = need.Write Star1 (clear_word d)
owed_errors errors.Clock d = need.Clock

-- CTLR2 without its transfer bits
abbrev pub without_slave_transfers : ℕ → ℕ
without_slave_transfers w = put_field SLAVE_TRANSFER 0 w

abbrev pub owed_abort : AbortStage → Progress → Need
owed_abort abort.DisableRead d = need.Read Ctlr2
owed_abort abort.DisableWrite d = need.Write Ctlr2 (without_slave_transfers d.word)
owed_abort abort.Busy d = need.Read Star2
owed_abort abort.StopRead d = need.Read Ctlr1
owed_abort abort.StopWrite d = need.Write Ctlr1 (put_bit STOP true d.word)

abbrev pub owed_at : Setting → Stage → Progress → Need
owed_at g (ClearStopf f st) d = owed_stopf st d
owed_at g (Stale st) d = owed_stale st d
owed_at g (Arm st) d = owed_arm st d
owed_at g Poll d = need.Read Star1
owed_at g (Match st) d = owed_match st
owed_at g Receive d = owed_receive g.size d
owed_at g Send d = need.Send d.count
owed_at g (ClearAf st) d = owed_af st d
owed_at g (Errors st) d = owed_errors st d
owed_at g (Abort st) d = owed_abort st d
owed_at g Ended d = need.End d.ending

-- ---- the machine of a call

module _ (g : Setting) where
  unfoldable pub owed : Move → Need
  owed m = owed_at g m.stage m.progress

  unfoldable pub advance : Move → ℕ → Move
  advance m a = advance_at g m.stage m.progress a

  abbrev pub slave : Machine
  slave = record { State = Move; need = owed; move = advance }

-- listening begins by clearing what is stale, and a response with its loop
abbrev pub start : Kind → Move
start Listen = to (ClearStopf stopf.Listen clearing.Status) fresh
start RespondToWrite = to Poll fresh
start RespondToRead = to Poll fresh
