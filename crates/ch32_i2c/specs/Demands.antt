-- The three demands, said of what C programs call: of blocks, lent bytes and what the eighteen begins and steps hand out. Each one's
-- contract says that it returns the number of what its definition hands out, and leaves the definition's bytes (`Leaves`, crate call).
--
-- Which definition each contract cites (tests/tie.py, a part of `make test`, compares this with the contracts in src/ and with `entry_of`):
--
--   ch32_i2c_init_begin               init_begin block chip input frequency duty
--   ch32_i2c_init_step                init_step block answer
--   ch32_i2c_transaction_begin        transaction_begin block chip address list written read
--   ch32_i2c_transaction_step         transaction_step block list written read answer
--   ch32_i2c_write_read_begin         write_read_begin block chip address written read
--   ch32_i2c_write_read_step          write_read_step block written read answer
--   ch32_i2c_write_begin              write_begin block chip address option written
--   ch32_i2c_write_step               write_step block written answer
--   ch32_i2c_read_begin               read_begin block chip address option read
--   ch32_i2c_read_step                read_step block read answer
--   ch32_i2c_init_slave_begin         init_slave_begin block ten_bit address has_second second general_call clock_stretching
--   ch32_i2c_init_slave_step          init_slave_step block answer
--   ch32_i2c_listen_begin             listen_begin block chip
--   ch32_i2c_listen_step              listen_step block answer
--   ch32_i2c_respond_to_write_begin   respond_to_write_begin block chip buffer
--   ch32_i2c_respond_to_write_step    respond_to_write_step block buffer answer
--   ch32_i2c_respond_to_read_begin    respond_to_read_begin block chip reply
--   ch32_i2c_respond_to_read_step     respond_to_read_step block reply answer
--
-- Beside the calls stand two questions, which have no step and make no access: ch32_i2c_is_critical (specs/Critical.antt), and
-- ch32_i2c_speed_window, whose demands are in specs/SpeedWindow.antt.
use Rattle.std.specs.Prelude as prelude
use Rattle.std.specs.Prelude.{◌≡◌, Bool, true, false, not, ◌&&◌, ◌||◌, List, [], ◌∷◌, ◌++◌, map, ℕ, suc, pred, ◌<◌, ◌≤◌, eqb, ltb, length, take, Some, None, Result, Ok, Err}
use Rattle.std.proofs.Math.Option.{Option, none, some}
use Rattle.registers.specs.declared.chip.Chip.{Chip}
use Rattle.access.specs.declared.ending.Failure.{Failure}
use Rattle.access.specs.declared.ending.Error.{Error}
use Rattle.access.specs.declared.ending.Error.TheVariants.{Bus, InvalidState, InvalidArgument}
use Rattle.access.specs.declared.next.Next.{Next}
use Rattle.access.specs.declared.next.Next.TheVariants as next
use Rattle.access.specs.Endings.{Ending, error_number, done, returned, returned_both, failed}
use Rattle.access.specs.Machine.{is_end}
use Rattle.access.specs.Numbers.{next_number, HoldsWords}
use Rattle.access.specs.Program as program
use Rattle.access.specs.Record.{Shown, no_more, shown_of, Same, EndsAlike}
use Rattle.alike.specs.Like.{forget_end, forgetting}
use Rattle.errors.specs.Met.{is_met}
use Rattle.errors.specs.Check.{is_berr}
use Rattle.errors.specs.AsTheRust.{end_as_the_rusts, added_forgotten, FlagsDecide}
use Rattle.errors.specs.Departs.{end_departs, ClassIsTheRusts}
use Rattle.operations.specs.Operations.{operations_of}
use Rattle.operations.specs.Runs.{is_empty}
use Rattle.block.specs.Bytes32.{block_size}
use Rattle.timing.specs.Rust.{timing}
use Rattle.timing.specs.Claims as timing
use Rattle.timing.specs.Machine as init_machine
use Rattle.master.specs.declared.state.State.{State}
use Rattle.master.specs.declared.call.Call as transfer
use Rattle.master.specs.declared.call.Kind.TheVariants as kind
use Rattle.master.specs.Steps as master
use Rattle.master.specs.Rust.{Parts, the_rust}
use Rattle.master.specs.Ours as parts
use Rattle.master.specs.Joined.{Joined, JW, JR, joined, runs_program}
use Rattle.master.specs.Calls.{Lent, lent_with, cut, refuse, refusal, rust_with, ours_with, until_with, spans_by, NoAddedCause}
use Rattle.master.specs.Claims.{RunsJoin}
use Rattle.slave.specs.declared.state.State as slaveState
use Rattle.slave.specs.declared.config.SlaveAddress.{SlaveAddress}
use Rattle.slave.specs.declared.config.SlaveAddress.TheVariants.{SevenBit, TenBit}
use Rattle.slave.specs.declared.command.SlaveCommand.{SlaveCommand}
use Rattle.slave.specs.declared.state.Kind as response
use Rattle.slave.specs.declared.state.Kind.TheVariants.{Listen, RespondToWrite, RespondToRead}
use Rattle.slave.specs.Reserved.{config_reserved}
use Rattle.slave.specs.Init.{init_refusal}
use Rattle.slave.specs.Init as initSlaveMachine
use Rattle.slave.specs.Calls.{SlaveLent, size_of, size_refusal, rust_init, rust_slave, ours_slave, until_slave}
use Rattle.slave.specs.Steps as slave
use Rattle.slave.specs.Rust.{send_status}
use Rattle.slave.specs.Claims.{CountsAsTheRust}
use Rattle.slave.specs.Numbers.{command_number, status_number}
use Rattle.slave_driver.specs.Lent as slaveLent
use Rattle.images.specs.Numbers.{chip_of, transaction_entry, write_read_entry, write_entry, read_entry, listen_entry, respond_to_write_entry, respond_to_read_entry}
use Rattle.images.specs.MasterImage.{frame_options_of}
use Rattle.call.specs.Left.{Left, refused_with}
use Rattle.ch32_i2c.specs.Fed.{Entry, lefts, last_from, handed_out, stored, Makes, Begins, Seen, record_of, end_in, record_in, StruckSeen, struck_by, struck_in, DifferAtPayload, payload_in}
use Rattle.ch32_i2c.specs.Manual.{Rule, Keeps, free, addressing, owning, clocking}
use Rattle.calls.specs.Init.{init_held}
use Rattle.calls.specs.Transfer.{master_held}
use Rattle.calls.specs.InitSlave.{init_slave_held}
use Rattle.calls.specs.Response.{slave_held}
use Rattle.ch32_i2c.specs.Init.{duty_of, init_begin, init_step}
use Rattle.ch32_i2c.specs.Transfer.{call_of, transaction_begin, transaction_step, write_read_begin, write_read_step, write_begin, write_step, read_begin, read_step}
use Rattle.ch32_i2c.specs.InitSlave.{config_of, unknown_flags, init_slave_begin, init_slave_step}
use Rattle.ch32_i2c.specs.Response.{listen_begin, listen_step, respond_to_write_begin, respond_to_write_step, respond_to_read_begin, respond_to_read_step}
use Rattle.timing.specs.declared.settings.Timing.{Timing}
use Rattle.timing.specs.declared.init.State as initState
use Rattle.slave.specs.declared.init.InitState.{InitState}

-- ---- calls

-- document 01's call: the numbers that C passes, and the bytes that it lends to be sent. Bytes to read into are lent beside it
pub data Call : Type 0 where
  init : (chip input frequency duty : ℕ) → Call
  transaction : (chip address : ℕ) (list written : List ℕ) → Call
  write_read : (chip address : ℕ) (written : List ℕ) → Call
  write : (chip address option : ℕ) (written : List ℕ) → Call
  read : (chip address option : ℕ) → Call
  init_slave : (ten address has second general stretching : ℕ) → Call
  listen : (chip : ℕ) → Call
  respond_to_write : (chip : ℕ) → Call
  respond_to_read : (chip : ℕ) (reply : List ℕ) → Call

-- its two functions, each step lent the same as begin
abbrev pub entry_of : Call → Entry
entry_of (init chip input frequency duty) = record { begin = λ b r. init_begin b chip input frequency duty; step = λ b r a. init_step b a }
entry_of (transaction chip address list written) = record { begin = λ b r. transaction_begin b chip address list written r; step = λ b r a. transaction_step b list written r a }
entry_of (write_read chip address written) = record { begin = λ b r. write_read_begin b chip address written r; step = λ b r a. write_read_step b written r a }
entry_of (write chip address option written) = record { begin = λ b r. write_begin b chip address option written; step = λ b r a. write_step b written a }
entry_of (read chip address option) = record { begin = λ b r. read_begin b chip address option r; step = λ b r a. read_step b r a }
entry_of (init_slave ten address has second general stretching) = record { begin = λ b r. init_slave_begin b ten address has second general stretching; step = λ b r a. init_slave_step b a }
entry_of (listen chip) = record { begin = λ b r. listen_begin b chip; step = λ b r a. listen_step b a }
entry_of (respond_to_write chip) = record { begin = λ b r. respond_to_write_begin b chip r; step = λ b r a. respond_to_write_step b r a }
entry_of (respond_to_read chip reply) = record { begin = λ b r. respond_to_read_begin b chip reply; step = λ b r a. respond_to_read_step b reply a }

-- the bytes to read into that go with a call: any, or none
abbrev pub Reads : Call → List ℕ → Type 0
Reads (init chip input frequency duty) bytes = bytes ≡ []
Reads (transaction chip address list written) bytes = Unit {0}
Reads (write_read chip address written) bytes = Unit {0}
Reads (write chip address option written) bytes = bytes ≡ []
Reads (read chip address option) bytes = Unit {0}
Reads (init_slave ten address has second general stretching) bytes = bytes ≡ []
Reads (listen chip) bytes = bytes ≡ []
Reads (respond_to_write chip) bytes = Unit {0}
Reads (respond_to_read chip reply) bytes = bytes ≡ []

-- ---- refusals

-- an argument that is none of the call's: 16
abbrev pub unknown : Call → Bool
unknown (init chip input frequency duty) = ltb 3 chip || ltb 1 duty
unknown (transaction chip address list written) = ltb 3 chip
unknown (write_read chip address written) = ltb 3 chip
unknown (write chip address option written) = ltb 3 chip || ltb 5 option
unknown (read chip address option) = ltb 3 chip || ltb 5 option
unknown (init_slave ten address has second general stretching) = unknown_flags ten has general stretching
unknown (listen chip) = ltb 3 chip
unknown (respond_to_write chip) = ltb 3 chip
unknown (respond_to_read chip reply) = ltb 3 chip

abbrev pub timed_refusal : Result Timing Error → Option Error
timed_refusal (Ok t) = none
timed_refusal (Err e) = some e

-- the call's own causes, in the order of documents 01 and 02, where so many bytes are lent to read
abbrev pub own_refusal : Call → ℕ → Option Error
own_refusal (init chip input frequency duty) room = timed_refusal (timing (chip_of chip) input frequency (duty_of duty))
own_refusal (transaction chip address list written) room = refusal (call_of chip address kind.Transaction) (lent_with list written room)
own_refusal (write_read chip address written) room = refusal (call_of chip address kind.WriteRead) (lent_with [] written room)
own_refusal (write chip address option written) room = refusal (call_of chip address (kind.Write (frame_options_of option))) (lent_with [] written 0)
own_refusal (read chip address option) room = refusal (call_of chip address (kind.Read (frame_options_of option))) (lent_with [] [] room)
own_refusal (init_slave ten address has second general stretching) room = init_refusal (config_of ten address has second general stretching)
own_refusal (listen chip) room = none
own_refusal (respond_to_write chip) room = size_refusal room
own_refusal (respond_to_read chip reply) room = size_refusal (length reply)

-- the first cause: 15 for the block's length, 16 for the arguments, then the call's own
abbrev pub refusal_of : Call → ℕ → ℕ → Option Error
refusal_of c size room = refuse (not (eqb size block_size)) InvalidState (refuse (unknown c) InvalidArgument (own_refusal c room))

-- document 01's accepted call
abbrev pub Accepted : Call → List ℕ → List ℕ → Type 0
Accepted c block bytes = refusal_of c (length block) (length bytes) ≡ none

-- ---- layer 1: its text with the Rust's parts, and with ours

-- what is seen of a call after a list of answers, each loop with so many turns. `init` and `init_slave` have no part in which ours differs
abbrev pub timed_shown : ℕ → ℕ → Result Timing Error → List ℕ → Shown
timed_shown chip turns (Ok t) answers = timing.rust_init (chip_of chip) t turns answers
timed_shown chip turns (Err e) answers = no_more (some (failed e))

abbrev pub layer1 : (ℕ → transfer.Call → Lent → List ℕ → Shown) → (ℕ → Chip → response.Kind → SlaveLent → List ℕ → Shown) → ℕ → Call → ℕ → List ℕ → Shown
layer1 shownTransfer shownResponse turns (init chip input frequency duty) room answers = timed_shown chip turns (timing (chip_of chip) input frequency (duty_of duty)) answers
layer1 shownTransfer shownResponse turns (transaction chip address list written) room answers = shownTransfer turns (call_of chip address kind.Transaction) (lent_with list written room) answers
layer1 shownTransfer shownResponse turns (write_read chip address written) room answers = shownTransfer turns (call_of chip address kind.WriteRead) (lent_with [] written room) answers
layer1 shownTransfer shownResponse turns (write chip address option written) room answers = shownTransfer turns (call_of chip address (kind.Write (frame_options_of option))) (lent_with [] written 0) answers
layer1 shownTransfer shownResponse turns (read chip address option) room answers = shownTransfer turns (call_of chip address (kind.Read (frame_options_of option))) (lent_with [] [] room) answers
layer1 shownTransfer shownResponse turns (init_slave ten address has second general stretching) room answers = rust_init turns (config_of ten address has second general stretching) answers
layer1 shownTransfer shownResponse turns (listen chip) room answers = shownResponse turns (chip_of chip) Listen (slaveLent.lent_with [] 0) answers
layer1 shownTransfer shownResponse turns (respond_to_write chip) room answers = shownResponse turns (chip_of chip) RespondToWrite (slaveLent.lent_with [] room) answers
layer1 shownTransfer shownResponse turns (respond_to_read chip reply) room answers = shownResponse turns (chip_of chip) RespondToRead (slaveLent.lent_with reply 0) answers

abbrev pub rust : ℕ → Call → ℕ → List ℕ → Shown
rust = layer1 rust_with rust_slave

abbrev pub ours : ℕ → Call → ℕ → List ℕ → Shown
ours = layer1 ours_with ours_slave

-- our text, which goes no further where an error check reads a word with BERR
abbrev pub until_berr : ℕ → Call → ℕ → List ℕ → Shown
until_berr = layer1 until_with until_slave

-- the error check of a call: its chip's, and a master's (`nack`) or a slave's. `init` and `init_slave` have none
pub data Checks : Type 0 where
  unchecked : Checks
  checked : (chip : Chip) (nack : Bool) → Checks

abbrev pub checks_of : Call → Checks
checks_of (init chip input frequency duty) = unchecked
checks_of (transaction chip address list written) = checked (chip_of chip) true
checks_of (write_read chip address written) = checked (chip_of chip) true
checks_of (write chip address option written) = checked (chip_of chip) true
checks_of (read chip address option) = checked (chip_of chip) true
checks_of (init_slave ten address has second general stretching) = unchecked
checks_of (listen chip) = checked (chip_of chip) false
checks_of (respond_to_write chip) = checked (chip_of chip) false
checks_of (respond_to_read chip reply) = checked (chip_of chip) false

-- an end of ours as the Rust's: what the Rust lacks is forgotten, and the Rust's order finds the class among the flags
abbrev pub check_as_the_rust : Checks → Ending → Ending
check_as_the_rust unchecked e = e
check_as_the_rust (checked chip nack) e = end_as_the_rusts chip nack e

abbrev pub call_end_as_the_rusts : Call → Ending → Ending
call_end_as_the_rusts c = check_as_the_rust (checks_of c)

-- BERR decides on its chip
abbrev pub checks_berr : Checks → Bool
checks_berr unchecked = false
checks_berr (checked chip nack) = chip.ch32v4

-- the end's flags are a word at which our order finds another class than the Rust's
abbrev pub check_departs : Checks → Option Ending → Bool
check_departs unchecked e = false
check_departs (checked chip nack) none = false
check_departs (checked chip nack) (some e) = end_departs chip nack e

-- the refusals that the Rust gives too: 6 and 9
abbrev pub the_rusts : Error → Bool
the_rusts e = eqb (error_number e) 6 || eqb (error_number e) 9

-- none of the call's own causes that the port adds to the Rust's: 8 at its size, 10 to 14, 16 for a list, and 17
abbrev pub NoneAdded : Call → ℕ → Type 0
NoneAdded (init chip input frequency duty) room = own_refusal (init chip input frequency duty) room ≡ none
NoneAdded (transaction chip address list written) room = NoAddedCause kind.Transaction (lent_with list written room)
NoneAdded (write_read chip address written) room = NoAddedCause kind.WriteRead (lent_with [] written room)
NoneAdded (write chip address option written) room = NoAddedCause (kind.Write (frame_options_of option)) (lent_with [] written 0)
NoneAdded (read chip address option) room = NoAddedCause (kind.Read (frame_options_of option)) (lent_with [] [] room)
NoneAdded (init_slave ten address has second general stretching) room = config_reserved (config_of ten address has second general stretching) ≡ false
NoneAdded (listen chip) room = Unit {0}
NoneAdded (respond_to_write chip) room = room ≤ 65535
NoneAdded (respond_to_read chip reply) room = length reply ≤ 65535

-- our text with turns enough for these answers; more make no difference to an accepted call (`enough` of demand 2)
abbrev pub ours_after : Call → ℕ → List ℕ → Shown
ours_after c room answers = ours (suc (length answers)) c room answers

-- ---- what is seen of a call

-- document 01's record after begin and a step with each of these answers, its end, and what it leaves
abbrev pub record_after : Call → List ℕ → List ℕ → List ℕ → List Seen
record_after c block bytes answers = record_of (handed_out (lefts (entry_of c) block bytes answers)) answers

abbrev pub end_after : Call → List ℕ → List ℕ → List ℕ → Option Ending
end_after c block bytes answers = end_in (handed_out (lefts (entry_of c) block bytes answers))

abbrev pub left_after : Call → List ℕ → List ℕ → List ℕ → Left
left_after c block bytes answers = last_from (entry_of c) ((entry_of c).begin block bytes) answers

-- the record with the payload struck out, by layer 1's accesses
abbrev pub struck_after : Call → List ℕ → List ℕ → List ℕ → List StruckSeen
struck_after c block bytes answers = struck_by (ours_after c (length bytes) answers).events (record_after c block bytes answers)

-- what is seen of a call is a text's: the record, the owed access and the answers included; the end; the bytes read
pub record Records (c : Call) (block bytes answers : List ℕ) (s : Shown) : Type 0 where
  pub record_is : record_after c block bytes answers ≡ record_in s
  pub end_is : end_after c block bytes answers ≡ s.end
  pub read_is : (left_after c block bytes answers).read ≡ stored s.arrivals bytes

-- the same of a text whose end is ours with something of it forgotten
pub record RecordsBy (forget : Ending → Ending) (c : Call) (block bytes answers : List ℕ) (s : Shown) : Type 0 where
  pub record_is : record_after c block bytes answers ≡ record_in s
  pub end_is : forget_end forget (end_after c block bytes answers) ≡ s.end
  pub read_is : (left_after c block bytes answers).read ≡ stored s.arrivals bytes

-- the Rust's accesses and bytes, and its end once ours is read as the Rust's
abbrev pub RecordsRust : Call → List ℕ → List ℕ → List ℕ → Shown → Type 0
RecordsRust c = RecordsBy (call_end_as_the_rusts c) c

-- the Rust's accesses, bytes and end; ours has a second count and flags beside it, and nothing else is forgotten
abbrev pub IsTheRust : Call → List ℕ → List ℕ → List ℕ → Shown → Type 0
IsTheRust c = RecordsBy added_forgotten c

-- no word that an error check reads has BERR: our text goes as far if it stops at such a word. (Each such word is cleared, so that ours makes an
-- access more there.)
abbrev pub BerrUnread : ℕ → Call → ℕ → List ℕ → Type 0
BerrUnread turns c room answers = until_berr turns c room answers ≡ ours turns c room answers

-- a record has an answer to a read of STAR1 with BERR
abbrev pub sees_berr : Next → Option ℕ → Bool
sees_berr (next.Read r) none = false
sees_berr (next.Read r) (some w) = is_berr r w
sees_berr (next.Write r v) a = false
sees_berr next.Clock a = false
sees_berr (next.End e) a = false

abbrev pub has_berr : List Seen → Bool
has_berr [] = false
has_berr (x ∷ xs) = sees_berr x.next x.answer || has_berr xs

-- ours ends with Bus, and the Rust with another error
pub record EndsMoved (ours rust : Option Ending) : Type 0 where
  pub bus : forget_end added_forgotten ours ≡ some (failed Bus)
  pub other : (rust ≡ some (failed Bus)) → ⊥

-- ---- demand 1: one next step, and bad calls refused

-- whether a step is taken: the block is the image of a state of the entry's call that fits what is lent, and has not ended
abbrev pub takes_init : prelude.Option initState.State → Bool
takes_init (Some s) = not (is_end (init_machine.owed s))
takes_init None = false

abbrev pub takes_transfer : prelude.Option State → Lent → Bool
takes_transfer (Some s) l = master.is_open s l
takes_transfer None l = false

abbrev pub takes_init_slave : prelude.Option InitState → Bool
takes_init_slave (Some s) = not (is_end (initSlaveMachine.owed s))
takes_init_slave None = false

abbrev pub takes_response : prelude.Option slaveState.State → SlaveLent → Bool
takes_response (Some s) l = slave.is_open s (size_of s.kind l)
takes_response None l = false

abbrev pub takes : Call → List ℕ → List ℕ → Bool
takes (init chip input frequency duty) block bytes = takes_init (init_held block)
takes (transaction chip address list written) block bytes = takes_transfer (master_held transaction_entry block) (lent_with list written (length bytes))
takes (write_read chip address written) block bytes = takes_transfer (master_held write_read_entry block) (lent_with [] written (length bytes))
takes (write chip address option written) block bytes = takes_transfer (master_held write_entry block) (lent_with [] written 0)
takes (read chip address option) block bytes = takes_transfer (master_held read_entry block) (lent_with [] [] (length bytes))
takes (init_slave ten address has second general stretching) block bytes = takes_init_slave (init_slave_held block)
takes (listen chip) block bytes = takes_response (slave_held listen_entry block) (slaveLent.lent_with [] 0)
takes (respond_to_write chip) block bytes = takes_response (slave_held respond_to_write_entry block) (slaveLent.lent_with [] (length bytes))
takes (respond_to_read chip reply) block bytes = takes_response (slave_held respond_to_read_entry block) (slaveLent.lent_with reply 0)

-- accepted calls that have nothing to do: a transaction of no operations, and write frames 3 and 5 of no bytes, in which the Rust asks for
-- neither START nor STOP
abbrev pub nothing_to_do : Call → Bool
nothing_to_do (init chip input frequency duty) = false
nothing_to_do (transaction chip address list written) = is_empty list
nothing_to_do (write_read chip address written) = false
nothing_to_do (write chip address option written) = is_empty written && (eqb option 3 || eqb option 5)
nothing_to_do (read chip address option) = false
nothing_to_do (init_slave ten address has second general stretching) = false
nothing_to_do (listen chip) = false
nothing_to_do (respond_to_write chip) = false
nothing_to_do (respond_to_read chip reply) = false

-- behind the end: record, end and all lent bytes stay, and a step answers 15
pub record Over (c : Call) (block bytes answers more : List ℕ) : Type 0 where
  pub record_stays : record_after c block bytes (answers ++ more) ≡ record_after c block bytes answers
  pub end_stays : end_after c block bytes (answers ++ more) ≡ end_after c block bytes answers
  pub left_stays : (a : ℕ) → left_after c block bytes (answers ++ (a ∷ [])) ≡ refused_with InvalidState (left_after c block bytes answers).block (left_after c block bytes answers).read

-- the ends of an accepted call: 0, where the second number is 0 unless the call returns two; or an error that the hardware can give it
abbrev pub ends_by : Bool → (Failure → Bool) → Ending → Bool
ends_by two fails (Ok o) = two || eqb o.second 0
ends_by two fails (Err f) = fails f

-- errors are 1 to 6, with flags in which a check finds this error on the chip, as a master or a slave; or without flags where no check decided: a
-- late clock, and a master's lost START (`is_met`, errors/specs/Met.antt). `init` and `init_slave` meet none, and a reply alone returns two numbers
abbrev pub init_ends : Ending → Bool
init_ends = ends_by false (λ f. false)

abbrev pub transfer_ends : Chip → Ending → Bool
transfer_ends chip = ends_by false (is_met chip true)

abbrev pub response_ends : Chip → Bool → Ending → Bool
response_ends chip two = ends_by two (is_met chip false)

abbrev pub can_end : Call → Ending → Bool
can_end (init chip input frequency duty) = init_ends
can_end (transaction chip address list written) = transfer_ends (chip_of chip)
can_end (write_read chip address written) = transfer_ends (chip_of chip)
can_end (write chip address option written) = transfer_ends (chip_of chip)
can_end (read chip address option) = transfer_ends (chip_of chip)
can_end (init_slave ten address has second general stretching) = init_ends
can_end (listen chip) = response_ends (chip_of chip) false
can_end (respond_to_write chip) = response_ends (chip_of chip) false
can_end (respond_to_read chip reply) = response_ends (chip_of chip) true

abbrev pub IsMet : (Ending → Bool) → Option Ending → Type 0
IsMet can none = Unit {0}
IsMet can (some e) = can e ≡ true

-- a slave's address in its seven or ten bits
abbrev pub InBits : SlaveAddress → Type 0
InBits (SevenBit a) = a < 128
InBits (TenBit a) = a < 1024

-- what a listen and a reply can be done with: a command whose address is in its bits; the statuses of two numbers of bytes sent
pub data Commanded : Ending → Type 0 where
  with_command : (c : SlaveCommand) → InBits c.address → Commanded (returned (command_number c))
  without_command : (f : Failure) → Commanded (Err f)

-- the second of them, by the first: the same, or one less, where AF found a byte that the master had not taken
pub data IsSecond (sent : ℕ) : ℕ → Type 0 where
  same : IsSecond sent sent
  one_less : IsSecond sent (pred sent)

-- what is left over of so many bytes, by both
abbrev pub left_both : ℕ → ℕ → ℕ → Ending
left_both size sent second = returned_both (status_number (send_status size sent)) (status_number (send_status size second))

pub data Replied (size : ℕ) : Ending → Type 0 where
  with_status : (sent second : ℕ) → IsSecond sent second → Replied size (left_both size sent second)
  without_status : (f : Failure) → Replied size (Err f)

-- "A call handed in, with any address, list, buffers and register answers, has after each answer exactly one next access or one end."
-- "A bad call is refused by number before any access, with every lent byte unchanged."
pub record Demand1 : Type 0 where
  -- begin of a call without a cause hands out an access and leaves a block that a step takes; where there is nothing to do it is done, and leaves
  -- an ended one
  pub accepts : (c : Call) (block bytes : List ℕ) → Reads c bytes → Accepted c block bytes → Begins (entry_of c) (takes c) (nothing_to_do c) block bytes
  -- after each answer there is an access, or the end with 0 or 1 to 6: a call that was accepted is refused at no step before its end. Only a
  -- reply's end has a second number, and an error's flags fit it
  pub ends : (c : Call) (block bytes : List ℕ) → Reads c bytes → Accepted c block bytes → (answers : List ℕ) → IsMet (can_end c) (end_after c block bytes answers)
  -- while there is no end, a step takes the block and the bytes that were left
  pub still_open : (c : Call) (block bytes : List ℕ) → Reads c bytes → Accepted c block bytes → (answers : List ℕ) → end_after c block bytes answers ≡ none
      → takes c (left_after c block bytes answers).block (left_after c block bytes answers).read ≡ true
  -- one end: a step after it answers 15; record and end stay, and so does every lent byte
  pub over : (c : Call) (block bytes : List ℕ) → Reads c bytes → Accepted c block bytes → (answers more : List ℕ) (e : Ending) → end_after c block bytes answers ≡ some e → Over c block bytes answers more
  -- a returned number is that of exactly one access or end (every exported contract says that what is handed out holds 16-bit words)
  pub tells : (m n : Next) → HoldsWords m → HoldsWords n → next_number m ≡ next_number n → m ≡ n
  -- and so is what a slave call that is done returns: commands are told apart by kind, by seven or ten bits and by address, statuses of a reply
  -- and counts by their numbers, the two of a reply each by its own; and a listen and a reply end with no others
  pub tells_command : (c d : SlaveCommand) → InBits c.address → InBits d.address → command_number c ≡ command_number d → c ≡ d
  pub tells_status : (size₁ sent₁ size₂ sent₂ : ℕ) → status_number (send_status size₁ sent₁) ≡ status_number (send_status size₂ sent₂) → send_status size₁ sent₁ ≡ send_status size₂ sent₂
  pub tells_counts : (m x n y : ℕ) → m < 65536 → n < 65536 → next_number (next.End (returned_both m x)) ≡ next_number (next.End (returned_both n y)) → (m ≡ n) × (x ≡ y)
  pub commanded : (chip : ℕ) (block : List ℕ) → Accepted (listen chip) block [] → (answers : List ℕ) (e : Ending) → end_after (listen chip) block [] answers ≡ some e → Commanded e
  pub replied : (chip : ℕ) (reply block : List ℕ) → Accepted (respond_to_read chip reply) block [] → (answers : List ℕ) (e : Ending) → end_after (respond_to_read chip reply) block [] answers ≡ some e → Replied (length reply) e
  -- a bad call: begin refuses with the first cause, and then every lent byte is as before
  pub refuses : (c : Call) (block bytes : List ℕ) → Reads c bytes → (e : Error) → refusal_of c (length block) (length bytes) ≡ some e → (entry_of c).begin block bytes ≡ refused_with e block bytes
  -- a bad step, on a block that is not taken: it is refused with 15, and every lent byte is as before; no other step answers 15
  pub stops : (c : Call) (block bytes : List ℕ) → Reads c bytes → takes c block bytes ≡ false → (a : ℕ) → (entry_of c).step block bytes a ≡ refused_with InvalidState block bytes
  pub goes : (c : Call) (block bytes : List ℕ) → takes c block bytes ≡ true → (a : ℕ) → (((entry_of c).step block bytes a).next ≡ next.End (failed InvalidState)) → ⊥

-- ---- demand 2: the Rust's accesses

-- the runs of a transaction one after the other, each with its bytes joined
abbrev pub runs_shown : Parts → ℕ → ℕ → ℕ → List Joined → List ℕ → Shown
runs_shown p turns chip address runs answers = shown_of 0 (program.call_of (runs_program (chip_of chip) p address runs) (λ _. done) turns) answers

-- the words that a call may write
abbrev pub words_of : Call → Rule
words_of (init chip input frequency duty) = clocking (chip_of chip) input frequency (duty_of duty)
words_of (transaction chip address list written) = addressing address
words_of (write_read chip address written) = addressing address
words_of (write chip address option written) = addressing address
words_of (read chip address option) = addressing address
words_of (init_slave ten address has second general stretching) = owning ten address has second
words_of (listen chip) = free
words_of (respond_to_write chip) = free
words_of (respond_to_read chip reply) = free

-- "The CH32V manual fixes bits, dividers and address words, embedded-hal's rules fix how neighbouring operations join, and the Rust fixes the
-- rest: same call and same answers, same accesses in order, same end, same bytes read."
pub record Demand2 : Type 0 where
  -- the manual (bits are named in crate registers alone): each word that an accepted call writes, payload apart, keeps the rule for its register
  pub words : (c : Call) (block bytes : List ℕ) → Reads c bytes → Accepted c block bytes → (answers : List ℕ) → Keeps (words_of c) (struck_after c block bytes answers)
  -- embedded-hal: an accepted transaction makes what its runs make, each with its bytes joined; so does the Rust; and so does the text with any
  -- other error check and address phase
  pub joins : (chip address : ℕ) (list written block bytes : List ℕ) → Accepted (transaction chip address list written) block bytes → (turns : ℕ) (answers : List ℕ) → length answers < turns
      → Records (transaction chip address list written) block bytes answers (runs_shown (parts.ours (chip_of chip)) turns chip address (joined (cut (operations_of list) written)) answers)
  pub rust_joins : (chip address : ℕ) (list written block bytes : List ℕ) → Accepted (transaction chip address list written) block bytes → (turns : ℕ) (answers : List ℕ)
      → rust turns (transaction chip address list written) (length bytes) answers ≡ runs_shown (the_rust (chip_of chip)) turns chip address (joined (cut (operations_of list) written)) answers
  pub joins_with : RunsJoin
  -- the rest: an accepted call hands out the accesses and the end of our text one by one, and reads the same bytes, for every list of answers
  pub same : (c : Call) (block bytes : List ℕ) → Reads c bytes → Accepted c block bytes → (turns : ℕ) (answers : List ℕ) → length answers < turns
      → Makes (entry_of c) block bytes answers (ours turns c (length bytes) answers)
  -- so its record after any list of answers IS our text's, and so are its end and the bytes read. More turns than answers make no difference
  pub records : (c : Call) (block bytes : List ℕ) → Reads c bytes → Accepted c block bytes → (turns : ℕ) (answers : List ℕ) → length answers < turns
      → Records c block bytes answers (ours turns c (length bytes) answers)
  pub enough : (c : Call) (block bytes : List ℕ) → Accepted c block bytes → (turns : ℕ) (answers : List ℕ) → length answers < turns → ours turns c (length bytes) answers ≡ ours_after c (length bytes) answers
  -- and the Rust's: its accesses and bytes are those of our text, and its end is ours with what it lacks forgotten
  pub as_the_rust : (c : Call) (room turns : ℕ) (answers : List ℕ) → rust turns c room answers ≡ forgetting (call_end_as_the_rusts c) (ours turns c room answers)
  pub rusts : (c : Call) (block bytes : List ℕ) → Reads c bytes → Accepted c block bytes → (turns : ℕ) (answers : List ℕ) → length answers < turns
      → RecordsRust c block bytes answers (rust turns c (length bytes) answers)
  -- it lacks a reply's second count, and of the first nothing is forgotten: without the second a reply IS the Rust's program
  pub counts : CountsAsTheRust
  pub second : (chip : ℕ) (reply : List ℕ) (v x : ℕ) → call_end_as_the_rusts (respond_to_read chip reply) (returned_both v x) ≡ returned v
  -- it lacks the flags of an error, and where a check decided its error is the class that its own order finds in the word
  pub flags : FlagsDecide
  -- WHERE THE PORT IS THE RUST UNCHANGED. On a chip without ch32v4, for every list of answers
  pub without_ch32v4 : (c : Call) (block bytes : List ℕ) → Reads c bytes → Accepted c block bytes → checks_berr (checks_of c) ≡ false → (turns : ℕ) (answers : List ℕ) → length answers < turns
      → IsTheRust c block bytes answers (rust turns c (length bytes) answers)
  -- with ch32v4, for every list of answers in which no word that an error check reads has BERR
  pub without_berr : (c : Call) (block bytes : List ℕ) → Reads c bytes → Accepted c block bytes → (turns : ℕ) (answers : List ℕ) → length answers < turns → BerrUnread turns c (length bytes) answers
      → IsTheRust c block bytes answers (rust turns c (length bytes) answers)
  -- which is so if no answer to a read of STAR1 in the record has it
  pub unread : (c : Call) (block bytes : List ℕ) → Reads c bytes → Accepted c block bytes → (turns : ℕ) (answers : List ℕ) → length answers < turns → has_berr (record_after c block bytes answers) ≡ false
      → BerrUnread turns c (length bytes) answers
  -- and exactly, by the end: it is, unless the flags of the end are a word at which the two orders differ; there ours ends with Bus, and the Rust
  -- with another error
  pub unmoved : (c : Call) (block bytes : List ℕ) → Reads c bytes → Accepted c block bytes → (turns : ℕ) (answers : List ℕ) → length answers < turns
      → check_departs (checks_of c) (end_after c block bytes answers) ≡ false → IsTheRust c block bytes answers (rust turns c (length bytes) answers)
  pub moved : (c : Call) (block bytes : List ℕ) → Reads c bytes → Accepted c block bytes → (turns : ℕ) (answers : List ℕ) → length answers < turns
      → check_departs (checks_of c) (end_after c block bytes answers) ≡ true → EndsMoved (end_after c block bytes answers) (rust turns c (length bytes) answers).end
  -- the words are those with BERR set and ARLO clear on ch32v4 that have one more flag that is an error (`departs`, errors/specs/Departs.antt)
  pub classes : ClassIsTheRusts
  -- nothing is forgotten of any other end that no error check decided
  pub others : (c : Call) (e : Error) → call_end_as_the_rusts c (failed e) ≡ failed e
  pub returns : (c : Call) (v : ℕ) → call_end_as_the_rusts c (returned v) ≡ returned v
  -- a call whose first cause is 6 or 9 is refused by the Rust with the same error, before any access; without an added cause there is no other
  pub refused : (c : Call) (room : ℕ) (e : Error) → own_refusal c room ≡ some e → the_rusts e ≡ true → (turns : ℕ) (answers : List ℕ) → length answers < turns
      → rust turns c room answers ≡ no_more (some (failed e))
  pub unadded : (c : Call) (room : ℕ) (e : Error) → NoneAdded c room → own_refusal c room ≡ some e → the_rusts e ≡ true

-- ---- demand 3: no payload in the record

-- "steps refused after the end included": a list of answers may go on behind the end (`over` of demand 1)

-- record, struck and unstruck, and end are those of demand 2. Both records are equally long, so that no access could hide behind the end of
-- layer 1's
pub record OfDemand2 (c : Call) (block bytes answers : List ℕ) : Type 0 where
  pub as_long : length (record_after c block bytes answers) ≡ length (ours_after c (length bytes) answers).events
  pub struck : struck_after c block bytes answers ≡ struck_in (ours_after c (length bytes) answers)
  pub unstruck : Records c block bytes answers (ours_after c (length bytes) answers)

-- two calls, whatever their blocks and the bytes to read into were before: after begin and after each step struck records are equal, and
-- ends alike; and both calls' are those of demand 2
pub record SeenAlike (Alike : Ending → Ending → Type 0) (c₁ c₂ : Call) (b₁ r₁ b₂ r₂ xs ys : List ℕ) : Type 0 where
  pub records : (i : ℕ) → struck_after c₁ b₁ r₁ (take i xs) ≡ struck_after c₂ b₂ r₂ (take i ys)
  pub ends : (i : ℕ) → EndsAlike Alike (end_after c₁ b₁ r₁ (take i xs)) (end_after c₂ b₂ r₂ (take i ys))
  pub first : (i : ℕ) → OfDemand2 c₁ b₁ r₁ (take i xs)
  pub second : (i : ℕ) → OfDemand2 c₂ b₂ r₂ (take i ys)

-- the ends of two replies of these lengths: both fail alike, or both are done, where one number of bytes sent, and one for the second count,
-- give each by its length the bytes left over
pub data RepliesEnd (n m : ℕ) : Ending → Ending → Type 0 where
  both_failed : (f : Failure) → RepliesEnd n m (Err f) (Err f)
  both_done : (sent second : ℕ) → IsSecond sent second → RepliesEnd n m (left_both n sent second) (left_both m sent second)

-- two transfers of one kind, chip and address (a transaction, a write-read, or a frame with its option) whose runs agree in direction and
-- total length
pub data SameRuns : Call → ℕ → Call → ℕ → Type 0 where
  transactions : {chip address : ℕ} {list₁ written₁ list₂ written₂ : List ℕ} {n m : ℕ}
      → spans_by kind.Transaction list₁ (length written₁) n ≡ spans_by kind.Transaction list₂ (length written₂) m
      → SameRuns (transaction chip address list₁ written₁) n (transaction chip address list₂ written₂) m
  write_reads : {chip address : ℕ} {written₁ written₂ : List ℕ} {n : ℕ} → length written₁ ≡ length written₂ → SameRuns (write_read chip address written₁) n (write_read chip address written₂) n
  writes : {chip address option : ℕ} {written₁ written₂ : List ℕ} {n m : ℕ} → length written₁ ≡ length written₂ → SameRuns (write chip address option written₁) n (write chip address option written₂) m
  reads : {chip address option : ℕ} {n : ℕ} → SameRuns (read chip address option) n (read chip address option) n

-- each run's written bytes, joined
abbrev pub bytes_of_run : Joined → List ℕ
bytes_of_run (JW bytes) = bytes
bytes_of_run (JR n) = []

abbrev pub written_runs : Call → List (List ℕ)
written_runs (init chip input frequency duty) = []
written_runs (transaction chip address list written) = map bytes_of_run (joined (cut (operations_of list) written))
written_runs (write_read chip address written) = written ∷ [] ∷ []
written_runs (write chip address option written) = written ∷ []
written_runs (read chip address option) = [] ∷ []
written_runs (init_slave ten address has second general stretching) = []
written_runs (listen chip) = []
written_runs (respond_to_write chip) = []
written_runs (respond_to_read chip reply) = []

-- payloads agree: what each run writes, and the answers at payload reads
pub record PayloadsAgree (c₁ c₂ : Call) (b₁ r₁ b₂ r₂ xs ys : List ℕ) : Type 0 where
  pub written : written_runs c₁ ≡ written_runs c₂
  pub answered : payload_in (record_after c₁ b₁ r₁ xs) ≡ payload_in (record_after c₂ b₂ r₂ ys)

-- unstruck records are equal, and ends too, after begin and after each step
pub record SeenSame (c₁ c₂ : Call) (b₁ r₁ b₂ r₂ xs ys : List ℕ) : Type 0 where
  pub records : (i : ℕ) → record_after c₁ b₁ r₁ (take i xs) ≡ record_after c₂ b₂ r₂ (take i ys)
  pub ends : (i : ℕ) → end_after c₁ b₁ r₁ (take i xs) ≡ end_after c₂ b₂ r₂ (take i ys)

-- "Nobody who records all accesses of a call, payload values struck out, can learn its payload."
pub record Demand3 : Type 0 where
  -- "Take any two accepted master transfers (transactions, write-reads or frames) of one kind, chip and address, whose runs agree in direction
  -- and total length, divided into operations in any way. For every two lists of answers, equal except at payload reads and fed step by step
  -- from begin on, struck records and ends are equal after begin and after each step, and are those of demand 2."
  pub transfers : (c₁ c₂ : Call) (b₁ r₁ b₂ r₂ : List ℕ) → SameRuns c₁ (length r₁) c₂ (length r₂) → Reads c₁ r₁ → Reads c₂ r₂ → Accepted c₁ b₁ r₁ → Accepted c₂ b₂ r₂
      → (xs ys : List ℕ) → DifferAtPayload (record_after c₁ b₁ r₁ xs) xs ys → SeenAlike Same c₁ c₂ b₁ r₁ b₂ r₂ xs ys
  -- "If payloads agree too, unstruck records are equal; in any case each is demand 2's."
  pub transfers_whole : (c₁ c₂ : Call) (b₁ r₁ b₂ r₂ : List ℕ) → SameRuns c₁ (length r₁) c₂ (length r₂) → Reads c₁ r₁ → Reads c₂ r₂ → Accepted c₁ b₁ r₁ → Accepted c₂ b₂ r₂
      → (xs ys : List ℕ) → DifferAtPayload (record_after c₁ b₁ r₁ xs) xs ys → PayloadsAgree c₁ c₂ b₁ r₁ b₂ r₂ xs ys → SeenSame c₁ c₂ b₁ r₁ b₂ r₂ xs ys
  -- "All this holds as well for any two accepted slave receives of one chip and buffer length."
  pub receives : (chip : ℕ) (b₁ r₁ b₂ r₂ : List ℕ) → length r₁ ≡ length r₂ → Accepted (respond_to_write chip) b₁ r₁ → Accepted (respond_to_write chip) b₂ r₂
      → (xs ys : List ℕ) → DifferAtPayload (record_after (respond_to_write chip) b₁ r₁ xs) xs ys → SeenAlike Same (respond_to_write chip) (respond_to_write chip) b₁ r₁ b₂ r₂ xs ys
  pub receives_whole : (chip : ℕ) (b₁ r₁ b₂ r₂ : List ℕ) → length r₁ ≡ length r₂ → Accepted (respond_to_write chip) b₁ r₁ → Accepted (respond_to_write chip) b₂ r₂
      → (xs ys : List ℕ) → DifferAtPayload (record_after (respond_to_write chip) b₁ r₁ xs) xs ys → PayloadsAgree (respond_to_write chip) (respond_to_write chip) b₁ r₁ b₂ r₂ xs ys
      → SeenSame (respond_to_write chip) (respond_to_write chip) b₁ r₁ b₂ r₂ xs ys
  -- "For any two accepted slave replies at one chip, whatever their bytes and lengths, and every list of answers, the same fed to both, struck
  -- records are equal after begin and after each step, so that beside payload values only the end may depend on the length; at equal lengths
  -- ends are equal too. Records, unstruck as well, and ends are those of demand 2." An end has both counts.
  pub replies : (chip : ℕ) (reply₁ reply₂ b₁ b₂ : List ℕ) → Accepted (respond_to_read chip reply₁) b₁ [] → Accepted (respond_to_read chip reply₂) b₂ [] → (answers : List ℕ)
      → SeenAlike (RepliesEnd (length reply₁) (length reply₂)) (respond_to_read chip reply₁) (respond_to_read chip reply₂) b₁ [] b₂ [] answers answers
  pub replies_of_one_length : (chip : ℕ) (reply₁ reply₂ b₁ b₂ : List ℕ) → length reply₁ ≡ length reply₂ → Accepted (respond_to_read chip reply₁) b₁ [] → Accepted (respond_to_read chip reply₂) b₂ []
      → (answers : List ℕ) → SeenAlike Same (respond_to_read chip reply₁) (respond_to_read chip reply₂) b₁ [] b₂ [] answers answers
