-- The starred edges, the reserved addresses, and calls of which secrecy speaks, by computation.
-- Assumes nothing.
use Rattle.std.specs.Prelude.{Err}
use mathlib.Core.Path.{◌≡◌, refl}
use mathlib.Core.Bool.{false}
use mathlib.Core.List.{List, [], ◌∷◌}
use mathlib.Core.Option.{some}
use Prim.Native.Nat.{ℕ}
use native.Mathlib.Omega.{arith}
use lib.ListN.{take}
use Rattle.registers.specs.declared.chip.Chip.{Chip}
use Rattle.registers.specs.Word.{has_bit, field_of}
use Rattle.registers.specs.Flags.{error_flags}
use Rattle.registers.specs.Addresses.{own_ten}
use Rattle.access.specs.declared.ending.Error.TheVariants.{Overrun, Timeout}
use Rattle.access.specs.Endings.{flagged, failed, returned, returned_both}
use Rattle.access.specs.Program.{late}
use Rattle.access.specs.Record.{DifferInPayload, Same, SameStruck}
use Rattle.access.specs.Edges.{EdgesHold}
use Rattle.alike.specs.Like.{forgetting}
use Rattle.errors.specs.Classes.{error_of}
use Rattle.errors.specs.AsTheRust.{end_as_the_rusts}
use Rattle.slave.specs.declared.state.Kind.TheVariants.{Listen, RespondToWrite, RespondToRead}
use Rattle.slave.specs.Rust as rust
use Rattle.slave.specs.Reserved.{config_reserved}
use Rattle.slave.specs.Init.{config_fault}
use Rattle.slave.specs.Machine.{owed, advance}
use Rattle.slave.specs.Calls.{SlaveLent, Accepted, slave_shown, rust_slave, ours_slave}
use Rattle.slave.specs.Claims.{Any}
use Rattle.slave.specs.Edges.{address_edges, reserved_edges}
use Rattle.slave.proofs.Secret.{slave_is_secret}

edges : EdgesHold address_edges
unfolding config_fault config_reserved own_ten
edges = refl

reserved_edges_lem : EdgesHold reserved_edges
unfolding config_fault config_reserved
reserved_edges_lem = refl

-- neither i2c_v3 nor ch32v4
abbrev plain : Chip
plain = record { i2c_v3 = false; ch32v4 = false }

-- ---- two replies of different lengths

abbrev two : SlaveLent
two = record { reply = 5 ∷ 6 ∷ []; room = 0 }

abbrev three : SlaveLent
three = record { reply = 7 ∷ 8 ∷ 9 ∷ []; room = 0 }

two_accepted : Accepted RespondToRead two
two_accepted = omega arith

three_accepted : Accepted RespondToRead three
three_accepted = omega arith

-- TXE twice, then STOPF with TXE; STOPF is cleared, and one answer is too many
abbrev answers : List ℕ
answers = 0x80 ∷ 0 ∷ 0x80 ∷ 0 ∷ 0x90 ∷ 0 ∷ 1 ∷ 0 ∷ 7 ∷ []

nothing_learnt : (i : ℕ) → SameStruck Any (slave_shown plain RespondToRead two (take i answers)) (slave_shown plain RespondToRead three (take i answers))
nothing_learnt = slave_is_secret.replied plain two three two_accepted three_accepted answers

-- the ends differ: nothing is left over, and one byte
two_ends : (slave_shown plain RespondToRead two answers).end ≡ some (returned 0)
unfolding slave_shown owed advance has_bit error_flags
two_ends = refl

three_ends : (slave_shown plain RespondToRead three answers).end ≡ some (returned_both 1 1)
unfolding slave_shown owed advance has_bit error_flags
three_ends = refl

-- the Rust's, by layer 1
three_of_the_rust : rust_slave 10 plain RespondToRead three answers ≡ forgetting (end_as_the_rusts plain false) (slave_shown plain RespondToRead three answers)
unfolding rust_slave slave_shown end_as_the_rusts rust.blocking_respond_to_read rust.clear_stopf owed advance has_bit error_flags
three_of_the_rust = refl

three_of_ours : ours_slave 10 plain RespondToRead three answers ≡ slave_shown plain RespondToRead three answers
unfolding ours_slave slave_shown rust.blocking_respond_to_read rust.clear_stopf owed advance has_bit error_flags
three_of_ours = refl

-- ---- the master refuses a byte: TXE three times, then AF, with TXE clear or set; clear_af's own read of STAR1 shows the other

abbrev waiting : List ℕ
waiting = 0x80 ∷ 0 ∷ 0x80 ∷ 0 ∷ 0x80 ∷ 0 ∷ 0x400 ∷ 0x480 ∷ 0 ∷ []

abbrev none_waits : List ℕ
none_waits = 0x80 ∷ 0 ∷ 0x80 ∷ 0 ∷ 0x80 ∷ 0 ∷ 0x480 ∷ 0x400 ∷ 0 ∷ []

-- the third byte still waits in the data register: the Rust calls it sent, and the second count does not
third_waits : (slave_shown plain RespondToRead three waiting).end ≡ some (returned_both 0 1)
unfolding slave_shown owed advance has_bit error_flags
third_waits = refl

third_of_the_rust : (rust_slave 10 plain RespondToRead three waiting).end ≡ some (returned 0)
unfolding rust_slave rust.blocking_respond_to_read rust.clear_af has_bit error_flags
third_of_the_rust = refl

third_taken : (slave_shown plain RespondToRead three none_waits).end ≡ some (returned_both 0 0)
unfolding slave_shown owed advance has_bit error_flags
third_taken = refl

-- of two bytes it is the padding that waits, and both were taken
padding_waits : (slave_shown plain RespondToRead two waiting).end ≡ some (returned_both 0 0)
unfolding slave_shown owed advance has_bit error_flags
padding_waits = refl

-- ---- STOP finds the second byte of three waiting: it is off both counts

stop_finds_it : (slave_shown plain RespondToRead three (0x80 ∷ 0 ∷ 0x80 ∷ 0 ∷ 0x10 ∷ 0x90 ∷ 1 ∷ 0 ∷ [])).end ≡ some (returned_both 2 2)
unfolding slave_shown owed advance has_bit error_flags
stop_finds_it = refl

-- ---- a slave's error says AF among its flags, which decides nothing

overrun_ends : (slave_shown plain RespondToWrite two (0x0c00 ∷ 0 ∷ 0 ∷ 0 ∷ 0 ∷ [])).end ≡ some (Err (flagged Overrun 0x0c00))
unfolding slave_shown owed advance has_bit error_flags error_of
overrun_ends = refl

-- AF alone is no error: the clock is asked, and it is late
late_ends : (slave_shown plain RespondToWrite two (0x0400 ∷ 0 ∷ 1 ∷ 0 ∷ 0 ∷ 0 ∷ [])).end ≡ some (failed Timeout)
unfolding slave_shown owed advance has_bit error_flags error_of late
late_ends = refl

-- ---- two receives of one length that get other bytes

abbrev one : SlaveLent
one = record { reply = []; room = 1 }

one_accepted : Accepted RespondToWrite one
one_accepted = omega arith

-- RXNE twice, the second byte past the buffer, then ADDR
abbrev xs : List ℕ
xs = 0x40 ∷ 0x11 ∷ 0x40 ∷ 0x22 ∷ 2 ∷ []

abbrev ys : List ℕ
ys = 0x40 ∷ 0x99 ∷ 0x40 ∷ 0 ∷ 2 ∷ []

differ : DifferInPayload (slave_shown plain RespondToWrite one xs).events xs ys
unfolding slave_shown owed advance has_bit error_flags
differ = (refl, (tt, (refl, (tt, (refl, tt)))))

received_nothing_learnt : (i : ℕ) → SameStruck Same (slave_shown plain RespondToWrite one (take i xs)) (slave_shown plain RespondToWrite one (take i ys))
received_nothing_learnt = slave_is_secret.received plain one one one_accepted refl xs ys differ

-- one byte is stored, and the call is done
received_arrived : (slave_shown plain RespondToWrite one xs).arrivals ≡ record { place = 0; byte = 0x11 } ∷ []
unfolding slave_shown owed advance has_bit field_of error_flags
received_arrived = refl

received_ends : (slave_shown plain RespondToWrite one ys).end ≡ some (returned 1)
unfolding slave_shown owed advance has_bit error_flags
received_ends = refl

-- ---- listening: a read of the ten-bit address 0x123 is the command 0x1523

abbrev none_lent : SlaveLent
none_lent = record { reply = []; room = 0 }

-- nothing stale; ADDR at the second look; STAR2 with TRA; OADDR1
abbrev addressed : List ℕ
addressed = 0 ∷ 1 ∷ 0 ∷ 0 ∷ 0 ∷ 0 ∷ 1 ∷ 0 ∷ 0 ∷ 0 ∷ 2 ∷ 4 ∷ 0xc123 ∷ []

listened : (slave_shown plain Listen none_lent addressed).end ≡ some (returned 0x1523)
unfolding slave_shown owed advance has_bit error_flags field_of late
listened = refl
