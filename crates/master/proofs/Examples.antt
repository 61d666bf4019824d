-- Document 01's bench example in layers 1 and 2, and pairs of calls of which secrecy speaks, by computation.
-- Assumes nothing.
use Rattle.std.specs.Prelude.{Err}
use mathlib.Core.Path.{◌≡◌, refl}
use mathlib.Core.Bool.{false}
use mathlib.Core.List.{List, [], ◌∷◌}
use mathlib.Core.Option.{none, some}
use Prim.Native.Nat.{ℕ}
use lib.ListN.{take}
use Rattle.registers.specs.declared.register.Register.{Register}
use Rattle.registers.specs.declared.register.Register.TheVariants.{Ctlr1, Ctlr2, Datar, Star1, Star2}
use Rattle.registers.specs.Word.{has_bit, put_bit, field_of, put_field}
use Rattle.registers.specs.Flags.{error_flags, clear_error}
use Rattle.registers.specs.Addresses.{address_word}
use Rattle.access.specs.declared.ending.Error.TheVariants.{Arbitration, Nack, Timeout}
use Rattle.access.specs.Endings.{Ending, flagged, done, failed}
use Rattle.access.specs.Program.{read, write, late, check_timeout}
use Rattle.access.specs.Record.{Event, Shown, DifferInPayload, Same, SameStruck}
use Rattle.operations.specs.declared.operation.Direction.TheVariants as direction
use Rattle.operations.specs.Operations.{operations_of, shaped}
use Rattle.operations.specs.Runs.{span, runs_from, runs_of, run_from}
use Rattle.operations.specs.Search.{fault_from}
use Rattle.errors.specs.Classes.{error_of}
use Rattle.errors.specs.Check.{check_errors}
use Rattle.master.specs.declared.call.Kind.TheVariants as kind
use Rattle.master.specs.declared.call.Call.{Call}
use Rattle.master.specs.Rust as rust
use Rattle.master.specs.Ours as ours
use Rattle.master.specs.Machine.{owed, advance}
use Rattle.master.specs.Calls.{Lent, refusal, spans_of, call_shown, rust_with, ours_with}
use Rattle.master.specs.Claims.{Comparable}
use Rattle.master.proofs.Secret.{master_is_secret}

-- neither i2c_v3 nor ch32v4, and the address 0x21
abbrev call : Call
call = record { chip = record { i2c_v3 = false; ch32v4 = false }; address = 0x21; kind = kind.Transaction }

abbrev asked : Register → ℕ → Event
asked r a = record { what = read r; answer = some a }

abbrev wrote : Register → ℕ → Event
wrote r v = record { what = write r v; answer = none }

-- ---- document 01's example: an empty write that nobody acknowledges

abbrev empty_write : Lent
empty_write = record { list = 0 ∷ 0 ∷ 0 ∷ []; written = []; room = 0 }

-- the answers of the `A` line; a 0 stands for what is ignored after a write
abbrev given : List ℕ
given = 0x0001 ∷ 0x0001 ∷ 0x0000 ∷ 0x0001 ∷ 0 ∷ 0x0001 ∷ 0x0001 ∷ 0x0003 ∷ 0 ∷ 0x0400 ∷ 0 ∷ 0x0008 ∷ 0 ∷ 0x0001 ∷ 0x0003 ∷ 0x0001 ∷ 0 ∷ []

abbrev expected : Ending → Shown
expected e =
    record {
      events = asked Ctlr1 0x0001 ∷ asked Ctlr1 0x0001 ∷ asked Star1 0x0000 ∷ asked Ctlr1 0x0001 ∷ wrote Ctlr1 0x0101 ∷ asked Star1 0x0001 ∷ asked Ctlr1 0x0001 ∷ asked Star2 0x0003 ∷ wrote Datar 0x0042 ∷ asked Star1 0x0400 ∷ wrote Star1 0xfbff ∷ asked Ctlr2 0x0008 ∷ wrote Ctlr2 0x0008 ∷ asked Ctlr1 0x0001 ∷ asked Star2 0x0003 ∷ asked Ctlr1 0x0001 ∷ wrote Ctlr1 0x0201 ∷ [];
      arrivals = [];
      end = some e;
    }

-- our error check says the flags with the error, and the Rust's does not
in_layer_2 : call_shown call empty_write given ≡ expected (Err (flagged Nack 0x0400))
unfolding call_shown refusal shaped fault_from operations_of runs_of runs_from run_from owed advance has_bit put_bit field_of put_field error_flags clear_error address_word error_of late
in_layer_2 = refl

in_the_rust : rust_with 18 call empty_write given ≡ expected (failed Nack)
unfolding rust_with operations_of rust.blocking_transaction rust.validate_address rust.validate_operations rust.validate_from rust.transact rust.write_group rust.write_bytes rust.start_and_address rust.launch_start rust.wait_stop_finished rust.wait_flag rust.check_and_clear_error_flags rust.abort_transfer rust.finish_transfer rust.generate_stop rust.checked_add has_bit put_bit field_of put_field error_flags clear_error address_word check_timeout late
in_the_rust = refl

in_ours : ours_with 18 call empty_write given ≡ expected (Err (flagged Nack 0x0400))
unfolding ours_with operations_of rust.blocking_transaction rust.validate_address rust.validate_operations rust.validate_from rust.transact rust.write_group rust.write_bytes rust.start_and_address rust.launch_start rust.wait_stop_finished rust.wait_flag ours.check_and_clear_error_flags check_errors error_of rust.abort_transfer rust.finish_transfer rust.generate_stop rust.checked_add has_bit put_bit field_of put_field error_flags clear_error address_word check_timeout late
in_ours = refl

-- ---- an overrun cleared with an arbitration lost, and in the word before a BERR that is no error on this chip

abbrev both : List ℕ
both = 0 ∷ 0 ∷ 0 ∷ 0 ∷ 0 ∷ 0x0100 ∷ 0 ∷ 0 ∷ 0x0a00 ∷ 0 ∷ 0 ∷ 0 ∷ 0 ∷ 1 ∷ 0x8000 ∷ 0 ∷ []

both_shown : (call_shown call empty_write both).end ≡ some (Err (flagged Arbitration 0x0a00))
unfolding call_shown refusal shaped fault_from operations_of runs_of runs_from run_from owed advance has_bit put_bit field_of put_field error_flags clear_error address_word error_of late
both_shown = refl

-- the same BERR and then a late clock: no check decided
abbrev late_clock : List ℕ
late_clock = 0 ∷ 0 ∷ 0 ∷ 0 ∷ 0 ∷ 0x0100 ∷ 0 ∷ 1 ∷ 0 ∷ 0 ∷ 0 ∷ 0 ∷ 0 ∷ 0 ∷ []

late_shown : (call_shown call empty_write late_clock).end ≡ some (failed Timeout)
unfolding call_shown refusal shaped fault_from operations_of runs_of runs_from run_from owed advance has_bit put_bit field_of put_field error_flags clear_error address_word error_of late
late_shown = refl

-- ---- the same runs, divided differently

-- two writes of one byte and a read of two; a write of two bytes, an empty write and two reads of one
abbrev first_lent : Lent
first_lent = record { list = 0 ∷ 1 ∷ 0 ∷ 0 ∷ 1 ∷ 0 ∷ 1 ∷ 2 ∷ 0 ∷ []; written = 1 ∷ 2 ∷ []; room = 2 }

abbrev second_lent : Lent
second_lent = record { list = 0 ∷ 2 ∷ 0 ∷ 0 ∷ 0 ∷ 0 ∷ 1 ∷ 1 ∷ 0 ∷ 1 ∷ 1 ∷ 0 ∷ []; written = 7 ∷ 8 ∷ []; room = 2 }

comparable : Comparable call first_lent second_lent
unfolding refusal shaped fault_from operations_of runs_of runs_from
comparable = record { first = refl; second = refl; runs = refl }

-- answers to the whole call and one more; the two bytes read differ
abbrev xs : List ℕ
xs = 0 ∷ 0 ∷ 0 ∷ 0 ∷ 0 ∷ 1 ∷ 0 ∷ 1 ∷ 0 ∷ 2 ∷ 0 ∷ 0x80 ∷ 0 ∷ 4 ∷ 0x80 ∷ 0 ∷ 4 ∷ 0 ∷ 0 ∷ 0 ∷ 0 ∷ 0 ∷ 0 ∷ 0 ∷ 1 ∷ 0 ∷ 1 ∷ 0 ∷ 2 ∷ 0 ∷ 0 ∷ 0 ∷ 4 ∷ 0 ∷ 0 ∷ 0x41 ∷ 0x42 ∷ 0 ∷ 0 ∷ 0 ∷ 9 ∷ []

abbrev ys : List ℕ
ys = 0 ∷ 0 ∷ 0 ∷ 0 ∷ 0 ∷ 1 ∷ 0 ∷ 1 ∷ 0 ∷ 2 ∷ 0 ∷ 0x80 ∷ 0 ∷ 4 ∷ 0x80 ∷ 0 ∷ 4 ∷ 0 ∷ 0 ∷ 0 ∷ 0 ∷ 0 ∷ 0 ∷ 0 ∷ 1 ∷ 0 ∷ 1 ∷ 0 ∷ 2 ∷ 0 ∷ 0 ∷ 0 ∷ 4 ∷ 0 ∷ 0 ∷ 0x99 ∷ 0 ∷ 0 ∷ 0 ∷ 0 ∷ 9 ∷ []

differ : DifferInPayload (call_shown call first_lent xs).events xs ys
unfolding call_shown refusal shaped fault_from operations_of runs_of runs_from run_from owed advance has_bit put_bit field_of put_field error_flags clear_error address_word error_of late
differ = (refl, (refl, (refl, (refl, (refl, (refl, (refl, (refl, (refl, (refl, (refl, (refl, (refl, (refl, (refl, (refl, (refl, (refl, (refl, (refl, (refl, (refl, (refl, (refl, (refl, (refl, (refl, (refl, (refl, (refl, (refl, (refl, (refl, (refl, (refl, (tt, (tt, (refl, (refl, (refl, (refl, tt)))))))))))))))))))))))))))))))))))))))))

nothing_learnt : (i : ℕ) → SameStruck Same (call_shown call first_lent (take i xs)) (call_shown call second_lent (take i ys))
nothing_learnt = master_is_secret.hidden call first_lent second_lent comparable xs ys differ

-- both calls are done, and the bytes arrived
first_arrived : (call_shown call first_lent xs).arrivals ≡ record { place = 0; byte = 0x41 } ∷ record { place = 1; byte = 0x42 } ∷ []
unfolding call_shown refusal shaped fault_from operations_of runs_of runs_from run_from owed advance has_bit put_bit field_of put_field error_flags clear_error address_word error_of late
first_arrived = refl

second_done : (call_shown call second_lent ys).end ≡ some done
unfolding call_shown refusal shaped fault_from operations_of runs_of runs_from run_from owed advance has_bit put_bit field_of put_field error_flags clear_error address_word error_of late
second_done = refl

-- ---- an empty write is a run of its own between two read runs

abbrev one_empty : Lent
one_empty = record { list = 1 ∷ 1 ∷ 0 ∷ 0 ∷ 0 ∷ 0 ∷ 1 ∷ 1 ∷ 0 ∷ []; written = []; room = 2 }

abbrev two_empty : Lent
two_empty = record { list = 1 ∷ 1 ∷ 0 ∷ 0 ∷ 0 ∷ 0 ∷ 0 ∷ 0 ∷ 0 ∷ 1 ∷ 1 ∷ 0 ∷ []; written = []; room = 2 }

three_runs : spans_of kind.Transaction one_empty ≡ span direction.Read 1 ∷ span direction.Write 0 ∷ span direction.Read 1 ∷ []
unfolding operations_of runs_of runs_from
three_runs = refl

comparable_empty : Comparable call one_empty two_empty
unfolding refusal shaped fault_from operations_of runs_of runs_from
comparable_empty = record { first = refl; second = refl; runs = refl }

-- so both calls, given the same answers, show the same
empty_determined : (answers : List ℕ) → call_shown call one_empty answers ≡ call_shown call two_empty answers
empty_determined = master_is_secret.determined call one_empty two_empty comparable_empty refl
