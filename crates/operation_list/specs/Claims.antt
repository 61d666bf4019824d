-- What is claimed of a transaction whose operations are lent as a slice of structs: it is C's transaction with their bytes, so that the
-- demands hold of it (ch32_i2c/specs/Demands.antt), and it is our text's transaction of these operations, and so the Rust's.
use Rattle.std.specs.Prelude.{◌≡◌, true, not, ◌||◌, List, ℕ, ◌<◌, eqb, ltb, length}
use Rattle.std.proofs.Math.Option.{Option, none}
use Rattle.access.specs.declared.ending.Error.{Error}
use Rattle.access.specs.declared.ending.Error.TheVariants.{InvalidAddress, TooManyOperations, LengthMismatch}
use Rattle.access.specs.Endings.{done}
use Rattle.access.specs.Program as program
use Rattle.access.specs.Record.{Shown, shown_of}
use Rattle.alike.specs.Like.{forgetting}
use Rattle.errors.specs.AsTheRust.{end_as_the_rusts}
use Rattle.operations.specs.declared.operation.Operation.{Operation}
use Rattle.operations.specs.Operations.{operations_of}
use Rattle.operations.specs.Runs.{runs_of, written_sum, read_sum}
use Rattle.operations.specs.Search.{fault_from}
use Rattle.master.specs.Calls.{cut, refuse, or_next}
use Rattle.master.specs.Rust.{Parts, the_rust, blocking_transaction}
use Rattle.master.specs.Ours.{ours}
use Rattle.images.specs.Numbers.{chip_of}
use Rattle.ch32_i2c.specs.Fed.{Makes}
use Rattle.ch32_i2c.specs.Transfer.{transaction_begin, transaction_step}
use Rattle.ch32_i2c.specs.Demands.{Call, transaction, entry_of, own_refusal, Accepted, SameRuns}
use Rattle.operation_bytes.specs.Encoded.{encoded}

-- the call of C that it is
abbrev pub slice_call : ℕ → ℕ → List Operation → List ℕ → Call
slice_call chip address os written = transaction chip address (encoded os) written

-- its refusals by the operations: 9, 13, then 6 and 8 as they stand in the list, then 14; a list is never misshapen
abbrev pub slice_refusal : ℕ → List Operation → ℕ → ℕ → Option Error
slice_refusal address os written room =
    refuse (ltb 127 address) InvalidAddress
    (refuse (ltb 256 (length os)) TooManyOperations
    (or_next (fault_from 0 (encoded os))
    (refuse (not (eqb written (written_sum (runs_of os))) || not (eqb room (read_sum (runs_of os)))) LengthMismatch none)))

-- what our text shows of its transaction of these operations, and what the Rust shows
abbrev pub transaction_with : Parts → ℕ → ℕ → ℕ → List Operation → List ℕ → List ℕ → Shown
transaction_with p turns chip address os written answers =
    shown_of 0 (program.call_of (blocking_transaction (chip_of chip) p.check p.validate p.start address (cut os written)) (λ _. done) turns) answers

abbrev pub ours_of : ℕ → ℕ → ℕ → List Operation → List ℕ → List ℕ → Shown
ours_of turns chip = transaction_with (ours (chip_of chip)) turns chip

abbrev pub rust_of : ℕ → ℕ → ℕ → List Operation → List ℕ → List ℕ → Shown
rust_of turns chip = transaction_with (the_rust (chip_of chip)) turns chip

pub record SliceIsTheList : Type 0 where
  -- bytes of operations spell these operations and no other
  pub spells : (os : List Operation) → operations_of (encoded os) ≡ os
  -- the contracts of begin and step name the two functions of the call
  pub begins : (chip address : ℕ) (os : List Operation) (written block bytes : List ℕ)
      → (entry_of (slice_call chip address os written)).begin block bytes ≡ transaction_begin block chip address (encoded os) written bytes
  pub steps : (chip address : ℕ) (os : List Operation) (written block bytes : List ℕ) (a : ℕ)
      → (entry_of (slice_call chip address os written)).step block bytes a ≡ transaction_step block (encoded os) written bytes a
  pub refuses : (chip address : ℕ) (os : List Operation) (written : List ℕ) (room : ℕ) → own_refusal (slice_call chip address os written) room ≡ slice_refusal address os (length written) room
  -- demand 2 by the operations: an accepted call makes the accesses and the end of our text's transaction, and reads the same bytes; the
  -- Rust's transaction is ours with what it lacks forgotten
  pub same : (chip address : ℕ) (os : List Operation) (written block bytes : List ℕ) → Accepted (slice_call chip address os written) block bytes → (turns : ℕ) (answers : List ℕ) → length answers < turns
      → Makes (entry_of (slice_call chip address os written)) block bytes answers (ours_of turns chip address os written answers)
  pub as_the_rust : (chip address : ℕ) (os : List Operation) (written : List ℕ) (turns : ℕ) (answers : List ℕ)
      → rust_of turns chip address os written answers ≡ forgetting (end_as_the_rusts (chip_of chip) true) (ours_of turns chip address os written answers)
  -- demand 3's calls by the operations: two slices whose runs agree, however they are divided
  pub runs : (chip address : ℕ) (os₁ os₂ : List Operation) (written₁ written₂ : List ℕ) (n m : ℕ) → runs_of os₁ ≡ runs_of os₂ → SameRuns (slice_call chip address os₁ written₁) n (slice_call chip address os₂ written₂) m
