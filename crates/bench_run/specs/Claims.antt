-- What is claimed of the bench: it prints what layer 1 gives for the transaction that its input says, whole.
use Rattle.std.specs.Prelude.{◌≡◌, true, ◌||◌, List, map, ℕ, ◌*◌, ◌<◌, ◌≤◌, eqb, ltb, length}
use Rattle.std.proofs.Math.Option.{Option, none, some}
use Rattle.registers.specs.Word.{field_of}
use Rattle.registers.specs.Fields.{DATA}
use Rattle.access.specs.declared.ending.Error.{Error}
use Rattle.access.specs.declared.ending.Error.TheVariants.{InvalidAddress, TooManyOperations}
use Rattle.access.specs.Endings.{Ending, error_number, done, failed}
use Rattle.access.specs.Program.{Program}
use Rattle.access.specs.Program as program
use Rattle.access.specs.Record.{Shown, no_more, shown_of}
use Rattle.alike.specs.Like.{forgetting}
use Rattle.block.specs.Bytes32.{block_size}
use Rattle.operations.specs.Search.{fault_from}
use Rattle.master.specs.declared.call.Kind.TheVariants as kind
use Rattle.master.specs.Rust.{Parts, the_rust}
use Rattle.master.specs.Ours as parts
use Rattle.master.specs.Calls.{lent_with, function, refuse}
use Rattle.images.specs.Numbers.{chip_of}
use Rattle.ch32_i2c.specs.Fed.{payload_in, record_in}
use Rattle.ch32_i2c.specs.Demands.{Call, transaction, refusal_of, the_rusts, call_end_as_the_rusts, ours, rust}
use Rattle.bench_text.specs.Shown.{bad_text}
use Rattle.bench_text.specs.Input.{Said, bad_line, call, input_of}
use Rattle.bench_run.specs.Play.{most_turns}
use Rattle.bench_run.specs.Printed.{printed_of}
use Rattle.bench_run.specs.Laid.{laid}
use Rattle.bench_run.specs.Layer1.{used_in, bytes_in, text_of}

-- the transaction that an input says, as a C program calls it
abbrev pub transaction_of : ℕ → ℕ → Said → Call
transaction_of chip address s = transaction chip address s.list s.written

-- its program in layer 1 with these parts, each loop with so many turns: what `rust_with` and `ours_with` show (`our_program`, `rust_program` below)
abbrev pub program_of : Parts → ℕ → ℕ → ℕ → Said → Program
program_of p turns chip address s = program.call_of (function p (chip_of chip) address kind.Transaction (lent_with s.list s.written s.room)) (λ _. done) turns

-- the input's answers, a word for each access that our text makes, or the Rust's
abbrev pub our_words : ℕ → ℕ → ℕ → Said → List ℕ
our_words turns chip address s = laid (program_of (parts.ours (chip_of chip)) turns chip address s) s.answers

abbrev pub rust_words : ℕ → ℕ → ℕ → Said → List ℕ
rust_words turns chip address s = laid (program_of (the_rust (chip_of chip)) turns chip address s) s.answers

-- what is seen then of our text and of the Rust's
abbrev pub our_play : ℕ → ℕ → ℕ → Said → Shown
our_play turns chip address s = ours turns (transaction_of chip address s) s.room (our_words turns chip address s)

abbrev pub rust_play : ℕ → ℕ → ℕ → Said → Shown
rust_play turns chip address s = rust turns (transaction_of chip address s) s.room (rust_words turns chip address s)

-- the same with another end
abbrev pub ending_with : Option Ending → Shown → Shown
ending_with e s = record { events = s.events; arrivals = s.arrivals; end = e }

-- the cause for which begin refuses it, if there is one
abbrev pub cause_of : ℕ → ℕ → Said → Option Error
cause_of chip address s = refusal_of (transaction_of chip address s) block_size s.room

pub record BenchPrints : Type 0 where
  -- an accepted call: the accesses, bytes and end of our text, for every number of turns above three for each answer
  pub accepted : (text read : List ℕ) → 65535 ≤ length read → (chip address : ℕ) (s : Said) → input_of text ≡ call chip address s → cause_of chip address s ≡ none
      → (turns : ℕ) → 3 * length s.answers < turns → printed_of (input_of text) read ≡ text_of (our_play turns chip address s)
  -- so the accesses and bytes of the Rust, with our end, which is the Rust's once what it lacks is forgotten
  pub rusts : (text read : List ℕ) → 65535 ≤ length read → (chip address : ℕ) (s : Said) → input_of text ≡ call chip address s → cause_of chip address s ≡ none
      → (turns : ℕ) → 3 * length s.answers < turns → printed_of (input_of text) read ≡ text_of (ending_with (our_play turns chip address s).end (rust_play turns chip address s))
  pub as_the_rust : (turns chip address : ℕ) (s : Said) → rust_play turns chip address s ≡ forgetting (call_end_as_the_rusts (transaction_of chip address s)) (our_play turns chip address s)
  -- a refused one: no access, no byte, and the number of the cause; 6 and 9 are the Rust's too
  pub refused : (text read : List ℕ) → 65535 ≤ length read → (chip address : ℕ) (s : Said) → input_of text ≡ call chip address s → (e : Error) → cause_of chip address s ≡ some e
      → printed_of (input_of text) read ≡ text_of (no_more (some (failed e)))
  pub rust_refuses : (chip address : ℕ) (s : Said) (e : Error) → cause_of chip address s ≡ some e → the_rusts e ≡ true → (turns : ℕ) → 0 < turns → rust_play turns chip address s ≡ no_more (some (failed e))
  -- the causes: the address, more than 256 operations, the list's first fault, which is 6 or 8. That no more than 65,535 bytes are lent to read
  -- adds none
  pub causes : (text : List ℕ) (chip address : ℕ) (s : Said) → input_of text ≡ call chip address s
      → cause_of chip address s ≡ refuse (ltb 127 address) InvalidAddress (refuse (ltb 768 (length s.list)) TooManyOperations (fault_from 0 s.list))
  pub faults : (text : List ℕ) (chip address : ℕ) (s : Said) → input_of text ≡ call chip address s → (e : Error) → fault_from 0 s.list ≡ some e → eqb (error_number e) 6 || eqb (error_number e) 8 ≡ true
  -- no call at all
  pub bad : (text read : List ℕ) (k : ℕ) → input_of text ≡ bad_line k → printed_of (input_of text) read ≡ bad_text k
  -- the limit: at most three accesses are made for each answer that is used, and three for each that is given are fewer than 16,384
  pub few : (chip address : ℕ) (s : Said) → cause_of chip address s ≡ none → (turns : ℕ) → 3 * length s.answers < turns
      → length (our_words turns chip address s) ≤ 3 * used_in (our_play turns chip address s).events
  pub used : (turns chip address : ℕ) (s : Said) → used_in (our_play turns chip address s).events ≤ length s.answers
  pub given : (text : List ℕ) (chip address : ℕ) (s : Said) → input_of text ≡ call chip address s → 3 * length s.answers < most_turns
  -- the room: no more bytes arrive than are lent, 65,535 at most; they are the lower bytes of the answers at payload reads
  pub within : (chip address : ℕ) (s : Said) → cause_of chip address s ≡ none → (turns : ℕ) → 3 * length s.answers < turns → length (our_play turns chip address s).arrivals ≤ s.room
  pub room : (text : List ℕ) (chip address : ℕ) (s : Said) → input_of text ≡ call chip address s → s.room ≤ 65535
  pub payload : (chip address : ℕ) (s : Said) → cause_of chip address s ≡ none → (turns : ℕ) → 3 * length s.answers < turns
      → bytes_in (our_play turns chip address s).arrivals ≡ map (field_of DATA) (payload_in (record_in (our_play turns chip address s)))
  -- the programs along which the answers are laid are those of the demands' texts
  pub our_program : (turns chip address : ℕ) (s : Said) (words : List ℕ) → ours turns (transaction_of chip address s) s.room words ≡ shown_of 0 (program_of (parts.ours (chip_of chip)) turns chip address s) words
  pub rust_program : (turns chip address : ℕ) (s : Said) (words : List ℕ) → rust turns (transaction_of chip address s) s.room words ≡ shown_of 0 (program_of (the_rust (chip_of chip)) turns chip address s) words
