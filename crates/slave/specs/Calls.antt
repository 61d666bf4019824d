-- The slave's calls: what is seen of them, and of the Rust.
use Rattle.std.specs.Prelude.{false, cond, List, [], ℕ, ◌≤◌, ltb, length}
use Rattle.std.proofs.Math.Option.{Option, none, some}
use Rattle.registers.specs.declared.chip.Chip.{Chip}
use Rattle.access.specs.declared.ending.Error.{Error}
use Rattle.access.specs.declared.ending.Error.TheVariants.{BufferTooLong}
use Rattle.access.specs.Endings.{Ending, done, returned, returned_both, failed}
use Rattle.access.specs.Program.{Program, Blocking, call_of}
use Rattle.access.specs.Record.{Shown, no_more, shown_of}
use Rattle.access.specs.Machine.{shown_from}
use Rattle.errors.specs.Check.{check_until_berr}
use Rattle.slave.specs.declared.config.SlaveConfig.{SlaveConfig}
use Rattle.slave.specs.declared.state.Kind.{Kind}
use Rattle.slave.specs.declared.state.Kind.TheVariants.{Listen, RespondToWrite, RespondToRead}
use Rattle.slave.specs.declared.state.Setting.{Setting}
use Rattle.slave.specs.Rust as rust
use Rattle.slave.specs.Ours as ours
use Rattle.slave.specs.Numbers.{command_number, status_number}
use Rattle.slave.specs.Init.{init_refusal, init_machine, started}
use Rattle.slave.specs.Machine.{slave, start}

-- a refused call ends before any access
abbrev pub seen_after : Option Error → Shown → Shown
seen_after (some e) shown = no_more (some (failed e))
seen_after none shown = shown

-- ---- init_slave

unfoldable pub init_shown : SlaveConfig → List ℕ → Shown
init_shown c answers = seen_after (init_refusal c) (shown_from init_machine [] (started c) answers)

unfoldable pub rust_init : ℕ → SlaveConfig → List ℕ → Shown
rust_init turns c answers = shown_of 0 (call_of (rust.into_slave c) (λ _. done) turns) answers

-- ---- listen and the two responders

-- the data of a reply, and how many bytes the buffer of a receive takes
pub record SlaveLent : Type 0 where
  pub reply : List ℕ
  pub room : ℕ

abbrev pub size_of : Kind → SlaveLent → ℕ
size_of Listen l = 0
size_of RespondToWrite l = l.room
size_of RespondToRead l = length l.reply

-- the bytes that are lent for sending
abbrev pub bytes_of : Kind → SlaveLent → List ℕ
bytes_of Listen l = []
bytes_of RespondToWrite l = []
bytes_of RespondToRead l = l.reply

abbrev pub setting_of : Chip → Kind → SlaveLent → Setting
setting_of chip x l = record { chip = chip; kind = x; size = size_of x l }

-- a responder takes no more than 65,535 bytes
abbrev pub size_refusal : ℕ → Option Error
size_refusal size = cond (ltb 65535 size) (some BufferTooLong) none

unfoldable pub slave_shown : Chip → Kind → SlaveLent → List ℕ → Shown
slave_shown chip x l answers = seen_after (size_refusal (size_of x l)) (shown_from (slave (setting_of chip x l)) (bytes_of x l) (start x) answers)

-- the text over its parts: the error check, what a reply counts, and what it returns of this
abbrev pub program_with : (ℕ → Blocking (Unit {0})) → (Counts : Type 0) → (ℕ → ℕ → ℕ → Counts) → (Counts → Ending) → ℕ → Chip → Kind → SlaveLent → Program
program_with check Counts counts left turns chip Listen l = call_of (rust.blocking_listen chip check) (λ c. returned (command_number c)) turns
program_with check Counts counts left turns chip RespondToWrite l = call_of (rust.blocking_respond_to_write chip check l.room) (λ n. returned n) turns
program_with check Counts counts left turns chip RespondToRead l = call_of (rust.blocking_respond_to_read chip check Counts counts l.reply) left turns

-- the Rust: the text with the Rust's own parts
abbrev pub rust_program_with : (ℕ → Blocking (Unit {0})) → ℕ → Chip → Kind → SlaveLent → Program
rust_program_with check = program_with check rust.SendStatus (λ star1. rust.send_status) (λ s. returned (status_number s))

abbrev pub rusts_program : ℕ → Chip → Kind → SlaveLent → Program
rusts_program turns chip = rust_program_with (rust.slave_handle_errors chip) turns chip

-- ours; a reply returns both its counts
abbrev pub both_left : ours.Counts → Ending
both_left c = returned_both (status_number c.status) (status_number c.second)

abbrev pub ours_program_with : (ℕ → Blocking (Unit {0})) → ℕ → Chip → Kind → SlaveLent → Program
ours_program_with check turns chip = program_with check ours.Counts (ours.counts chip) both_left turns chip

abbrev pub ours_program : ℕ → Chip → Kind → SlaveLent → Program
ours_program turns chip = ours_program_with (ours.slave_handle_errors chip) turns chip

unfoldable pub rust_slave : ℕ → Chip → Kind → SlaveLent → List ℕ → Shown
rust_slave turns chip x l answers = shown_of 0 (rusts_program turns chip x l) answers

unfoldable pub ours_slave : ℕ → Chip → Kind → SlaveLent → List ℕ → Shown
ours_slave turns chip x l answers = shown_of 0 (ours_program turns chip x l) answers

-- the same, which goes no further where the check reads a word with BERR
unfoldable pub until_slave : ℕ → Chip → Kind → SlaveLent → List ℕ → Shown
until_slave turns chip x l answers = shown_of 0 (ours_program_with (check_until_berr chip false) turns chip x l) answers

-- document 01's accepted call, and one without an added cause of refusal
abbrev pub Accepted : Kind → SlaveLent → Type 0
Accepted x l = size_of x l ≤ 65535
