-- Ours: the text of Rust.antt with our parts in the place of the Rust's, each function under its own name.
use Rattle.std.specs.Prelude.{false, cond, List, ℕ}
use Rattle.registers.specs.declared.chip.Chip.{Chip}
use Rattle.registers.specs.Bits.{AF}
use Rattle.registers.specs.Word.{has_bit}
use Rattle.access.specs.Program.{Blocking}
use Rattle.errors.specs.Check.{check_errors}
use Rattle.slave.specs.declared.command.SlaveCommand.{SlaveCommand}
use Rattle.slave.specs.Rust as text
use Rattle.slave.specs.Rust.{SendStatus, send_status}

-- ---- our parts

module _ (chip : Chip) where
  abbrev pub slave_handle_errors : ℕ → Blocking (Unit {0})
  slave_handle_errors = check_errors chip false

-- what a reply counts: the Rust's status, and document 02's second one beside it
pub record Counts : Type 0 where
  pub status : SendStatus
  pub second : SendStatus

-- the bytes sent, for the second: one is taken off at AF too; at STOPF and ADDR it is off already
abbrev pub sent_for_second : Chip → ℕ → ℕ → ℕ
sent_for_second chip star1 sent = cond (has_bit AF star1) (text.taken_off chip star1 sent) sent

abbrev pub counts : Chip → ℕ → ℕ → ℕ → Counts
counts chip star1 total sent = record { status = send_status total sent; second = send_status total (sent_for_second chip star1 sent) }

-- ---- the text with them

module _ (chip : Chip) where
  abbrev pub check_errors_and_time : ℕ → Blocking (Unit {0})
  check_errors_and_time = text.check_errors_and_time chip (slave_handle_errors chip)

  abbrev pub blocking_listen : Blocking SlaveCommand
  blocking_listen = text.blocking_listen chip (slave_handle_errors chip)

  abbrev pub blocking_respond_to_write : ℕ → Blocking ℕ
  blocking_respond_to_write = text.blocking_respond_to_write chip (slave_handle_errors chip)

  abbrev pub blocking_respond_to_read : List ℕ → Blocking Counts
  blocking_respond_to_read = text.blocking_respond_to_read chip (slave_handle_errors chip) Counts (counts chip)
