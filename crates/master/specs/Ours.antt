-- Ours: the text of Rust.antt with our parts in the place of the Rust's, each function under its own name.
use Rattle.std.specs.Prelude.{Bool, true, List, ℕ}
use Rattle.registers.specs.declared.chip.Chip.{Chip}
use Rattle.registers.specs.declared.register.Register.TheVariants.{Star1}
use Rattle.access.specs.Program.{Blocking, pure, read_register, ◌>>◌, ◌>>=◌}
use Rattle.errors.specs.Check.{check_errors, check_until_berr}
use Rattle.master.specs.declared.call.Frame.{Frame}
use Rattle.master.specs.Rust as text
use Rattle.master.specs.Rust.{Operation, Parts}

module _ (chip : Chip) where
  -- ---- our parts

  unfoldable pub check_and_clear_error_flags : Blocking ℕ
  check_and_clear_error_flags = do
    status ← read_register Star1
    check_errors chip true status
    pure status

  abbrev pub validate_address : ℕ → Blocking (Unit {0})
  validate_address = text.validate_address chip

  abbrev pub start_and_address : Bool → ℕ → Blocking (Unit {0})
  start_and_address = text.start_and_address chip check_and_clear_error_flags

  -- the Rust's, over any check
  abbrev pub with_check : Blocking ℕ → Parts
  with_check check = record { check = check; validate = text.validate_address chip; start = text.start_and_address chip check }

  abbrev pub ours : Parts
  ours = record { check = check_and_clear_error_flags; validate = validate_address; start = start_and_address }

  -- the same, which go no further where the check reads a word with BERR
  abbrev pub check_until : Blocking ℕ
  check_until = do
    status ← read_register Star1
    check_until_berr chip true status
    pure status

  abbrev pub until_berr : Parts
  until_berr = with_check check_until

  -- ---- the text with them

  abbrev pub wait_flag : ℕ → Blocking (Unit {0})
  wait_flag = text.wait_flag chip check_and_clear_error_flags

  abbrev pub send_byte : ℕ → Blocking (Unit {0})
  send_byte = text.send_byte chip check_and_clear_error_flags

  abbrev pub recv_byte : Blocking ℕ
  recv_byte = text.recv_byte chip check_and_clear_error_flags

  abbrev pub recv_next : Blocking (Unit {0})
  recv_next = text.recv_next chip check_and_clear_error_flags

  abbrev pub take_next : Blocking (Unit {0})
  take_next = text.take_next chip check_and_clear_error_flags

  abbrev pub recv_all : ℕ → Blocking (Unit {0})
  recv_all = text.recv_all chip check_and_clear_error_flags

  abbrev pub recv_above_3 : ℕ → Blocking ℕ
  recv_above_3 = text.recv_above_3 chip check_and_clear_error_flags

  abbrev pub write_bytes : ℕ → List ℕ → Frame → Blocking (Unit {0})
  write_bytes = text.write_bytes chip check_and_clear_error_flags validate_address start_and_address

  abbrev pub blocking_read_iter : ℕ → ℕ → Frame → Blocking (Unit {0})
  blocking_read_iter = text.blocking_read_iter chip check_and_clear_error_flags validate_address start_and_address

  abbrev pub blocking_read_timeout : ℕ → ℕ → Frame → Blocking (Unit {0})
  blocking_read_timeout = text.blocking_read_timeout chip check_and_clear_error_flags validate_address start_and_address

  abbrev pub blocking_write_read : ℕ → List ℕ → ℕ → Blocking (Unit {0})
  blocking_write_read = text.blocking_write_read chip check_and_clear_error_flags validate_address start_and_address

  abbrev pub write_group : ℕ → Bool → List (List ℕ) → Bool → Blocking (Unit {0})
  write_group = text.write_group chip check_and_clear_error_flags validate_address start_and_address

  abbrev pub transact : ℕ → ℕ → List Operation → Blocking (Unit {0})
  transact = text.transact chip check_and_clear_error_flags validate_address start_and_address

  abbrev pub blocking_transaction : ℕ → List Operation → Blocking (Unit {0})
  blocking_transaction = text.blocking_transaction chip check_and_clear_error_flags validate_address start_and_address
