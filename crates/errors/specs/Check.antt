-- Our error check, for master and slave: all error flags of a status word are cleared, the first of the chip's list decides, and the flags are
-- reported with its error.
use Rattle.std.specs.Prelude.{Bool, true, cond, not, ◌&&◌, ℕ, eqb, Option}
use Rattle.registers.specs.declared.chip.Chip.{Chip}
use Rattle.registers.specs.declared.register.Register.{Register}
use Rattle.registers.specs.declared.register.Register.TheVariants.{Star1}
use Rattle.registers.specs.Numbers.{register_number}
use Rattle.registers.specs.Bits.{BERR}
use Rattle.registers.specs.Word.{has_bit}
use Rattle.registers.specs.Flags.{error_flags, clear_error}
use Rattle.access.specs.declared.ending.Failure.{Failure}
use Rattle.access.specs.Program.{Access, read, write, send, clock, Blocking, cut, write_register, only_if, ◌>>◌}
use Rattle.errors.specs.Classes.{error_of, decided}

-- the error of a word's class, if it has one
abbrev pub report : Option Failure → Blocking (Unit {0})
report c = λ n h k. decided c h (k tt)

unfoldable pub check_errors : Chip → Bool → ℕ → Blocking (Unit {0})
check_errors chip nack status = do
  let observed = error_flags status
  only_if (not (eqb observed 0)) (write_register Star1 (clear_error observed))
  report (error_of chip nack status)

-- the same check, which goes no further at a word with BERR: a text with it shows whether an error check reads such a word
abbrev pub check_until_berr : Chip → Bool → ℕ → Blocking (Unit {0})
check_until_berr chip nack status = λ n h k. cond (has_bit BERR status) cut (check_errors chip nack status n h k)

-- a word of STAR1 with BERR; and answers that are none
abbrev pub is_berr : Register → ℕ → Bool
is_berr r w = eqb (register_number r) (register_number Star1) && has_bit BERR w

abbrev pub has_no_berr : Access → ℕ → Bool
has_no_berr (read r) w = not (is_berr r w)
has_no_berr (write r v) w = true
has_no_berr (send b) w = true
has_no_berr clock w = true
