-- Numbers that the blocks of several calls share: the entry, the chip, and flags.
use Rattle.std.specs.Prelude.{ℕ, ◌+◌, ◌*◌, ◌/◌, ◌%◌, Bool, false, cond, eqb}
use Rattle.registers.specs.declared.chip.Chip.{Chip}

-- the entries, in the order of the C header
abbrev pub init_entry : ℕ
init_entry = 1

abbrev pub transaction_entry : ℕ
transaction_entry = 2

abbrev pub write_read_entry : ℕ
write_read_entry = 3

abbrev pub write_entry : ℕ
write_entry = 4

abbrev pub read_entry : ℕ
read_entry = 5

abbrev pub init_slave_entry : ℕ
init_slave_entry = 6

abbrev pub listen_entry : ℕ
listen_entry = 7

abbrev pub respond_to_write_entry : ℕ
respond_to_write_entry = 8

abbrev pub respond_to_read_entry : ℕ
respond_to_read_entry = 9

abbrev pub flag_number : Bool → ℕ
flag_number b = cond b 1 0

abbrev pub flags_number : Bool → Bool → Bool → Bool → ℕ
flags_number a b c d = flag_number a + flag_number b * 2 + flag_number c * 4 + flag_number d * 8

-- the flag that counts 1, 2, 4 or 8 in a number
abbrev pub flag_at : ℕ → ℕ → Bool
flag_at weight n = eqb (n / weight % 2) 1

-- a number that the flag that it tells has
unfoldable pub is_flag : ℕ → Bool
is_flag n = eqb (flag_number (flag_at 1 n)) n

-- 1 for i2c_v3, and 2 for ch32v4
abbrev pub chip_number : Chip → ℕ
chip_number c = flags_number c.i2c_v3 c.ch32v4 false false

abbrev pub chip_of : ℕ → Chip
chip_of n = record { i2c_v3 = flag_at 1 n; ch32v4 = flag_at 2 n }

unfoldable pub is_chip : ℕ → Bool
is_chip n = eqb (chip_number (chip_of n)) n
