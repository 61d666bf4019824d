-- The numbers that blocks share tell what they stand for.
-- Assumes nothing.
use mathlib.Core.Path.{◌≡◌, refl}
use mathlib.Core.Bool.{Bool, true, false}
use Rattle.registers.specs.declared.chip.Chip.{Chip}
use Rattle.images.specs.Numbers.{flags_number, flag_at, chip_number, chip_of}

pub record Flags (a b c d : Bool) : Type 0 where
  pub one : flag_at 1 (flags_number a b c d) ≡ a
  pub two : flag_at 2 (flags_number a b c d) ≡ b
  pub four : flag_at 4 (flags_number a b c d) ≡ c
  pub eight : flag_at 8 (flags_number a b c d) ≡ d

pub flags_back : (a b c d : Bool) → Flags a b c d
flags_back true true true true = record { one = refl; two = refl; four = refl; eight = refl }
flags_back true true true false = record { one = refl; two = refl; four = refl; eight = refl }
flags_back true true false true = record { one = refl; two = refl; four = refl; eight = refl }
flags_back true true false false = record { one = refl; two = refl; four = refl; eight = refl }
flags_back true false true true = record { one = refl; two = refl; four = refl; eight = refl }
flags_back true false true false = record { one = refl; two = refl; four = refl; eight = refl }
flags_back true false false true = record { one = refl; two = refl; four = refl; eight = refl }
flags_back true false false false = record { one = refl; two = refl; four = refl; eight = refl }
flags_back false true true true = record { one = refl; two = refl; four = refl; eight = refl }
flags_back false true true false = record { one = refl; two = refl; four = refl; eight = refl }
flags_back false true false true = record { one = refl; two = refl; four = refl; eight = refl }
flags_back false true false false = record { one = refl; two = refl; four = refl; eight = refl }
flags_back false false true true = record { one = refl; two = refl; four = refl; eight = refl }
flags_back false false true false = record { one = refl; two = refl; four = refl; eight = refl }
flags_back false false false true = record { one = refl; two = refl; four = refl; eight = refl }
flags_back false false false false = record { one = refl; two = refl; four = refl; eight = refl }

pub chip_back : (c : Chip) → chip_of (chip_number c) ≡ c
chip_back c = let f = flags_back c.i2c_v3 c.ch32v4 false false in rw (f.one, f.two)
