-- Where our order of flags finds another class than the Rust's: its chain has BERR last, our list directly behind ARLO.
use Rattle.std.specs.Prelude.{◌≡◌, Bool, true, false, not, ◌&&◌, ◌||◌, ℕ, Option, Some, None, Ok, Err}
use Rattle.registers.specs.declared.chip.Chip.{Chip}
use Rattle.registers.specs.Bits.{BERR, ARLO, AF, OVR, PECERR, TIMEOUT}
use Rattle.registers.specs.Word.{has_bit}
use Rattle.registers.specs.Flags.{error_flags}
use Rattle.access.specs.declared.ending.Error.TheVariants.{Bus}
use Rattle.access.specs.declared.ending.Failure.{Failure}
use Rattle.access.specs.Endings.{Ending, flagged, failure_of, failed}
use Rattle.errors.specs.Classes.{error_of}
use Rattle.errors.specs.Met.{same_error, is_met}
use Rattle.errors.specs.AsTheRust.{rust_of, end_as_the_rusts}

-- BERR is set, and an error on this chip
abbrev pub bus_flag : Chip → ℕ → Bool
bus_flag chip w = chip.ch32v4 && has_bit BERR w

-- a flag that the Rust tests between ARLO and BERR, where it is an error: TIMEOUT with i2c_v3, PECERR, OVR, and AF for a master
abbrev pub between_flag : Chip → Bool → ℕ → Bool
between_flag chip nack w = (chip.i2c_v3 && has_bit TIMEOUT w) || (has_bit PECERR w || (has_bit OVR w || (nack && has_bit AF w)))

-- the words at which the two differ
abbrev pub departs : Chip → Bool → ℕ → Bool
departs chip nack w = bus_flag chip w && (not (has_bit ARLO w) && between_flag chip nack w)

-- an end whose flags are such a word
abbrev pub end_departs : Chip → Bool → Ending → Bool
end_departs chip nack (Ok o) = false
end_departs chip nack (Err f) = departs chip nack f.flags

-- the class that was found, without the flags
abbrev pub unflagged : Option Failure → Option Failure
unflagged None = None
unflagged (Some f) = Some (failure_of f.error)

abbrev pub same_class : Option Failure → Option Failure → Bool
same_class None None = true
same_class None (Some g) = false
same_class (Some f) None = false
same_class (Some f) (Some g) = same_error f.error g.error

-- of words
pub record ClassIsTheRusts : Type 0 where
  -- another class exactly at these words, and there ours is Bus
  pub exactly : (chip : Chip) (nack : Bool) (w : ℕ) → same_class (error_of chip nack w) (rust_of chip nack w) ≡ not (departs chip nack w)
  pub bus : (chip : Chip) (nack : Bool) (w : ℕ) → departs chip nack w ≡ true → error_of chip nack w ≡ Some (flagged Bus (error_flags w))
  -- at every other the Rust's, so at every word without BERR, and at every word on a chip without ch32v4
  pub elsewhere : (chip : Chip) (nack : Bool) (w : ℕ) → departs chip nack w ≡ false → unflagged (error_of chip nack w) ≡ rust_of chip nack w
  pub without_berr : (chip : Chip) (nack : Bool) (w : ℕ) → has_bit BERR w ≡ false → unflagged (error_of chip nack w) ≡ rust_of chip nack w
  pub without_ch32v4 : (chip : Chip) (nack : Bool) (w : ℕ) → chip.ch32v4 ≡ false → unflagged (error_of chip nack w) ≡ rust_of chip nack w

-- of ends that a call can have: the Rust's error is another exactly where the flags are such a word, and there ours is Bus
pub record EndIsTheRusts : Type 0 where
  pub same : (chip : Chip) (nack : Bool) (f : Failure) → is_met chip nack f ≡ true → departs chip nack f.flags ≡ false → end_as_the_rusts chip nack (Err f) ≡ failed f.error
  pub bus : (chip : Chip) (nack : Bool) (f : Failure) → is_met chip nack f ≡ true → departs chip nack f.flags ≡ true → failed f.error ≡ failed Bus
  pub other : (chip : Chip) (nack : Bool) (f : Failure) → departs chip nack f.flags ≡ true → (end_as_the_rusts chip nack (Err f) ≡ failed Bus) → ⊥
