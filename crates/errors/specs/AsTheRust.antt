-- Our end as the Rust's. What the Rust lacks is forgotten: the second number of an end with 0, a reply's second count, and the flags of an
-- error. And an error that a check decided becomes the class that the Rust's own order finds among these flags.
use Rattle.std.specs.Prelude.{◌≡◌, Bool, cond, ◌&&◌, ℕ, Option, Some, None, Ok, Err}
use Rattle.registers.specs.declared.chip.Chip.{Chip}
use Rattle.registers.specs.Bits.{BERR, ARLO, AF, OVR, PECERR, TIMEOUT}
use Rattle.registers.specs.Word.{has_bit}
use Rattle.registers.specs.Flags.{error_flags}
use Rattle.access.specs.declared.ending.Error.{Error}
use Rattle.access.specs.declared.ending.Error.TheVariants.{Bus, Arbitration, Nack, Timeout, Crc, Overrun}
use Rattle.access.specs.declared.ending.Failure.{Failure}
use Rattle.access.specs.Endings.{Ending, flagged, failure_of, returned, returned_both, failed}

-- the Rust's chain of ifs over a status word: h after an error, and p after none
abbrev pub rust_chain {ℓ} : {X : Type ℓ} → Chip → Bool → ℕ → (Failure → X) → X → X
rust_chain chip nack w h p =
    cond (has_bit ARLO w) (h (failure_of Arbitration))
    (cond (chip.i2c_v3 && has_bit TIMEOUT w) (h (failure_of Timeout))
    (cond (has_bit PECERR w) (h (failure_of Crc))
    (cond (has_bit OVR w) (h (failure_of Overrun))
    (cond (nack && has_bit AF w) (h (failure_of Nack))
    (cond (chip.ch32v4 && has_bit BERR w) (h (failure_of Bus)) p)))))

-- what it finds in a word
abbrev pub rust_of : Chip → Bool → ℕ → Option Failure
rust_of chip nack w = rust_chain chip nack w Some None

-- for a chip, and a master (`nack`) or a slave. Where no flag is an error no check decided, and the error stays
unfoldable pub end_as_the_rusts : Chip → Bool → Ending → Ending
end_as_the_rusts chip nack (Ok o) = returned o.value
end_as_the_rusts chip nack (Err f) = rust_chain chip nack f.flags Err (failed f.error)

-- the second number and the flags forgotten, and nothing else: enough wherever both orders find one class (Departs.antt)
abbrev pub added_forgotten : Ending → Ending
added_forgotten (Ok o) = returned o.value
added_forgotten (Err f) = failed f.error

-- what is forgotten of an end with 0
abbrev pub SecondForgotten : Type 0
SecondForgotten = (chip : Chip) (nack : Bool) (v x : ℕ) → end_as_the_rusts chip nack (returned_both v x) ≡ returned v

-- with the flags of a word an error becomes what the Rust finds in this word
abbrev pub FlagsDecide : Type 0
FlagsDecide = (chip : Chip) (nack : Bool) (e : Error) (w : ℕ) → end_as_the_rusts chip nack (Err (flagged e (error_flags w))) ≡ rust_chain chip nack w Err (failed e)

-- all else that no error check decided stays as it is: what else is returned, a late clock, a lost START, a refusal
pub record OthersStay : Type 0 where
  pub done : (chip : Chip) (nack : Bool) (v : ℕ) → end_as_the_rusts chip nack (returned v) ≡ returned v
  pub failures : (chip : Chip) (nack : Bool) (e : Error) → end_as_the_rusts chip nack (failed e) ≡ failed e
