-- What is asked for next, as a number: C's, but for a byte to send, to keep or to drop, which have kinds of their own.
use Rattle.std.specs.Prelude.{◌≡◌, Bool, true, false, cond, eqb, ℕ, ◌+◌, ◌*◌, ◌/◌, ◌%◌, ◌<◌, Option, Some, None}
use Rattle.registers.specs.Numbers.{register_number, register_of}
use Rattle.access.specs.declared.need.Need.{Need}
use Rattle.access.specs.declared.need.Need.TheVariants.{Read, Write, Clock, Send, Keep, Drop, End}
use Rattle.access.specs.Endings.{ending_number, ending_in}
use Rattle.access.specs.Numbers.{EndHoldsWords}

abbrev pub need_number : Need → ℕ
need_number (Read r) = 1 + register_number r * 256
need_number (Write r v) = 2 + register_number r * 256 + v * 65536
need_number Clock = 3
need_number (Send p) = 4 + p * 65536
need_number (Keep p) = 5 + p * 65536
need_number Drop = 6
need_number (End e) = ending_number e

-- taken apart again
abbrev pub need_of : ℕ → Need
need_of n =
    cond (eqb (n % 256) 0) (End (ending_in n))
    (cond (eqb (n % 256) 1) (Read (register_of (n / 256 % 256)))
    (cond (eqb (n % 256) 2) (Write (register_of (n / 256 % 256)) (n / 65536 % 65536))
    (cond (eqb (n % 256) 3) Clock
    (cond (eqb (n % 256) 4) (Send (n / 65536 % 4294967296))
    (cond (eqb (n % 256) 5) (Keep (n / 65536 % 4294967296)) Drop)))))

-- the values are 16-bit words and the places 32-bit ones, as they are in the code
abbrev pub NeedHoldsWords : Need → Type 0
NeedHoldsWords (Read r) = Unit {0}
NeedHoldsWords (Write r v) = v < 65536
NeedHoldsWords Clock = Unit {0}
NeedHoldsWords (Send p) = p < 4294967296
NeedHoldsWords (Keep p) = p < 4294967296
NeedHoldsWords Drop = Unit {0}
NeedHoldsWords (End e) = EndHoldsWords e

-- the number n asks for x
pub record Asks (n : ℕ) (x : Need) : Type 0 where
  pub number : n ≡ need_number x
  pub words : NeedHoldsWords x

-- a byte to keep
abbrev pub is_keep : Need → Bool
is_keep (Read r) = false
is_keep (Write r v) = false
is_keep Clock = false
is_keep (Send p) = false
is_keep (Keep p) = true
is_keep Drop = false
is_keep (End e) = false

-- where a byte is to be kept, if one is needed that is
abbrev pub kept_place : Need → Option ℕ
kept_place (Read r) = None
kept_place (Write r v) = None
kept_place Clock = None
kept_place (Send p) = None
kept_place (Keep p) = Some p
kept_place Drop = None
kept_place (End e) = None
