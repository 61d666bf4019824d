-- Where a slave call begins, as its block says it and as its machine does.
-- Assumes nothing.
use mathlib.Core.Path.{◌≡◌, refl}
use Prim.Native.Nat.{ℕ}
use Rattle.registers.specs.declared.register.Register.TheVariants.{Star1}
use Rattle.access.specs.declared.need.Need.TheVariants as need
use Rattle.images.specs.Numbers.{chip_of}
use Rattle.images.specs.SlaveImage.{slave_fields}
use Rattle.slave.specs.declared.state.Kind.{Kind}
use Rattle.slave.specs.declared.state.Kind.TheVariants.{Listen, RespondToWrite, RespondToRead}
use Rattle.slave.specs.Machine.{owed_at, start}
use Rattle.slave_step.specs.Held.{begun_fields, first_fields}

-- ---- the numbers, kind by kind

module _ (chip : ℕ) where
  pub listen_first : begun_fields 7 chip 0 ≡ first_fields Listen chip
  unfolding begun_fields first_fields slave_fields
  listen_first = refl

  pub receive_first : begun_fields 8 chip 3 ≡ first_fields RespondToWrite chip
  unfolding begun_fields first_fields slave_fields
  receive_first = refl

  pub reply_first : begun_fields 9 chip 3 ≡ first_fields RespondToRead chip
  unfolding begun_fields first_fields slave_fields
  reply_first = refl

-- ---- every kind reads STAR1 first

pub first_owed : (x : Kind) (chip size : ℕ) → owed_at (record { chip = chip_of chip; kind = x; size = size }) (start x).stage (start x).progress ≡ need.Read Star1
first_owed Listen chip size = refl
first_owed RespondToWrite chip size = refl
first_owed RespondToRead chip size = refl
