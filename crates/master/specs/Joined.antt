-- The runs of a transaction with their bytes joined, and their program: START at each, STOP at the last alone.
use Rattle.std.specs.Prelude.{Bool, true, List, [], ◌∷◌, ◌++◌, ℕ, ◌+◌}
use Rattle.registers.specs.declared.chip.Chip.{Chip}
use Rattle.access.specs.Program.{Blocking, pure, ◌>>◌}
use Rattle.master.specs.declared.call.Frame.{Frame}
use Rattle.master.specs.Rust.{Operation, Write, Read, is_empty, Parts, write_bytes, blocking_read_iter}

-- a write run with its bytes, a read run with their number
pub data Joined : Type 0 where
  JW : List ℕ → Joined
  JR : ℕ → Joined

-- the runs of what follows a write of these bytes, or a read of so many, that is not ended yet
unfoldable mutual
  pub join_written : List ℕ → List Operation → List Joined
  join_written bytes [] = JW bytes ∷ []
  join_written bytes (Write more ∷ operations) = join_written (bytes ++ more) operations
  join_written bytes (Read size ∷ operations) = JW bytes ∷ join_read size operations

  pub join_read : ℕ → List Operation → List Joined
  join_read n [] = JR n ∷ []
  join_read n (Write bytes ∷ operations) = JR n ∷ join_written bytes operations
  join_read n (Read size ∷ operations) = join_read (n + size) operations

unfoldable pub joined : List Operation → List Joined
unfolding join_written
joined [] = []
joined (Write bytes ∷ operations) = join_written bytes operations
joined (Read size ∷ operations) = join_read size operations

-- the frame of a run that begins with START or not, and ends with STOP or not
abbrev pub framed : Bool → Bool → Frame
framed start stop = record { send_start = start; send_stop = stop; send_nack = true }

unfoldable pub runs_program : Chip → Parts → ℕ → List Joined → Blocking (Unit {0})
runs_program chip p addr [] = pure tt
runs_program chip p addr (JW bytes ∷ runs) = write_bytes chip p.check p.validate p.start addr bytes (framed true (is_empty runs)) >> runs_program chip p addr runs
runs_program chip p addr (JR size ∷ runs) = blocking_read_iter chip p.check p.validate p.start addr size (framed true (is_empty runs)) >> runs_program chip p addr runs
