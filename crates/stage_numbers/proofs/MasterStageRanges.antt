-- Which numbers a master call's stage can have: those below how many there are.
-- Assumes nothing.
use Prim.Native.Nat.{ℕ, ◌<◌}
use mathlib.Core.Path.{◌≡◌, refl}
use mathlib.Core.Bool.{false}
use lib.Dec.{eqb, ltb}
use Rattle.master.specs.declared.stage.Stage.TheVariants as stage
use Rattle.stage_numbers.specs.MasterStage.{fall_number, fall_of, fall_stage_number, fall_stage_of, launch_stage_number, launch_stage_of, flag_number, flag_of, wait_stage_number, wait_stage_of, address_stage_number, address_stage_of, recv_stage_number, recv_stage_of, read_stage_number, read_stage_of, stop_for_number, stop_for_of, half_number, half_of, abort_stage_number, abort_stage_of, stage_of, is_stage}
use Rattle.access.proofs.Bytes.{count}
use Rattle.access.proofs.Compared.{turned}

pub fall_range : (n : ℕ) → n < 256 → eqb (fall_number (fall_of n)) n ≡ ltb n 2
fall_range = count fall_number fall_of 2 refl

pub fall_stage_range : (n : ℕ) → n < 256 → eqb (fall_stage_number (fall_stage_of n)) n ≡ ltb n 2
fall_stage_range = count fall_stage_number fall_stage_of 2 refl

pub launch_stage_range : (n : ℕ) → n < 256 → eqb (launch_stage_number (launch_stage_of n)) n ≡ ltb n 4
launch_stage_range = count launch_stage_number launch_stage_of 4 refl

pub flag_range : (n : ℕ) → n < 256 → eqb (flag_number (flag_of n)) n ≡ ltb n 7
flag_range = count flag_number flag_of 7 refl

pub wait_stage_range : (n : ℕ) → n < 256 → eqb (wait_stage_number (wait_stage_of n)) n ≡ ltb n 3
wait_stage_range = count wait_stage_number wait_stage_of 3 refl

pub address_stage_range : (n : ℕ) → n < 256 → eqb (address_stage_number (address_stage_of n)) n ≡ ltb n 4
address_stage_range = count address_stage_number address_stage_of 4 refl

pub recv_stage_range : (n : ℕ) → n < 256 → eqb (recv_stage_number (recv_stage_of n)) n ≡ ltb n 2
recv_stage_range = count recv_stage_number recv_stage_of 2 refl

pub read_stage_range : (n : ℕ) → n < 256 → eqb (read_stage_number (read_stage_of n)) n ≡ ltb n 14
read_stage_range = count read_stage_number read_stage_of 14 refl

pub stop_for_range : (n : ℕ) → n < 256 → eqb (stop_for_number (stop_for_of n)) n ≡ ltb n 3
stop_for_range = count stop_for_number stop_for_of 3 refl

pub half_range : (n : ℕ) → n < 256 → eqb (half_number (half_of n)) n ≡ ltb n 2
half_range = count half_number half_of 2 refl

pub abort_stage_range : (n : ℕ) → n < 256 → eqb (abort_stage_number (abort_stage_of n)) n ≡ ltb n 15
abort_stage_range = count abort_stage_number abort_stage_of 15 refl

beyond : (g w p : ℕ) → eqb g 0 ≡ false → eqb g 1 ≡ false → eqb g 2 ≡ false → eqb g 3 ≡ false → eqb g 4 ≡ false → eqb g 5 ≡ false → eqb g 6 ≡ false → eqb g 7 ≡ false → eqb g 8 ≡ false → eqb g 9 ≡ false → stage_of g w p ≡ stage.Ended
beyond g w p e0 e1 e2 e3 e4 e5 e6 e7 e8 e9 = rw (e0, e1, e2, e3, e4, e5, e6, e7, e8, e9)

-- no stage is of another group
pub no_stage : (g w p : ℕ) → eqb g 0 ≡ false → eqb g 1 ≡ false → eqb g 2 ≡ false → eqb g 3 ≡ false → eqb g 4 ≡ false → eqb g 5 ≡ false → eqb g 6 ≡ false → eqb g 7 ≡ false → eqb g 8 ≡ false → eqb g 9 ≡ false → eqb g 10 ≡ false → false ≡ is_stage g w p
unfolding is_stage
no_stage g w p e0 e1 e2 e3 e4 e5 e6 e7 e8 e9 e10 = rw (beyond g w p e0 e1 e2 e3 e4 e5 e6 e7 e8 e9, turned 10 g, e10)
