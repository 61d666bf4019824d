-- Which numbers a slave call's stage can have: those below how many there are.
-- Assumes nothing.
use Prim.Native.Nat.{ℕ, ◌<◌}
use mathlib.Core.Path.{◌≡◌, refl}
use mathlib.Core.Bool.{false}
use lib.Dec.{eqb, ltb}
use Rattle.slave.specs.declared.stage.Stage.TheVariants as stage
use Rattle.stage_numbers.specs.SlaveStage.{stopf_for_number, stopf_for_of, stopf_stage_number, stopf_stage_of, stale_stage_number, stale_stage_of, arm_stage_number, arm_stage_of, match_stage_number, match_stage_of, half_number, half_of, error_stage_number, error_stage_of, abort_stage_number, abort_stage_of, stage_of, is_stage}
use Rattle.access.proofs.Bytes.{count}
use Rattle.access.proofs.Compared.{turned}

pub stopf_for_range : (n : ℕ) → n < 256 → eqb (stopf_for_number (stopf_for_of n)) n ≡ ltb n 2
stopf_for_range = count stopf_for_number stopf_for_of 2 refl

pub stopf_stage_range : (n : ℕ) → n < 256 → eqb (stopf_stage_number (stopf_stage_of n)) n ≡ ltb n 3
stopf_stage_range = count stopf_stage_number stopf_stage_of 3 refl

pub stale_stage_range : (n : ℕ) → n < 256 → eqb (stale_stage_number (stale_stage_of n)) n ≡ ltb n 2
stale_stage_range = count stale_stage_number stale_stage_of 2 refl

pub arm_stage_range : (n : ℕ) → n < 256 → eqb (arm_stage_number (arm_stage_of n)) n ≡ ltb n 4
arm_stage_range = count arm_stage_number arm_stage_of 4 refl

pub match_stage_range : (n : ℕ) → n < 256 → eqb (match_stage_number (match_stage_of n)) n ≡ ltb n 3
match_stage_range = count match_stage_number match_stage_of 3 refl

pub half_range : (n : ℕ) → n < 256 → eqb (half_number (half_of n)) n ≡ ltb n 2
half_range = count half_number half_of 2 refl

pub error_stage_range : (n : ℕ) → n < 256 → eqb (error_stage_number (error_stage_of n)) n ≡ ltb n 2
error_stage_range = count error_stage_number error_stage_of 2 refl

pub abort_stage_range : (n : ℕ) → n < 256 → eqb (abort_stage_number (abort_stage_of n)) n ≡ ltb n 5
abort_stage_range = count abort_stage_number abort_stage_of 5 refl

beyond : (g w p : ℕ) → eqb g 0 ≡ false → eqb g 1 ≡ false → eqb g 2 ≡ false → eqb g 3 ≡ false → eqb g 4 ≡ false → eqb g 5 ≡ false → eqb g 6 ≡ false → eqb g 7 ≡ false → eqb g 8 ≡ false → eqb g 9 ≡ false → stage_of g w p ≡ stage.Ended
beyond g w p e0 e1 e2 e3 e4 e5 e6 e7 e8 e9 = rw (e0, e1, e2, e3, e4, e5, e6, e7, e8, e9)

-- no stage is of another group
pub no_stage : (g w p : ℕ) → eqb g 0 ≡ false → eqb g 1 ≡ false → eqb g 2 ≡ false → eqb g 3 ≡ false → eqb g 4 ≡ false → eqb g 5 ≡ false → eqb g 6 ≡ false → eqb g 7 ≡ false → eqb g 8 ≡ false → eqb g 9 ≡ false → eqb g 10 ≡ false → false ≡ is_stage g w p
unfolding is_stage
no_stage g w p e0 e1 e2 e3 e4 e5 e6 e7 e8 e9 e10 = rw (beyond g w p e0 e1 e2 e3 e4 e5 e6 e7 e8 e9, turned 10 g, e10)
