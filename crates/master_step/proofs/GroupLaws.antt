-- When a stage of a group is taken: its phase is one of the group's, and the group's own test holds.
-- Assumes nothing.
use Prim.Native.Nat.{ℕ}
use mathlib.Core.Path.{◌≡◌, refl, sym}
use mathlib.Core.Bool.{Bool, true, false, not, ◌&&◌}
use lib.Dec.{eqb}
use Rattle.access.proofs.Compared.{joined}
use Rattle.operations.specs.declared.search.Run.{Run}
use Rattle.master.specs.declared.call.Call.{Call}
use Rattle.master.specs.declared.stage.Fall.{Fall}
use Rattle.master.specs.declared.stage.Fall.TheVariants as fall
use Rattle.master.specs.declared.stage.Flag.{Flag}
use Rattle.master.specs.declared.stage.Flag.TheVariants.{Sb, Addr, Txe, Sent, Three, Two, Rxne}
use Rattle.master.specs.declared.state.Progress.{Progress}
use Rattle.master.specs.Fits.{counts, fits_at, fits_fall, fits_wait}
use Rattle.master.specs.Calls.{setting_of}
use Rattle.stage_numbers.specs.MasterStage.{is_stage, stage_of, fall_number, fall_of, fall_stage_number, fall_stage_of, flag_number, flag_of, wait_stage_number, wait_stage_of}
use Rattle.master_step.specs.declared.here.Here.{Here}
use Rattle.master_step.specs.Going.{here_of, fits_fall_in, fits_wait_in}
use Rattle.master_step.proofs.Laws.{decides, Going}

-- a test that a `!` stands before
pub unset : (b : Bool) → not b ≡ true → b ≡ false
unset true e = sym e
unset false e = refl

and_false : (l : Bool) → l && false ≡ false
and_false true = refl
and_false false = refl

pub no_fit : {t : Bool} (l b : Bool) → t ≡ l && b → b ≡ false → t ≡ false
no_fit l b e p = rw (e, p) (and_false l)

pub no_first : {t a : Bool} (b : Bool) → t ≡ a && b → a ≡ false → t ≡ false
no_first b e p = rw (e, p)

module _ (c : Call) (r : Run) (d : Progress) where
  same_fall : (f : Fall) → fits_fall (setting_of c) r f d ≡ fits_fall_in (here_of c r d) d.left f
  same_fall fall.Start = refl
  same_fall fall.End = refl

  same_wait : (f : Flag) → fits_wait (setting_of c) r f d ≡ fits_wait_in (here_of c r d) d.left f
  same_wait Sb = refl
  same_wait Addr = refl
  same_wait Txe = refl
  same_wait Sent = refl
  same_wait Three = refl
  same_wait Two = refl
  same_wait Rxne = refl

module _ {c : Call} {r : Run} {d : Progress} {here : Here} (left w p : ℕ) (s : Going c r d here) (l : left ≡ d.left) (n : counts r d ≡ true) where
  pub fall_decides : is_stage 1 w p && fits_at (setting_of c) r (stage_of 1 w p) d ≡ eqb (fall_number (fall_of w)) w && (eqb (fall_stage_number (fall_stage_of p)) p && fits_fall_in here left (fall_of w))
  unfolding is_stage
  fall_decides =
      rw (decides r d (fits_fall (setting_of c) r (fall_of w) d) n s.ending, s.going, l, same_fall c r d (fall_of w))
      (joined (eqb (fall_number (fall_of w)) w) (eqb (fall_stage_number (fall_stage_of p)) p) (fits_fall_in (here_of c r d) d.left (fall_of w)))

  pub wait_decides : is_stage 3 w p && fits_at (setting_of c) r (stage_of 3 w p) d ≡ eqb (flag_number (flag_of w)) w && (eqb (wait_stage_number (wait_stage_of p)) p && fits_wait_in here left (flag_of w))
  unfolding is_stage
  wait_decides =
      rw (decides r d (fits_wait (setting_of c) r (flag_of w) d) n s.ending, s.going, l, same_wait c r d (flag_of w))
      (joined (eqb (flag_number (flag_of w)) w) (eqb (wait_stage_number (wait_stage_of p)) p) (fits_wait_in (here_of c r d) d.left (flag_of w)))
