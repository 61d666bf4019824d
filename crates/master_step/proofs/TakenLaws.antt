-- When a stage of the other groups is taken: its numbers are a stage's, and the group's own test holds.
-- Assumes nothing.
use Prim.Native.Nat.{ℕ}
use mathlib.Core.Path.{◌≡◌, refl, sym}
use mathlib.Core.Bool.{Bool, true, false, ◌&&◌}
use lib.Dec.{eqb}
use borrow.Author.Tests.{eqb-true}
use Rattle.access.proofs.Choice.{first_true}
use Rattle.operations.specs.declared.search.Run.{Run}
use Rattle.master.specs.declared.call.Call.{Call}
use Rattle.master.specs.declared.stage.ReadStage.{ReadStage}
use Rattle.master.specs.declared.stage.ReadStage.TheVariants as read
use Rattle.master.specs.declared.stage.StopFor.{StopFor}
use Rattle.master.specs.declared.stage.StopFor.TheVariants as stop
use Rattle.master.specs.declared.state.Progress.{Progress}
use Rattle.master.specs.Fits.{counts, fits_at, fits_read, fits_stop, starting, sending, receiving}
use Rattle.master.specs.Calls.{setting_of}
use Rattle.stage_numbers.specs.MasterStage.{is_stage, stage_of, launch_stage_number, launch_stage_of, address_stage_number, address_stage_of, recv_stage_number, recv_stage_of, read_stage_number, read_stage_of, stop_for_number, stop_for_of, half_number, half_of}
use Rattle.access.proofs.Compared.{turned, joined}
use Rattle.master_step.specs.declared.here.Here.{Here}
use Rattle.master_step.specs.Going.{here_of, starting_in, sending_in, receiving_in, fits_read_in, fits_stop_in}
use Rattle.master_step.proofs.Laws.{decides, Going}

-- a group with one kind of stages has 0 in the place of what it is for
pub zero_told : (w : ℕ) (b : Bool) → eqb w 0 && b ≡ true → 0 ≡ w
zero_told w b e = sym (eqb-true w 0 (first_true (eqb w 0) b e))

-- the number of what a group is for stands before that of its phase
pub swapped : (a b c : Bool) → (a && b) && c ≡ b && (a && c)
swapped true b c = refl
swapped false true c = refl
swapped false false c = refl

module _ (c : Call) (r : Run) (d : Progress) where
  same_read : (st : ReadStage) → fits_read (setting_of c) r st d ≡ fits_read_in (here_of c r d) d.left st
  same_read read.PosWrite = refl
  same_read read.AckRead = refl
  same_read read.AckWrite = refl
  same_read read.StartRead = refl
  same_read read.StartWrite = refl
  same_read read.NackRead = refl
  same_read read.NackWrite = refl
  same_read read.Third = refl
  same_read read.AgainRead = refl
  same_read read.AgainWrite = refl
  same_read read.SecondLast = refl
  same_read read.Last = refl
  same_read read.PosOffRead = refl
  same_read read.PosOffWrite = refl

  same_stop : (k : StopFor) → fits_stop (setting_of c) r k d ≡ fits_stop_in (here_of c r d) d.left k
  same_stop stop.Write = refl
  same_stop stop.One = refl
  same_stop stop.Two = refl

module _ {c : Call} {r : Run} {d : Progress} {here : Here} (left w p : ℕ) (s : Going c r d here) (l : left ≡ d.left) (n : counts r d ≡ true) where
  pub send_decides : is_stage 5 w p && fits_at (setting_of c) r (stage_of 5 w p) d ≡ eqb w 0 && (eqb p 0 && sending_in here left)
  unfolding is_stage
  send_decides =
      rw (turned 0 w, turned 0 p, decides r d (sending d) n s.ending, s.going, l)
      (joined (eqb w 0) (eqb p 0) (sending d))

  pub launch_decides : is_stage 2 w p && fits_at (setting_of c) r (stage_of 2 w p) d ≡ eqb (launch_stage_number (launch_stage_of p)) p && (eqb w 0 && starting_in here left)
  unfolding is_stage
  launch_decides =
      rw (turned 0 w, decides r d (starting (setting_of c) r d) n s.ending, s.going, l)
      (swapped (eqb w 0) (eqb (launch_stage_number (launch_stage_of p)) p) (starting (setting_of c) r d))

  pub address_decides : is_stage 4 w p && fits_at (setting_of c) r (stage_of 4 w p) d ≡ eqb (address_stage_number (address_stage_of p)) p && (eqb w 0 && starting_in here left)
  unfolding is_stage
  address_decides =
      rw (turned 0 w, decides r d (starting (setting_of c) r d) n s.ending, s.going, l)
      (swapped (eqb w 0) (eqb (address_stage_number (address_stage_of p)) p) (starting (setting_of c) r d))

  pub recv_decides : is_stage 6 w p && fits_at (setting_of c) r (stage_of 6 w p) d ≡ eqb (recv_stage_number (recv_stage_of p)) p && (eqb w 0 && receiving_in here left)
  unfolding is_stage
  recv_decides =
      rw (turned 0 w, decides r d (receiving (setting_of c) r d) n s.ending, s.going, l)
      (swapped (eqb w 0) (eqb (recv_stage_number (recv_stage_of p)) p) (receiving (setting_of c) r d))

  pub read_decides : is_stage 7 w p && fits_at (setting_of c) r (stage_of 7 w p) d ≡ eqb (read_stage_number (read_stage_of p)) p && (eqb w 0 && fits_read_in here left (read_stage_of p))
  unfolding is_stage
  read_decides =
      rw (turned 0 w, decides r d (fits_read (setting_of c) r (read_stage_of p) d) n s.ending, s.going, l, same_read c r d (read_stage_of p))
      (swapped (eqb w 0) (eqb (read_stage_number (read_stage_of p)) p) (fits_read_in (here_of c r d) d.left (read_stage_of p)))

  pub stop_decides : is_stage 8 w p && fits_at (setting_of c) r (stage_of 8 w p) d ≡ eqb (stop_for_number (stop_for_of w)) w && (eqb (half_number (half_of p)) p && fits_stop_in here left (stop_for_of w))
  unfolding is_stage
  stop_decides =
      rw (decides r d (fits_stop (setting_of c) r (stop_for_of w) d) n s.ending, s.going, l, same_stop c r d (stop_for_of w))
      (joined (eqb (stop_for_number (stop_for_of w)) w) (eqb (half_number (half_of p)) p) (fits_stop_in (here_of c r d) d.left (stop_for_of w)))
