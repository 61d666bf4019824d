-- When a stage of a group is taken: its numbers are a stage's, and the group's own test holds.
-- Assumes nothing.
use mathlib.Core.Path.{◌≡◌, refl, sym, subst}
use mathlib.Core.Bool.{Bool, true, false, not, ◌&&◌}
use Prim.Native.Nat.{ℕ}
use lib.Dec.{eqb}
use Rattle.std.proofs.Math.Bool.{and_comm}
use Rattle.slave.specs.declared.state.Kind.{Kind}
use Rattle.slave.specs.Fits.{is_listen, is_respond_to_write, is_respond_to_read}
use Rattle.slave.specs.declared.stage.StopfFor.{StopfFor}
use Rattle.slave.specs.declared.stage.StopfFor.TheVariants as stopf
use Rattle.stage_numbers.specs.SlaveStage.{is_stage, stopf_for_number, stopf_for_of, stopf_stage_number, stopf_stage_of, stale_stage_number, stale_stage_of, arm_stage_number, arm_stage_of, match_stage_number, match_stage_of, half_number, half_of, error_stage_number, error_stage_of, abort_stage_number, abort_stage_of}
use Rattle.access.proofs.Compared.{turned, joined, with_true}
use Rattle.slave_step.specs.Held.{Call, is_seen, fits_in, is_for}
use Rattle.slave_step.proofs.Laws.{running, ending}

swapped : (a b c : Bool) → (a && b) && c ≡ (a && c) && b
swapped true b c = and_comm b c
swapped false b c = refl

-- ---- the groups: with the count and the ending seen, the numbers decide

module _ (s : Call) where
  pub poll_decides : (w p : ℕ) → is_seen s 3 w ≡ true → eqb w 0 && eqb p 0 ≡ fits_in s 3 w p
  unfolding is_stage
  poll_decides w p h = sym (rw (turned 0 w, turned 0 p, running s.setting s.progress true h) (with_true (eqb w 0 && eqb p 0)))

  pub errors_decides : (w p : ℕ) → is_seen s 8 w ≡ true → fits_in s 8 w p ≡ eqb w 0 && eqb (error_stage_number (error_stage_of p)) p
  unfolding is_stage
  errors_decides w p h = rw (turned 0 w, running s.setting s.progress true h) (with_true (eqb w 0 && eqb (error_stage_number (error_stage_of p)) p))

  pub abort_decides : (w p : ℕ) → is_seen s 9 w ≡ true → fits_in s 9 w p ≡ eqb w 0 && eqb (abort_stage_number (abort_stage_of p)) p
  unfolding is_stage
  abort_decides w p h = rw (turned 0 w, h) (with_true (eqb w 0 && eqb (abort_stage_number (abort_stage_of p)) p))

-- what STOPF is cleared for has a number of its own
pub no_stopf : (s : Call) (w p : ℕ) → eqb (stopf_for_number (stopf_for_of w)) w ≡ false → fits_in s 0 w p ≡ false
unfolding is_stage
no_stopf s w p e = rw (e)

module _ (s : Call) (m : Kind) (kind : s.setting.kind ≡ m) where
  listening_stopf : (p : ℕ) → is_seen s 0 0 ≡ true → fits_in s 0 0 p ≡ is_listen m && eqb (stopf_stage_number (stopf_stage_of p)) p
  unfolding is_stage
  listening_stopf p h = rw (running s.setting s.progress (is_listen s.setting.kind) h, kind) (and_comm (eqb (stopf_stage_number (stopf_stage_of p)) p) (is_listen m))

  closing_stopf : (p : ℕ) → is_seen s 0 1 ≡ true → fits_in s 0 1 p ≡ not (is_listen m) && eqb (stopf_stage_number (stopf_stage_of p)) p
  unfolding is_stage
  closing_stopf p h = rw (ending s.setting s.progress (not (is_listen s.setting.kind)) h, kind) (and_comm (eqb (stopf_stage_number (stopf_stage_of p)) p) (not (is_listen m)))

  abbrev Decides : StopfFor → ℕ → ℕ → Type 0
  Decides x p w = is_seen s 0 w ≡ true → fits_in s 0 w p ≡ is_for m x && eqb (stopf_stage_number (stopf_stage_of p)) p

  pub stopf_decides : (x : StopfFor) (w p : ℕ) → stopf_for_number x ≡ w → Decides x p w
  stopf_decides stopf.Listen w p e = subst (Decides stopf.Listen p) e (listening_stopf p)
  stopf_decides stopf.End w p e = subst (Decides stopf.End p) e (closing_stopf p)

  pub stale_decides : (w p : ℕ) → is_seen s 1 w ≡ true → fits_in s 1 w p ≡ (eqb w 0 && is_listen m) && eqb (stale_stage_number (stale_stage_of p)) p
  unfolding is_stage
  stale_decides w p h = rw (turned 0 w, running s.setting s.progress (is_listen s.setting.kind) h, kind) (swapped (eqb w 0) (eqb (stale_stage_number (stale_stage_of p)) p) (is_listen m))

  pub arm_decides : (w p : ℕ) → is_seen s 2 w ≡ true → fits_in s 2 w p ≡ (eqb w 0 && is_listen m) && eqb (arm_stage_number (arm_stage_of p)) p
  unfolding is_stage
  arm_decides w p h = rw (turned 0 w, running s.setting s.progress (is_listen s.setting.kind) h, kind) (swapped (eqb w 0) (eqb (arm_stage_number (arm_stage_of p)) p) (is_listen m))

  pub match_decides : (w p : ℕ) → is_seen s 4 w ≡ true → fits_in s 4 w p ≡ (eqb w 0 && is_listen m) && eqb (match_stage_number (match_stage_of p)) p
  unfolding is_stage
  match_decides w p h = rw (turned 0 w, running s.setting s.progress (is_listen s.setting.kind) h, kind) (swapped (eqb w 0) (eqb (match_stage_number (match_stage_of p)) p) (is_listen m))

  pub receive_decides : (w p : ℕ) → is_seen s 5 w ≡ true → eqb w 0 && (eqb p 0 && is_respond_to_write m) ≡ fits_in s 5 w p
  unfolding is_stage
  receive_decides w p h = sym (rw (turned 0 w, turned 0 p, running s.setting s.progress (is_respond_to_write s.setting.kind) h, kind) (joined (eqb w 0) (eqb p 0) (is_respond_to_write m)))

  pub send_decides : (w p : ℕ) → is_seen s 6 w ≡ true → eqb w 0 && (eqb p 0 && is_respond_to_read m) ≡ fits_in s 6 w p
  unfolding is_stage
  send_decides w p h = sym (rw (turned 0 w, turned 0 p, running s.setting s.progress (is_respond_to_read s.setting.kind) h, kind) (joined (eqb w 0) (eqb p 0) (is_respond_to_read m)))

  pub af_decides : (w p : ℕ) → is_seen s 7 w ≡ true → fits_in s 7 w p ≡ (eqb w 0 && is_respond_to_read m) && eqb (half_number (half_of p)) p
  unfolding is_stage
  af_decides w p h = rw (turned 0 w, ending s.setting s.progress (is_respond_to_read s.setting.kind) h, kind) (swapped (eqb w 0) (eqb (half_number (half_of p)) p) (is_respond_to_read m))
