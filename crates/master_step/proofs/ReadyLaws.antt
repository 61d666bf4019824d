-- What the tests before a step find.
-- Assumes nothing.
use Prim.Native.Nat.{ℕ, ◌+◌}
use mathlib.Core.Path.{◌≡◌, refl, sym, ap, ◌∙◌}
use mathlib.Core.Bool.{Bool, true, false, beq, ◌&&◌, true≢false}
use lib.Dec.{eqb, leb, ltb}
use borrow.Author.Tests.{eqb-true}
use Rattle.access.proofs.Choice.{both_true, first_true, second_true}
use Rattle.access.specs.Endings.{is_done}
use Rattle.registers.specs.declared.chip.Chip.{Chip}
use Rattle.errors.specs.Met.{has_failed}
use Rattle.images.specs.EndImage.{ending_at}
use Rattle.images.specs.Numbers.{flag_number}
use Rattle.images.proofs.EndImageLaws as end
use Rattle.operations.specs.declared.search.Run.{Run}
use Rattle.master.specs.declared.call.Call.{Call}
use Rattle.master.specs.declared.stage.Stage.{Stage}
use Rattle.master.specs.declared.stage.Stage.TheVariants as stage
use Rattle.master.specs.declared.state.Progress.{Progress}
use Rattle.master.specs.Fits.{counts, runs, fits_at, fits_fall, fits_wait, fits_read, fits_stop, starting, sending, receiving, untouched, fits_abort}
use Rattle.master.specs.Calls.{setting_of}
use Rattle.stage_numbers.specs.declared.master_stage.Group.{Group}
use Rattle.stage_numbers.specs.declared.master_stage.Group.TheVariants as group
use Rattle.stage_numbers.specs.MasterGroup.{group_number}
use Rattle.stage_numbers.specs.MasterStage.{stage_group, stage_what, stage_phase, stage_of, is_stage}
use Rattle.master_step.specs.declared.here.Here.{Here}
use Rattle.master_step.specs.Held.{block_at, run_in, ready_at}
use Rattle.master_step.proofs.Laws.{end_at}

pub end_told : (c : Call) (d : Progress) (g w p : ℕ) → ending_at (block_at c d g w p) ≡ d.ending
end_told c d g w p = end.end_told (end_at c d g w p)

same_flag : (h : Here) (d : Progress) (a b : Bool) → eqb (flag_number a) (flag_number b) ≡ beq b a
same_flag h d true true = refl
same_flag h d true false = refl
same_flag h d false true = refl
same_flag h d false false = refl

-- the counts of the run that is known of
pub same_counts : (h : Here) (d : Progress) → eqb (flag_number d.reading) (flag_number h.reading) && (leb d.left h.length && eqb (d.place + d.left) (h.before + h.length)) ≡ counts (run_in h) d
same_counts h d = go h.reading
  where
    go : (b : Bool) → eqb (flag_number d.reading) (flag_number b) && (leb d.left h.length && eqb (d.place + d.left) (h.before + h.length)) ≡ counts (run_in (record { reading = b; length = h.length; before = h.before; more = h.more; start = h.start; stops = h.stops; nack = h.nack })) d
    go true = rw (same_flag h d d.reading true) refl
    go false = rw (same_flag h d d.reading false) refl

-- in a group between the first and the abort
pub busy_ready : (chip : Chip) (r : Run) (d : Progress) (x : Group) → (x ≡ group.Begin → ⊥) → (x ≡ group.Abort → ⊥) → (x ≡ group.Ended → ⊥) → counts r d && is_done d.ending ≡ ready_at chip (group_number x) r d
busy_ready chip r d group.Begin b a e = absurd (b refl)
busy_ready chip r d group.WaitStop b a e = refl
busy_ready chip r d group.LaunchStart b a e = refl
busy_ready chip r d group.Wait b a e = refl
busy_ready chip r d group.Address b a e = refl
busy_ready chip r d group.SendByte b a e = refl
busy_ready chip r d group.RecvByte b a e = refl
busy_ready chip r d group.ReadIter b a e = refl
busy_ready chip r d group.GenerateStop b a e = refl
busy_ready chip r d group.Abort b a e = absurd (a refl)
busy_ready chip r d group.Ended b a e = absurd (e refl)

-- ---- and that they ref
pub not_true : (b : Bool) → (b ≡ true → ⊥) → b ≡ false
not_true true h = absurd (h refl)
not_true false h = refl

module _ (c : Call) (r : Run) (d : Progress) where
  abbrev failing : Bool
  failing = has_failed c.chip true d.ending

  runs_ready : (b : Bool) → runs r b d ≡ true → counts r d && is_done d.ending ≡ true
  runs_ready b e = both_true (first_true (counts r d) (is_done d.ending && b) e) (first_true (is_done d.ending) b (second_true (counts r d) (is_done d.ending && b) e))

  fits_ready : (st : Stage) → ltb (stage_group st) 10 ≡ true → fits_at (setting_of c) r st d ≡ true → ready_at c.chip (stage_group st) r d ≡ true
  fits_ready stage.Begin h e = first_true (is_done d.ending) _ (second_true (untouched d) _ e)
  fits_ready (stage.WaitStop f st) h e = runs_ready (fits_fall (setting_of c) r f d) e
  fits_ready (stage.LaunchStart st) h e = runs_ready (starting (setting_of c) r d) e
  fits_ready (stage.Wait f st) h e = runs_ready (fits_wait (setting_of c) r f d) e
  fits_ready (stage.Address st) h e = runs_ready (starting (setting_of c) r d) e
  fits_ready stage.SendByte h e = runs_ready (sending d) e
  fits_ready (stage.RecvByte st) h e = runs_ready (receiving (setting_of c) r d) e
  fits_ready (stage.ReadIter st) h e = runs_ready (fits_read (setting_of c) r st d) e
  fits_ready (stage.GenerateStop k st) h e = runs_ready (fits_stop (setting_of c) r k d) e
  fits_ready (stage.Abort st) h e =
      both_true (first_true (counts r d) (failing && fits_abort c.chip st) e) (first_true failing (fits_abort c.chip st) (second_true (counts r d) (failing && fits_abort c.chip st) e))
  fits_ready stage.Ended h e = absurd (true≢false (sym h))

  module _ (n w p : ℕ) where
    abbrev fitting : Bool
    fitting = fits_at (setting_of c) r (stage_of n w p) d

    group_told : is_stage n w p ≡ true → stage_group (stage_of n w p) ≡ n
    unfolding is_stage
    group_told e = eqb-true (stage_group (stage_of n w p)) n (first_true (eqb (stage_group (stage_of n w p)) n) (eqb (stage_what (stage_of n w p)) w && eqb (stage_phase (stage_of n w p)) p) e)

    pub unready : ready_at c.chip n r d ≡ false → ltb n 10 && (is_stage n w p && fitting) ≡ false
    unready test =
        not_true (ltb n 10 && (is_stage n w p && fitting))
        (λ e.
        let open-group : ltb n 10 ≡ true = first_true (ltb n 10) (is_stage n w p && fitting) e in
        let both : is_stage n w p && fitting ≡ true = second_true (ltb n 10) (is_stage n w p && fitting) e in
        let group : stage_group (stage_of n w p) ≡ n = group_told (first_true (is_stage n w p) fitting both) in
        let yes : ready_at c.chip (stage_group (stage_of n w p)) r d ≡ true = fits_ready (stage_of n w p) (ap (λ (x : ℕ). ltb x 10) group ∙ open-group) (second_true (is_stage n w p) fitting both) in
        true≢false (sym yes ∙ ap (λ (x : ℕ). ready_at c.chip x r d) group ∙ test))
