-- The whole step: what the tests of a block find is the state that crate images finds in it, and the step of its numbers is that state's.
-- Assumes nothing.
use Rattle.std.specs.Prelude.{Option, Some, None, Err}
use Rattle.access.specs.declared.need.Need.{Need}
use Rattle.std.proofs.Math.Bool.{and_comm}
use Rattle.std.proofs.lemmas.Bool.{false_from_ne_true}
use Prim.Native.Nat.{ℕ, ◌<◌, ◌≤◌}
use mathlib.Core.Path.{◌≡◌, refl, sym, ap, subst, ◌∙◌}
use mathlib.Core.Bool.{Bool, true, false, cond, not, ◌&&◌, true≢false}
use mathlib.Core.List.{List}
use native.Mathlib.Omega.{arith}
use lib.Dec.{eqb, leb, ltb}
use lib.ListN.{length}
use borrow.Author.Tests.{eqb-true, le-leb, lt-leb}
use Rattle.access.specs.declared.ending.Failure.{Failure}
use Rattle.registers.specs.declared.chip.Chip.{Chip}
use Rattle.access.specs.Endings.{Ending, ending_of, is_done, is_ending, is_plain}
use Rattle.access.proofs.EndingLaws.{ending_plain, plain_ending, as_failed}
use Rattle.errors.specs.Met.{has_failed}
use Rattle.errors.proofs.MetLaws.{met_number}
use Rattle.access.specs.declared.need.Need.TheVariants as need
use Rattle.access.specs.Machine.{is_end}
use Rattle.access.proofs.Choice.{first_true, second_true, both_true}
use Rattle.block.specs.declared.fields.Fields.{Fields}
use Rattle.block.specs.Fields.{same_fields}
use Rattle.block.specs.Bytes32.{fields_of, bytes_of, Bytes}
use Rattle.block.proofs.Codec.{same_said, bytes_back}
use Rattle.images.specs.Numbers.{chip_of, is_chip}
use Rattle.images.specs.SlaveImage.{kind_of, is_kind, slave_of, slave_in, unused_empty, is_call}
use Rattle.images.proofs.SlaveImageRanges.{found, no_ending, no_stage, no_call}
use Rattle.slave.specs.declared.state.State.{State}
use Rattle.slave.specs.declared.stage.StopfFor.TheVariants as stopf
use Rattle.slave.specs.declared.stage.StopfStage.TheVariants as clearing
use Rattle.slave.specs.declared.stage.StaleStage.TheVariants as stale
use Rattle.slave.specs.declared.stage.ArmStage.TheVariants as arm
use Rattle.slave.specs.declared.stage.MatchStage.TheVariants as matching
use Rattle.slave.specs.declared.stage.Half.TheVariants as half
use Rattle.slave.specs.declared.stage.ErrorStage.TheVariants as errors
use Rattle.slave.specs.declared.stage.AbortStage.TheVariants as abort
use Rattle.slave.specs.declared.stage.Stage.{Stage}
use Rattle.slave.specs.declared.stage.Stage.TheVariants as stage
use Rattle.slave.specs.declared.state.Kind.{Kind}
use Rattle.slave.specs.declared.state.Move.{Move}
use Rattle.slave.specs.declared.state.Progress.{Progress}
use Rattle.slave.specs.declared.state.Setting.{Setting}
use Rattle.slave.specs.Fits.{is_listen, is_respond_to_write, is_respond_to_read, counts, returns, returns_in, runs, closes, fits_at, fits}
use Rattle.slave.specs.Machine.{owed_at, advance_at}
use Rattle.slave.specs.Steps.{setting_in, fits_lent, is_open}
use Rattle.stage_numbers.specs.SlaveStage.{is_stage, stage_of, stage_group, stage_what, stage_phase}
use Rattle.access.proofs.Compared.{turned, itself, with_true, reordered}
use Rattle.slave_step.specs.Held.{fields_at, block_at, said_in, image, closing, ends_at, ready_at, is_seen, fits_in, Refuses, Steps, StepsFrom}
use Rattle.slave_step.proofs.Laws.{refuses}

-- ---- a block whose numbers beside the stage's are a call's is the block of the call and the progress that it tells

module _ (f : Fields) (size : ℕ) where
  same_call : same_fields (fields_at (setting_in (slave_of f) size) (slave_of f).progress f.stage f.what f.phase) f ≡ is_call f && (true && is_ending f.error f.value f.extra)
  unfolding same_fields fields_at slave_of is_call is_kind is_chip is_ending unused_empty
  same_call =
      rw (itself f.stage, itself f.what, itself f.phase, itself f.word, itself f.count, turned 0 f.option, turned 0 f.run, turned 0 f.left, turned 0 f.place, turned 0 f.divider, turned 0 f.rise, turned 0 f.marks, turned 0 f.address, turned 0 f.second, turned 0 f.mhz, with_true (eqb f.address 0))
      (reordered (is_kind f.entry) (eqb f.option 0) (is_chip f.chip) true (is_ending f.error f.value f.extra) (unused_empty f))

  fields_same : is_call f ≡ true → is_ending f.error f.value f.extra ≡ true → fields_at (setting_in (slave_of f) size) (slave_of f).progress f.stage f.what f.phase ≡ f
  fields_same c e = same_said _ f (same_call ∙ both_true c e)

pub block_told : (b : List ℕ) (size : ℕ) → length b ≡ 32 → Bytes b → is_call (fields_of b) ≡ true → is_ending (fields_of b).error (fields_of b).value (fields_of b).extra ≡ true
    → b ≡ block_at (setting_in (slave_of (fields_of b)) size) (slave_of (fields_of b)).progress (fields_of b).stage (fields_of b).what (fields_of b).phase
unfolding block_at
block_told b size n bytes c e = sym (bytes_back b n bytes) ∙ ap bytes_of (sym (fields_same (fields_of b) size c e))

-- ---- endings by their numbers

-- an error has only the stages of an abort
met_only : (chip : Chip) (a c : Bool) (x : Kind) (size count : ℕ) (f : Failure) → cond a (returns_in x size count (Err f)) (cond c (has_failed chip false (Err f)) (is_done (Err f))) ≡ true
    → has_failed chip false (Err f) ≡ true
met_only chip true c x size count f h = absurd (true≢false (sym h))
met_only chip false true x size count f h = h
met_only chip false false x size count f h = absurd (true≢false (sym h))

module _ (chip : Chip) (a c : Bool) (k : Kind) (size count n v x : ℕ) (byte : n < 256) where
  abbrev ready_with : Ending → Bool
  ready_with e = cond a (returns_in k size count e) (cond c (has_failed chip false e) (is_done e))

  ready_ending : ready_with (ending_of n v x) ≡ true → is_plain n v ≡ true → is_ending n v x ≡ true
  ready_ending h e = plain_ending n v x (go (eqb n 0) refl) e
    where
      go : (b : Bool) → eqb n 0 ≡ b → n ≤ 6
      go true z = let q = eqb-true n 0 z in omega arith
      go false z = met_number chip false n v x byte (as_failed (λ (y : Ending). ready_with y ≡ true → has_failed chip false y ≡ true) n v x z (met_only chip a c k size count) h)

-- ---- a stage that fits and has not ended is ready

module _ (g : Setting) (d : Progress) where
  runs_ready : (b : Bool) → runs g b d ≡ true → counts g d && is_done d.ending ≡ true
  runs_ready b e = both_true (first_true (counts g d) (is_done d.ending && b) e) (first_true (is_done d.ending) b (second_true (counts g d) (is_done d.ending && b) e))

  closes_ready : (b : Bool) → closes g b d ≡ true → counts g d && returns g d ≡ true
  closes_ready b e = both_true (first_true (counts g d) (returns g d && b) e) (first_true (returns g d) b (second_true (counts g d) (returns g d && b) e))

  fits_ready : (st : Stage) → not (is_end (owed_at g st d)) ≡ true → fits_at g st d ≡ true → ready_at g d (stage_group st) (stage_what st) ≡ true
  fits_ready (stage.ClearStopf stopf.Listen st) h e = runs_ready (is_listen g.kind) e
  fits_ready (stage.ClearStopf stopf.End st) h e = closes_ready (not (is_listen g.kind)) e
  fits_ready (stage.Stale st) h e = runs_ready (is_listen g.kind) e
  fits_ready (stage.Arm st) h e = runs_ready (is_listen g.kind) e
  fits_ready stage.Poll h e = runs_ready true e
  fits_ready (stage.Match st) h e = runs_ready (is_listen g.kind) e
  fits_ready stage.Receive h e = runs_ready (is_respond_to_write g.kind) e
  fits_ready stage.Send h e = runs_ready (is_respond_to_read g.kind) e
  fits_ready (stage.ClearAf st) h e = closes_ready (is_respond_to_read g.kind) e
  fits_ready (stage.Errors st) h e = runs_ready true e
  fits_ready (stage.Abort st) h e = e
  fits_ready stage.Ended h e = absurd (true≢false (sym h))

  received_open : (b : Bool) (n : ℕ) → not (is_end (cond b (need.Keep n) need.Drop)) ≡ true
  received_open true n = refl
  received_open false n = refl

  open_at : (st : Stage) → not (is_end (owed_at g st d)) ≡ ltb (stage_group st) 10
  open_at (stage.ClearStopf f clearing.Status) = refl
  open_at (stage.ClearStopf f clearing.Read) = refl
  open_at (stage.ClearStopf f clearing.Write) = refl
  open_at (stage.Stale stale.Status) = refl
  open_at (stage.Stale stale.Clear) = refl
  open_at (stage.Arm arm.BufferRead) = refl
  open_at (stage.Arm arm.BufferWrite) = refl
  open_at (stage.Arm arm.AckRead) = refl
  open_at (stage.Arm arm.AckWrite) = refl
  open_at stage.Poll = refl
  open_at (stage.Match matching.Status) = refl
  open_at (stage.Match matching.Second) = refl
  open_at (stage.Match matching.Own) = refl
  open_at stage.Receive = received_open (ltb d.count g.size) d.count
  open_at stage.Send = refl
  open_at (stage.ClearAf half.Read) = refl
  open_at (stage.ClearAf half.Write) = refl
  open_at (stage.Errors errors.Clear) = refl
  open_at (stage.Errors errors.Clock) = refl
  open_at (stage.Abort abort.DisableRead) = refl
  open_at (stage.Abort abort.DisableWrite) = refl
  open_at (stage.Abort abort.Busy) = refl
  open_at (stage.Abort abort.StopRead) = refl
  open_at (stage.Abort abort.StopWrite) = refl
  open_at stage.Ended = refl

module _ (n w p : ℕ) (e : is_stage n w p ≡ true) where
  group_told : stage_group (stage_of n w p) ≡ n
  unfolding is_stage
  group_told = eqb-true _ _ (first_true (eqb (stage_group (stage_of n w p)) n) (eqb (stage_what (stage_of n w p)) w && eqb (stage_phase (stage_of n w p)) p) e)

  what_told : stage_what (stage_of n w p) ≡ w
  unfolding is_stage
  what_told =
      eqb-true _ _ (first_true (eqb (stage_what (stage_of n w p)) w) (eqb (stage_phase (stage_of n w p)) p)
      (second_true (eqb (stage_group (stage_of n w p)) n) (eqb (stage_what (stage_of n w p)) w && eqb (stage_phase (stage_of n w p)) p) e))

-- ---- what is found

-- a choice by a test, one way or the other
either_way : {A : Type 0} (b : Bool) → (b ≡ true → A) → (b ≡ false → A) → A
either_way true x y = x refl
either_way false x y = y refl

-- the same tests in another order
retest : {t u : Bool} {g : Setting} {m : Move} {before after : List ℕ} {asked : Need} → t ≡ u → Steps t g m before after asked → Steps u g m before after asked
retest {g = g} {m = m} {before} {after} {asked} e s = subst (λ (x : Bool). Steps x g m before after asked) e s

no_stage_fits : (l f : Bool) {s : Bool} → s ≡ false → l && (s && f) ≡ false
no_stage_fits true f e = ap (λ (s : Bool). s && f) e
no_stage_fits false f e = refl

-- ---- what the tests of a block find, where all hold

module _ (entry size : ℕ) (f : Fields) {call plain ready : Bool} (call-is : call ≡ eqb f.entry entry && is_call f) (plain-is : plain ≡ is_plain f.error f.value) (ready-is : ready ≡ is_seen (said_in entry size f) f.stage f.what) (test : call && (plain && ready) ≡ true) where
  called : eqb f.entry entry && is_call f ≡ true
  called = sym call-is ∙ first_true call (plain && ready) test

  own : eqb f.entry entry ≡ true
  own = first_true (eqb f.entry entry) (is_call f) called

  is-call : is_call f ≡ true
  is-call = second_true (eqb f.entry entry) (is_call f) called

  pub seen : is_seen (said_in entry size f) f.stage f.what ≡ true
  seen = sym ready-is ∙ second_true plain ready (second_true call (plain && ready) test)

  told : f.error < 256 → is_ending f.error f.value f.extra ≡ true
  unfolding slave_of
  told byte =
      ready_ending (chip_of f.chip) (closing f.stage f.what) (eqb f.stage 9) (kind_of entry) size f.count f.error f.value f.extra byte
      (second_true (counts (said_in entry size f).setting (said_in entry size f).progress) (ends_at (said_in entry size f).setting (said_in entry size f).progress f.stage f.what) seen)
      (sym plain-is ∙ first_true plain ready (second_true call (plain && ready) test))

  -- the block is that of the call that it tells
  pub held : {b : List ℕ} → f.error < 256 → bytes_of f ≡ b → image (said_in entry size f) f.stage f.what f.phase ≡ b
  unfolding slave_of block_at
  held byte e = ap (λ (n : ℕ). image (said_in n size f) f.stage f.what f.phase) (sym (eqb-true f.entry entry own)) ∙ ap bytes_of (fields_same f size is-call (told byte)) ∙ e

-- what is lent is no longer than a call takes, the numbers are a stage's, and it has not ended
in_order : (f : Bool) {n s l o : Bool} → n ≡ true → s ≡ true → o ≡ l → l && (s && f) ≡ (n && f) && o
in_order f {l = l} p q r = rw (p, q, r) (and_comm l f)

module _ (size a : ℕ) (b after : List ℕ) (asked : Need) where
  -- more bytes are lent than a call takes
  pub unlent : (x : Option State) → 65535 < size → Refuses b after asked → StepsFrom x size a b after asked
  unfolding fits_lent
  unlent (Some s) h r = refuses (rw (lt-leb size 65535 h)) r
  unlent None h r = r

  -- by what the numbers of a block say
  module _ (f : Fields) where
    abbrev From : Option State → Type 0
    From x = StepsFrom x size a b after asked

    by_numbers : (is_call f ≡ false → Refuses b after asked) → (is_stage f.stage f.what f.phase ≡ false → Refuses b after asked) → (is_ending f.error f.value f.extra ≡ false → Refuses b after asked)
        → (is_call f ≡ true → is_stage f.stage f.what f.phase ≡ true → is_ending f.error f.value f.extra ≡ true → From (Some (slave_of f))) → From (slave_in f)
    by_numbers nc ns ne is-there =
        either_way (is_call f)
        (λ c. either_way (is_stage f.stage f.what f.phase)
        (λ s. either_way (is_ending f.error f.value f.extra) (λ e. subst From (found f c s e) (is-there c s e)) (λ e. subst From (no_ending f c s e) (ne e)))
        (λ s. subst From (no_stage f c s) (ns s)))
        (λ c. subst From (no_call f c) (nc c))

    by_entry : (entry : ℕ) → (eqb f.entry entry ≡ false → Refuses b after asked) → (eqb f.entry entry ≡ true → From (slave_in f)) → From (cond (eqb f.entry entry) (slave_in f) None)
    by_entry entry other is-there =
        either_way (eqb f.entry entry)
        (λ e. subst (λ (t : Bool). From (cond t (slave_in f) None)) (sym e) (is-there e))
        (λ e. subst (λ (t : Bool). From (cond t (slave_in f) None)) (sym e) (other e))

    -- the state that the numbers say is not open where they are not ready
    unready : is_stage f.stage f.what f.phase ≡ true → ready_at (setting_in (slave_of f) size) (slave_of f).progress f.stage f.what ≡ false → is_open (slave_of f) size ≡ false
    unfolding fits_lent fits slave_of
    unready s short =
        let g : Setting = setting_in (slave_of f) size in
        let d : Progress = (slave_of f).progress in
        let st : Stage = stage_of f.stage f.what f.phase in
        false_from_ne_true (is_open (slave_of f) size)
        (λ e.
        let lent : leb size 65535 && fits_at g st d ≡ true = first_true (leb size 65535 && fits_at g st d) (not (is_end (owed_at g st d))) e in
        let open-still : not (is_end (owed_at g st d)) ≡ true = second_true (leb size 65535 && fits_at g st d) (not (is_end (owed_at g st d))) e in
        let ready : ready_at g d (stage_group st) (stage_what st) ≡ true = fits_ready g d st open-still (second_true (leb size 65535) (fits_at g st d) lent) in
        true≢false (sym ready ∙ ap (λ (n : ℕ). ready_at g d n (stage_what st)) (group_told f.stage f.what f.phase s) ∙ ap (λ (n : ℕ). ready_at g d f.stage n) (what_told f.stage f.what f.phase s) ∙ short))

    module _ (entry : ℕ) {call plain ready : Bool} (call-is : call ≡ eqb f.entry entry && is_call f) (plain-is : plain ≡ is_plain f.error f.value) (ready-is : ready ≡ is_seen (said_in entry size f) f.stage f.what) where
      ready_by : eqb f.entry entry ≡ true → ready ≡ ready_at (setting_in (slave_of f) size) (slave_of f).progress f.stage f.what
      unfolding slave_of
      ready_by e = ready-is ∙ ap (λ (n : ℕ). is_seen (said_in n size f) f.stage f.what) (sym (eqb-true f.entry entry e))

      -- the tests find no state that is open
      pub unheld : call && (plain && ready) ≡ false → Refuses b after asked → From (cond (eqb f.entry entry) (slave_in f) None)
      unheld test r =
          by_entry entry (λ _. r)
          (λ n. by_numbers (λ _. r) (λ _. r) (λ _. r)
          (λ c s e.
          let called : call ≡ true = call-is ∙ both_true n c in
          let is-plain : plain ≡ true = plain-is ∙ ending_plain f.error f.value f.extra e in
          let not-ready : ready ≡ false = rw (called, is-plain) at test in
          refuses (unready s (sym (ready_by n) ∙ not-ready)) r))

      -- they find a state, whose step it is
      abbrev Taken : ℕ → ℕ → Type 0
      Taken m group = Steps (ltb group 10 && fits_in (said_in m size f) group f.what f.phase) (said_in m size f).setting (advance_at (said_in m size f).setting (stage_of group f.what f.phase) (said_in m size f).progress a) b after asked

      pub stepped : call && (plain && ready) ≡ true → f.error < 256 → size ≤ 65535 → Taken entry f.stage → From (cond (eqb f.entry entry) (slave_in f) None)
      unfolding fits_lent fits slave_of
      stepped test byte small step =
          let n : eqb f.entry entry ≡ true = own entry size f call-is plain-is ready-is test in
          let c : is_call f ≡ true = is-call entry size f call-is plain-is ready-is test in
          let e : is_ending f.error f.value f.extra ≡ true = told entry size f call-is plain-is ready-is test byte in
          let g : Setting = setting_in (slave_of f) size in
          let d : Progress = (slave_of f).progress in
          let st : Stage = stage_of f.stage f.what f.phase in
          let steps : Steps (ltb f.stage 10 && (is_stage f.stage f.what f.phase && fits_at g st d)) g (advance_at g st d a) b after asked = subst (λ (m : ℕ). Taken m f.stage) (sym (eqb-true f.entry entry n)) step in
          by_entry entry (λ z. absurd (true≢false (sym n ∙ z)))
          (λ _. by_numbers (λ z. absurd (true≢false (sym c ∙ z))) (λ z. steps.refused (no_stage_fits (ltb f.stage 10) (fits_at g st d) z)) (λ z. absurd (true≢false (sym e ∙ z)))
          (λ _ s _. retest (in_order (fits_at g st d) (le-leb size 65535 small) s (open_at g d st ∙ ap (λ (m : ℕ). ltb m 10) (group_told f.stage f.what f.phase s))) steps))
