-- Which states stand in the blocks of a slave call, and that begin and each move lead to such.
-- Assumes nothing.
use Prim.Native.Nat.{ℕ}
use native.Mathlib.Omega.{arith}
use mathlib.Core.Path.{◌≡◌, refl, sym, ap, subst, ◌∙◌}
use mathlib.Core.Bool.{Bool, true, false, cond}
use mathlib.Core.List.{List}
use mathlib.Core.Option as maybe
use lib.Dec.{eqb, leb, ltb}
use lib.ListN.{get_or}
use borrow.Author.Tests.{eq-eqb, le-leb, ltb-false}
use Rattle.std.specs.Prelude.{Some, None, Option}
use Rattle.registers.specs.declared.chip.Chip.{Chip}
use Rattle.access.specs.declared.ending.Error.TheVariants.{BufferTooLong, InvalidState}
use Rattle.access.specs.declared.need.Need.TheVariants.{Keep, End}
use Rattle.access.specs.Endings.{failed}
use Rattle.asked.specs.Asked.{is_keep, kept_place, need_number}
use Rattle.stage_numbers.specs.SlaveStage.{stage_what, stage_phase, stage_of}
use Rattle.stage_numbers.proofs.SlaveStageLaws.{stage_back}
use Rattle.access.proofs.Choice.{both_true, first_true, second_true}
use Rattle.block.specs.declared.fields.Fields.{Fields}
use Rattle.block.specs.Bytes32.{bytes_of, long_at}
use Rattle.block.proofs.Codec.{said_back}
use Rattle.images.specs.SlaveImage.{kind_entry, slave_fields, slave_in}
use Rattle.images.proofs.SlaveImageLaws.{slave_found}
use Rattle.slave.specs.declared.state.Kind.{Kind}
use Rattle.slave.specs.declared.state.State.{State}
use Rattle.slave.specs.Machine.{owed_at, advance, advance_at, start}
use Rattle.slave.specs.Calls.{size_refusal}
use Rattle.slave.specs.Steps.{state_at, setting_in, move_of, need_of, fits_lent}
use Rattle.slave.specs.declared.state.Progress.{Progress}
use Rattle.slave.specs.declared.stage.Stage.{Stage}
use Rattle.slave.proofs.FitsKept.{states_fit}
use Rattle.slave_step.specs.Held.{held_in, fitting_in}
use Rattle.slave_step.proofs.LinkLaws.{kind_back, held_kind}
use Rattle.slave_step.proofs.StoreLaws.{place_at, goes_on, group_of, count_of}

module _ (x : Kind) (size : ℕ) where
  -- its block holds it
  abbrev pub Stands : State → Type 0
  Stands s = fitting_in size (held_in (kind_entry x) (bytes_of (slave_fields s))) ≡ Some s

  entry_of : (s : State) → s.kind ≡ x → (slave_fields s).entry ≡ kind_entry x
  unfolding slave_fields
  entry_of s k = ap kind_entry k

  pub stands : (s : State) → s.kind ≡ x → fits_lent s size ≡ true → Stands s
  unfolding held_in
  stands s k g =
      ap (λ (f : Fields). fitting_in size (cond (eqb f.entry (kind_entry x)) (slave_in f) None)) (said_back (slave_fields s))
      ∙ ap (λ (t : Bool). fitting_in size (cond t (slave_in (slave_fields s)) None)) (eq-eqb (slave_fields s).entry (kind_entry x) (entry_of s k))
      ∙ ap (fitting_in size) (slave_found s)
      ∙ ap (λ (t : Bool). cond t (Some s) None) g

  -- and only one of its kind that fits is held
  pub record Fitting (b : List ℕ) (s : State) : Type 0 where
    pub kind : s.kind ≡ x
    pub found : held_in (kind_entry x) b ≡ Some s
    pub lent : fits_lent s size ≡ true

  pub fitting : (b : List ℕ) (s : State) → fitting_in size (held_in (kind_entry x) b) ≡ Some s → Fitting b s
  fitting b s h = go (held_in (kind_entry x) b) refl h
    where
      at : (t : State) (v : Bool) → held_in (kind_entry x) b ≡ Some t → fits_lent t size ≡ v → cond v (Some t) None ≡ Some s → Fitting b s
      at t true e g q =
          let w : t ≡ s = cc in
          subst (Fitting b) w (record { kind = sym (sym (kind_back x) ∙ held_kind (kind_entry x) b t e); found = e; lent = g })
      at t false e g q = let z : ◌≡◌ {A = ℕ} 0 1 = cc in absurd (omega arith)

      go : (f : Option State) → held_in (kind_entry x) b ≡ f → fitting_in size f ≡ Some s → Fitting b s
      go (Some t) e q = at t (fits_lent t size) e refl q
      go None e q = let z : ◌≡◌ {A = ℕ} 0 1 = cc in absurd (omega arith)

  fits_moved : (s : State) (a : ℕ) → fits_lent s size ≡ true → fits_lent (state_at (setting_in s size) (advance_at (setting_in s size) s.stage s.progress a)) size ≡ true
  unfolding fits_lent advance
  fits_moved s a g = both_true (first_true _ _ g) (states_fit.kept (setting_in s size) (move_of s) a (second_true _ _ g))

  pub moved_stands : (s : State) (a : ℕ) → Stands s → Stands (state_at (setting_in s size) (advance_at (setting_in s size) s.stage s.progress a))
  moved_stands s a h = let f = fitting (bytes_of (slave_fields s)) s h in stands (state_at (setting_in s size) (advance_at (setting_in s size) s.stage s.progress a)) f.kind (fits_moved s a f.lent)

  small : size_refusal size ≡ maybe.none → leb size 65535 ≡ true
  small e = go (ltb 65535 size) refl e
    where
      go : (t : Bool) → ltb 65535 size ≡ t → cond t (maybe.some BufferTooLong) maybe.none ≡ maybe.none → leb size 65535 ≡ true
      go true q h = let z : ◌≡◌ {A = ℕ} 0 1 = cc in absurd (omega arith)
      go false q h = le-leb size 65535 (ltb-false 65535 size q)

  fits_first : (chip : Chip) → size_refusal size ≡ maybe.none → fits_lent (state_at (record { chip = chip; kind = x; size = size }) (start x)) size ≡ true
  unfolding fits_lent
  fits_first chip e = both_true (small e) (states_fit.begins (record { chip = chip; kind = x; size = size }))

  pub first_stands : (chip : Chip) → size_refusal size ≡ maybe.none → Stands (state_at (record { chip = chip; kind = x; size = size }) (start x))
  first_stands chip e = stands (state_at (record { chip = chip; kind = x; size = size }) (start x)) refl (fits_first chip e)

  -- what follows a byte to keep is not what a refused step asks for
  pub keeps_on : (b : List ℕ) (s : State) (p a : ℕ) → fitting_in size (held_in (kind_entry x) b) ≡ Some s → need_of s size ≡ Keep p
      → need_number (need_of (state_at (setting_in s size) (advance_at (setting_in s size) s.stage s.progress a)) size) ≡ need_number (End (failed InvalidState)) → ⊥
  keeps_on b s p a h k = goes_on (setting_in s size) s.progress s.stage a _ (ap is_keep k) refl

  -- where it is to be kept, by the block's numbers
  pub place_told : (b : List ℕ) (s : State) (k : Bool) (count : ℕ) → fitting_in size (held_in (kind_entry x) b) ≡ Some s → count ≡ long_at b 24
      → ((chip : Chip) (x : Kind) (d : Progress) (what phase : ℕ) → count ≡ d.count → k ≡ is_keep (owed_at (record { chip = chip; kind = x; size = size }) (stage_of (get_or b 3 0) what phase) d))
      → cond k (Some count) None ≡ kept_place (need_of s size)
  place_told b s k count h c kept =
      let e = (fitting b s h).found in
      let same : count ≡ s.progress.count = c ∙ sym (count_of (kind_entry x) b s e) in
      let keeps : k ≡ is_keep (need_of s size) =
      kept s.chip s.kind s.progress (stage_what s.stage) (stage_phase s.stage) same
      ∙ ap (λ (m : ℕ). is_keep (owed_at (setting_in s size) (stage_of m (stage_what s.stage) (stage_phase s.stage)) s.progress)) (sym (group_of (kind_entry x) b s e))
      ∙ ap (λ (st : Stage). is_keep (owed_at (setting_in s size) st s.progress)) (stage_back s.stage) in
      (λ i. cond (keeps i) (Some (same i)) None) ∙ sym (place_at (setting_in s size) s.progress s.stage)
