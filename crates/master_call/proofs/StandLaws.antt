-- Which states stand in the blocks of a transfer, and that begin and each move lead to such.
-- Assumes nothing.
use Prim.Native.Nat.{ℕ}
use native.Mathlib.Omega.{arith}
use mathlib.Core.Path.{◌≡◌, refl, sym, ap, subst, ◌∙◌}
use mathlib.Core.Bool.{Bool, true, false, cond}
use mathlib.Core.List.{List}
use mathlib.Core.Option as maybe
use lib.Dec.{eqb}
use lib.ListN.{length, replicate, get_or}
use borrow.Author.Tests.{eq-eqb, eqb-true}
use Rattle.std.proofs.lemmas.List.{length-replicate}
use Rattle.std.specs.Prelude.{Option, Some, None}
use Rattle.access.specs.declared.ending.Error.{Error}
use Rattle.access.specs.declared.ending.Error.TheVariants.{InvalidState}
use Rattle.access.specs.declared.need.Need.TheVariants.{Keep, End}
use Rattle.access.specs.Endings.{failed}
use Rattle.asked.specs.Asked.{is_keep, kept_place, need_number}
use Rattle.stage_numbers.specs.MasterStage.{stage_of}
use Rattle.access.proofs.Choice.{both_true, first_true, second_true}
use Rattle.block.specs.declared.fields.Fields.{Fields}
use Rattle.block.specs.Bytes32.{fields_of, bytes_of, word_at}
use Rattle.block.proofs.Codec.{said_back}
use Rattle.images.specs.MasterImage.{kind_entry, master_fields, master_of, master_in}
use Rattle.images.proofs.MasterImageLaws.{master_found, master_image}
use Rattle.master.specs.declared.call.Call.{Call}
use Rattle.master.specs.declared.state.Move.{Move}
use Rattle.master.specs.declared.state.State.{State}
use Rattle.master.specs.Machine.{owed_at, advance, advance_at, run_of, start}
use Rattle.master.specs.Fits.{fits}
use Rattle.master.specs.Calls.{lent_with, setting_of, shape_by, refusal_by}
use Rattle.master.specs.Steps.{state_at, move_of, need_of, is_none, fits_lent}
use Rattle.master.specs.declared.call.Setting.{Setting}
use Rattle.master.specs.declared.stage.Stage.{Stage}
use Rattle.master.specs.declared.state.Progress.{Progress}
use Rattle.master.proofs.AcceptedFits.{states_fit}
use Rattle.master_step.proofs.KeepLaws.{place_at}
use Rattle.master_call.specs.CallStep.{held_in, fitting_in}
use Rattle.master_call.proofs.KeptLaws.{keeping_goes_on, found_is}

-- begin and each move keep what fits, by how many bytes are lent to write
module _ (c : Call) (list : List ℕ) (written room : ℕ) (accepted : refusal_by c.kind c.address list written room ≡ maybe.none) where
  abbrev bytes : List ℕ
  bytes = replicate written 0

  long : length bytes ≡ written
  long = length-replicate written 0

  accepted_with : refusal_by c.kind c.address list (length bytes) room ≡ maybe.none
  accepted_with = ap (λ (n : ℕ). refusal_by c.kind c.address list n room) long ∙ accepted

  begins_fit : fits (shape_by c list written room) (start (shape_by c list written room)) ≡ true
  unfolding Rattle.master.specs.Calls.refusal
  begins_fit = subst (λ (n : ℕ). fits (shape_by c list n room) (start (shape_by c list n room)) ≡ true) long (states_fit.begins c (lent_with list bytes room) accepted_with)

  move_fits : (m : Move) (a : ℕ) → fits (shape_by c list written room) m ≡ true → fits (shape_by c list written room) (advance (shape_by c list written room) m a) ≡ true
  unfolding Rattle.master.specs.Calls.refusal
  move_fits m a g =
      subst (λ (n : ℕ). fits (shape_by c list n room) (advance (shape_by c list n room) m a) ≡ true) long
      (states_fit.kept c (lent_with list bytes room) accepted_with m a (subst (λ (n : ℕ). fits (shape_by c list n room) m ≡ true) (sym long) g))

-- without a cause of refusal
unrefused : (o : maybe.Option Error) → is_none o ≡ true → o ≡ maybe.none
unrefused maybe.none e = refl
unrefused (maybe.some x) e = let z : ◌≡◌ {A = ℕ} 0 1 = cc in absurd (omega arith)

-- the calls of an entry, with this list and so many bytes to write and to read
module _ (entry : ℕ) (list : List ℕ) (written room : ℕ) where
  -- its block holds it
  abbrev pub Stands : State → Type 0
  Stands s = fitting_in list written room (held_in entry (bytes_of (master_fields s))) ≡ Some s

  entry_of : (s : State) → kind_entry s.call.kind ≡ entry → (master_fields s).entry ≡ entry
  unfolding master_fields
  entry_of s k = k

  pub stands : (s : State) → kind_entry s.call.kind ≡ entry → fits_lent s list written room ≡ true → Stands s
  unfolding held_in
  stands s k g =
      ap (λ (f : Fields). fitting_in list written room (cond (eqb f.entry entry) (master_in f) None)) (said_back (master_fields s))
      ∙ ap (λ (t : Bool). fitting_in list written room (cond t (master_in (master_fields s)) None)) (eq-eqb (master_fields s).entry entry (entry_of s k))
      ∙ ap (fitting_in list written room) (master_found s)
      ∙ ap (λ (t : Bool). cond t (Some s) None) g

  -- and only one of the entry that fits is held
  pub record Fitting (b : List ℕ) (s : State) : Type 0 where
    pub kind : kind_entry s.call.kind ≡ entry
    pub found : held_in entry b ≡ Some s
    pub lent : fits_lent s list written room ≡ true

  held_kind : (b : List ℕ) (t : State) → held_in entry b ≡ Some t → kind_entry t.call.kind ≡ entry
  unfolding held_in master_fields
  held_kind b t e = go (eqb (fields_of b).entry entry) refl e
    where
      go : (own : Bool) → eqb (fields_of b).entry entry ≡ own → cond own (master_in (fields_of b)) None ≡ Some t → kind_entry t.call.kind ≡ entry
      go true q h = ap (λ (f : Fields). f.entry) (master_image (fields_of b) t h) ∙ eqb-true (fields_of b).entry entry q
      go false q h = let z : ◌≡◌ {A = ℕ} 0 1 = cc in absurd (omega arith)

  pub fitting : (b : List ℕ) (s : State) → fitting_in list written room (held_in entry b) ≡ Some s → Fitting b s
  fitting b s h = go (held_in entry b) refl h
    where
      at : (t : State) (v : Bool) → held_in entry b ≡ Some t → fits_lent t list written room ≡ v → cond v (Some t) None ≡ Some s → Fitting b s
      at t true e g q =
          let w : t ≡ s = cc in
          subst (Fitting b) w (record { kind = held_kind b t e; found = e; lent = g })
      at t false e g q = let z : ◌≡◌ {A = ℕ} 0 1 = cc in absurd (omega arith)

      go : (f : Option State) → held_in entry b ≡ f → fitting_in list written room f ≡ Some s → Fitting b s
      go (Some t) e q = at t (fits_lent t list written room) e refl q
      go None e q = let z : ◌≡◌ {A = ℕ} 0 1 = cc in absurd (omega arith)

  fits_moved : (s : State) (a : ℕ) → fits_lent s list written room ≡ true
      → fits_lent (state_at s.call (advance_at (setting_of s.call) (run_of (shape_by s.call list written room) s.progress.run) s.stage s.progress a)) list written room ≡ true
  unfolding fits_lent advance
  fits_moved s a g =
      let none = unrefused (refusal_by s.call.kind s.call.address list written room) (first_true (is_none (refusal_by s.call.kind s.call.address list written room)) _ g) in
      both_true (first_true _ _ g) (move_fits s.call list written room none (move_of s) a (second_true (is_none (refusal_by s.call.kind s.call.address list written room)) _ g))

  pub moved_stands : (s : State) (a : ℕ) → Stands s → Stands (state_at s.call (advance_at (setting_of s.call) (run_of (shape_by s.call list written room) s.progress.run) s.stage s.progress a))
  moved_stands s a h =
      let f = fitting (bytes_of (master_fields s)) s h in
      stands (state_at s.call (advance_at (setting_of s.call) (run_of (shape_by s.call list written room) s.progress.run) s.stage s.progress a)) f.kind (fits_moved s a f.lent)

  fits_first : (c : Call) → refusal_by c.kind c.address list written room ≡ maybe.none → fits_lent (state_at c (start (shape_by c list written room))) list written room ≡ true
  unfolding fits_lent
  fits_first c e = both_true (ap is_none e) (begins_fit c list written room e)

  pub first_stands : (c : Call) → kind_entry c.kind ≡ entry → refusal_by c.kind c.address list written room ≡ maybe.none → Stands (state_at c (start (shape_by c list written room)))
  first_stands c k e = stands (state_at c (start (shape_by c list written room))) k (fits_first c e)

  -- what follows a byte to keep is not what a refused step asks for
  pub keeps_on : (b : List ℕ) (s : State) (p a : ℕ) → fitting_in list written room (held_in entry b) ≡ Some s → need_of s ≡ Keep p
      → need_number (need_of (state_at s.call (advance_at (setting_of s.call) (run_of (shape_by s.call list written room) s.progress.run) s.stage s.progress a))) ≡ need_number (End (failed InvalidState)) → ⊥
  keeps_on b s p a h k = keeping_goes_on s list written room a (fitting b s h).lent (ap is_keep k)

  -- where it is to be kept, by the block's numbers
  pub place_told : (b : List ℕ) (s : State) (k : Bool) (place : ℕ) → fitting_in list written room (held_in entry b) ≡ Some s → place ≡ word_at b 14
      → ((g : Setting) (what : ℕ) (d : Progress) → k ≡ is_keep (owed_at g (stage_of (get_or b 3 0) what (get_or b 5 0)) d)) → cond k (Some place) None ≡ kept_place (need_of s)
  unfolding master_of fields_of
  place_told b s k place h at kept =
      let s-is : s ≡ master_of (fields_of b) = found_is entry b s (fitting b s h).found in
      let same : place ≡ s.progress.place = at ∙ sym (ap (λ (t : State). t.progress.place) s-is) in
      let keeps : k ≡ is_keep (need_of s) =
      kept (setting_of s.call) (get_or b 4 0) s.progress ∙ ap (λ (st : Stage). is_keep (owed_at (setting_of s.call) st s.progress)) (sym (ap (λ (t : State). t.stage) s-is)) in
      (λ i. cond (keeps i) (Some (same i)) None) ∙ sym (place_at (setting_of s.call) s.progress s.stage)
