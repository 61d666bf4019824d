-- A step that takes a byte to keep is told from a refused one by what it asks for.
-- Assumes nothing.
use Prim.Native.Nat.{ℕ}
use mathlib.Core.Path.{◌≡◌, refl, sym, ap, ◌∙◌}
use mathlib.Core.Bool.{Bool, true, false, cond, not, ◌&&◌, true≢false}
use mathlib.Core.List.{List}
use native.Mathlib.Omega.{arith}
use lib.Dec.{eqb}
use lib.ListN.{set}
use borrow.Author.Tests.{eqb-true, eqb-false}
use Rattle.std.specs.Prelude.{Option, Some, None}
use Rattle.registers.specs.Fields.{DATA}
use Rattle.registers.specs.Word.{field_of}
use Rattle.access.specs.declared.ending.Error.TheVariants.{InvalidState}
use Rattle.access.specs.declared.need.Need.TheVariants as need
use Rattle.access.specs.declared.need.Need.{Need}
use Rattle.access.specs.Endings.{failed}
use Rattle.access.specs.Machine.{kept, is_end}
use Rattle.access.proofs.Choice.{both_true, first_true, second_true}
use Rattle.block.specs.Fields.{same_fields}
use Rattle.block.specs.Bytes32.{fields_of}
use Rattle.operations.specs.declared.search.Run.{Run}
use Rattle.operations.specs.Runs.{run_at}
use Rattle.master.specs.declared.state.State.{State}
use Rattle.master.specs.Machine.{advance_at, found_run, run_of}
use Rattle.master.specs.Fits.{fits, fits_found}
use Rattle.master.specs.Calls.{setting_of, spans_by, shape_by, refusal_by}
use Rattle.master.specs.Steps.{state_at, need_of, fits_lent, is_none}
use Rattle.images.specs.MasterImage.{master_fields, master_of, master_in}
use Rattle.asked.specs.Asked.{is_keep, kept_place, need_number}
use Rattle.master_step.specs.Held.{Steps}
use Rattle.master_step.proofs.KeepLaws.{place_at}
use Rattle.master_step.proofs.StoreLaws.{goes_on}
use Rattle.master_call.specs.CallStep.{held_in, is_open}
use Rattle.master_call.proofs.CallLaws.{none_open}

-- what is to be kept is no end
keeps_open : (x : Need) → is_keep x ≡ true → not (is_end x) ≡ true
keeps_open (need.Keep p) e = refl
keeps_open (need.Read r) e = refl
keeps_open (need.Write r v) e = refl
keeps_open need.Clock e = refl
keeps_open (need.Send p) e = refl
keeps_open need.Drop e = refl
keeps_open (need.End x) e = absurd (true≢false (sym e))

-- a step that takes a byte to keep asks for something behind it that is no refusal
module _ (s : State) (list : List ℕ) (w room a : ℕ) where
  abbrev moved : State
  moved = state_at s.call (advance_at (setting_of s.call) (run_of (shape_by s.call list w room) s.progress.run) s.stage s.progress a)

  pub keeping_goes_on : fits_lent s list w room ≡ true → is_keep (need_of s) ≡ true → need_number (need_of moved) ≡ need_number (need.End (failed InvalidState)) → ⊥
  unfolding fits_lent fits
  keeping_goes_on e k q = go (run_at (spans_by s.call.kind list w room) s.progress.run) refl
    where
      fit : fits_found (setting_of s.call) (run_at (spans_by s.call.kind list w room) s.progress.run) s.stage s.progress ≡ true
      fit = second_true (is_none (refusal_by s.call.kind s.call.address list w room)) _ e

      go : (f : Option Run) → run_at (spans_by s.call.kind list w room) s.progress.run ≡ f → ⊥
      go (Some r) z =
          goes_on s.call r s.progress s.stage a _ (sym (ap (λ (f : Option Run). fits_found (setting_of s.call) f s.stage s.progress) z) ∙ fit) k refl
          (ap (λ (f : Option Run). need_number (need_of (state_at s.call (advance_at (setting_of s.call) (found_run f) s.stage s.progress a)))) (sym z) ∙ q)
      go None z =
          true≢false (sym (both_true (sym (ap (λ (f : Option Run). fits_found (setting_of s.call) f s.stage s.progress) z) ∙ fit) (keeps_open (need_of s) k)) ∙ none_open (setting_of s.call) s.stage s.progress)

-- what is kept, by the place of a byte to keep
kept_by : (x : Need) (p a : ℕ) (bytes : List ℕ) → kept_place x ≡ cond (is_keep x) (Some p) None → kept x a bytes ≡ cond (is_keep x) (set bytes p (field_of DATA a)) bytes
kept_by (need.Keep q) p a bytes e = let z : q ≡ p = cc in ap (λ (m : ℕ). set bytes m (field_of DATA a)) z
kept_by (need.Read r) p a bytes e = refl
kept_by (need.Write r v) p a bytes e = refl
kept_by need.Clock p a bytes e = refl
kept_by (need.Send q) p a bytes e = refl
kept_by need.Drop p a bytes e = refl
kept_by (need.End x) p a bytes e = refl

-- a byte to keep is stored exactly by a step that is taken: what it asks for tells it from a refused one
module _ (s : State) (list : List ℕ) (w room a : ℕ) (b after read : List ℕ) (asked : Need) (n : ℕ)
    (steps : Steps (is_open s list w room) s.call (advance_at (setting_of s.call) (run_of (shape_by s.call list w room) s.progress.run) s.stage s.progress a) b after asked)
    (number : n ≡ need_number (need.End (failed InvalidState))) where
  on : is_open s list w room ≡ true → is_keep (need_of s) ≡ true → need_number asked ≡ n → ⊥
  on e k q = keeping_goes_on s list w room a (first_true (fits_lent s list w room) (not (is_end (need_of s))) e) k (sym (ap need_number (steps.taken e).owed) ∙ q ∙ number)

  -- what the bytes read become
  pub stored_is : cond (is_keep (need_of s) && not (eqb (need_number asked) n)) (set read s.progress.place (field_of DATA a)) read ≡ cond (is_open s list w room) (kept (need_of s) a read) read
  stored_is = rw (kept_by (need_of s) s.progress.place a read (place_at (setting_of s.call) s.progress s.stage)) (go (is_open s list w room) (is_keep (need_of s)) (eqb (need_number asked) n) refl refl refl)
    where
      go : (v k u : Bool) → is_open s list w room ≡ v → is_keep (need_of s) ≡ k → eqb (need_number asked) n ≡ u
          → cond (k && not u) (set read s.progress.place (field_of DATA a)) read ≡ cond v (cond k (set read s.progress.place (field_of DATA a)) read) read
      go true false u e k q = refl
      go false false u e k q = refl
      go true true true e k q = absurd (on e k (eqb-true (need_number asked) n q))
      go true true false e k q = refl
      go false true true e k q = refl
      go false true false e k q = absurd (eqb-false (need_number asked) n q (ap need_number (steps.refused e).ended ∙ sym number))

-- the state that is found in a block is the one that it tells
pub found_is : (entry : ℕ) (b : List ℕ) (s : State) → held_in entry b ≡ Some s → s ≡ master_of (fields_of b)
unfolding held_in master_in
found_is entry b s e = go (eqb (fields_of b).entry entry) (same_fields (master_fields (master_of (fields_of b))) (fields_of b)) e
  where
    state_of : State → Option State → State
    state_of x (Some t) = t
    state_of x None = x

    go : (u v : Bool) → cond u (cond v (Some (master_of (fields_of b))) None) None ≡ Some s → s ≡ master_of (fields_of b)
    go true true q = sym (ap (state_of s) q)
    go true false q = let z : ◌≡◌ {A = ℕ} 0 1 = cc in absurd (omega arith)
    go false v q = let z : ◌≡◌ {A = ℕ} 0 1 = cc in absurd (omega arith)
