-- What becomes of a block that holds a call, or none: a step in the run that is lent, and a refusal.
-- Assumes nothing.
use Prim.Native.Nat.{ℕ}
use mathlib.Core.Path.{◌≡◌, refl, sym, subst, ◌∙◌}
use mathlib.Core.Bool.{Bool, true, false, cond, not, ◌&&◌, true≢false, and-false}
use mathlib.Core.List.{List}
use mathlib.Core.Option.{none}
use lib.Dec.{eqb, ltb}
use lib.ListN.{length, get_or}
use Rattle.std.specs.Prelude.{Option, Some, None}
use Rattle.access.specs.declared.need.Need.{Need}
use Rattle.access.specs.Machine.{is_end}
use Rattle.access.proofs.Choice.{first_true, second_true}
use Rattle.block.specs.Fields.{same_fields}
use Rattle.block.specs.Bytes32.{fields_of, Bytes}
use Rattle.operations.specs.declared.search.Run.{Run}
use Rattle.operations.specs.Operations.{is_read}
use Rattle.operations.specs.Runs.{run_at}
use Rattle.master.specs.declared.call.Setting.{Setting}
use Rattle.master.specs.declared.stage.Stage.{Stage}
use Rattle.master.specs.declared.stage.Stage.TheVariants as stage
use Rattle.master.specs.declared.state.Progress.{Progress}
use Rattle.master.specs.declared.state.State.{State}
use Rattle.master.specs.Machine.{owed_at, advance_at, found_run, run_of}
use Rattle.master.specs.Fits.{fits, fits_at, fits_nothing}
use Rattle.master.specs.Calls.{setting_of, spans_by, shape_by, refusal_by}
use Rattle.master.specs.Steps.{fits_lent}
use Rattle.stage_numbers.specs.MasterStage.{is_stage}
use Rattle.access.specs.Endings.{is_ending}
use Rattle.images.specs.MasterImage.{master_fields, master_of, master_in, is_call}
use Rattle.images.proofs.MasterImageRanges as ranges
use Rattle.master_step.specs.declared.here.Here.{Here}
use Rattle.master_step.specs.Going.{here_in}
use Rattle.master_step.specs.Held.{Steps, Refuses, InRun, StepIn, stage_in, is_taken}
use Rattle.master_step.proofs.Laws.{refuses}
use Rattle.master_step.proofs.KeepLaws.{still_open}
use Rattle.master_step.proofs.SeenLaws.{block_told}
use Rattle.master_call.specs.CallStep.{is_call_of, held_in, is_open, Stepped}

-- where there is no run, nothing is open
pub none_open : (g : Setting) (st : Stage) (d : Progress) → fits_nothing st d && not (is_end (owed_at g st d)) ≡ false
none_open g stage.Begin d = refl
none_open g (stage.WaitStop f x) d = refl
none_open g (stage.LaunchStart x) d = refl
none_open g (stage.Wait f x) d = refl
none_open g (stage.Address x) d = refl
none_open g stage.SendByte d = refl
none_open g (stage.RecvByte x) d = refl
none_open g (stage.ReadIter x) d = refl
none_open g (stage.GenerateStop k x) d = refl
none_open g (stage.Abort x) d = refl
none_open g stage.Ended d = and-false (fits_nothing stage.Ended d)

module _ (s : State) (list : List ℕ) (w room : ℕ) where
  -- a cause of refusal
  pub refused_open : (t : Bool) → t ≡ false → fits_lent s list w room ≡ t → is_open s list w room ≡ false
  refused_open t e k = rw (k, e)

  -- no run of that number
  pub absent_open : refusal_by s.call.kind s.call.address list w room ≡ none → run_at (spans_by s.call.kind list w room) s.progress.run ≡ None → is_open s list w room ≡ false
  unfolding fits_lent fits
  absent_open ok run = rw (ok, run) (none_open (setting_of s.call) s.stage s.progress)

module _ (b list : List ℕ) (w room a : ℕ) (after : List ℕ) (asked : Need) where
  abbrev state : State
  state = master_of (fields_of b)

  -- nothing is taken
  pub not_open : is_open state list w room ≡ false → Refuses b after asked → Stepped (master_in (fields_of b)) list w room a b after asked
  unfolding master_in
  not_open e r = go (same_fields (master_fields state) (fields_of b))
    where
      go : (t : Bool) → Stepped (cond t (Some state) None) list w room a b after asked
      go true = refuses e r
      go false = r

  -- by the run that the state is in
  module _ (size : length b ≡ 32) (bytes : Bytes b) (call : is_call (fields_of b) ≡ true) (ending : is_ending (fields_of b).error (fields_of b).value (fields_of b).extra ≡ true)
      (ok : refusal_by state.call.kind state.call.address list w room ≡ none) (r : Run)
      (run : run_at (spans_by state.call.kind list w room) state.progress.run ≡ Some r) where
    abbrev numbers : Bool
    numbers = is_stage (fields_of b).stage (fields_of b).what (fields_of b).phase

    told : (here : Here) → here ≡ here_in state.call r (is_read r.direction) → InRun state.call r state.progress here b
    unfolding fields_of
    told here e = record { held = block_told b size bytes call ending; going = e }

    same_test : (l n f : Bool) → n ≡ true → f && l ≡ l && (n && f)
    same_test true true true e = refl
    same_test true true false e = refl
    same_test false true true e = refl
    same_test false true false e = refl
    same_test l false f e = absurd (true≢false (sym e))

    open_is : numbers ≡ true → is_open state list w room ≡ is_taken state.call r state.progress b
    unfolding fits_lent fits fields_of master_of
    open_is e =
        rw (ok, run, still_open (setting_of state.call) state.progress (get_or b 3 0) (get_or b 4 0) (get_or b 5 0) e)
        (same_test (ltb (get_or b 3 0) 10) (is_stage (get_or b 3 0) (get_or b 4 0) (get_or b 5 0)) (fits_at (setting_of state.call) r (stage_in b) state.progress) e)

    not_taken : (l n f : Bool) → n ≡ false → l && (n && f) ≡ false
    not_taken true n f e = rw e
    not_taken false n f e = refl

    same_stage : stage_in b ≡ state.stage
    unfolding fields_of master_of
    same_stage = refl

    no_numbers : numbers ≡ false → is_taken state.call r state.progress b ≡ false
    unfolding fields_of
    no_numbers q = not_taken (ltb (get_or b 3 0) 10) (is_stage (get_or b 3 0) (get_or b 4 0) (get_or b 5 0)) (fits_at (setting_of state.call) r (stage_in b) state.progress) q

    pub in_run : (here : Here) → here ≡ here_in state.call r (is_read r.direction) → StepIn here a b after asked → Stepped (master_in (fields_of b)) list w room a b after asked
    in_run here e steps = go numbers refl
      where
        taken : Steps (is_taken state.call r state.progress b) state.call (advance_at (setting_of state.call) r (stage_in b) state.progress a) b after asked
        taken = steps state.call r state.progress (told here e)

        go : (t : Bool) → numbers ≡ t → Stepped (master_in (fields_of b)) list w room a b after asked
        go true q =
            subst (λ (f : Option State). Stepped f list w room a b after asked) (ranges.found (fields_of b) call q ending)
            (subst (λ (t : Bool). Steps t state.call (advance_at (setting_of state.call) (run_of (shape_by state.call list w room) state.progress.run) state.stage state.progress a) b after asked) (sym (open_is q))
            (subst (λ (f : Option Run). Steps (is_taken state.call r state.progress b) state.call (advance_at (setting_of state.call) (found_run f) state.stage state.progress a) b after asked) (sym run)
            (subst (λ (st : Stage). Steps (is_taken state.call r state.progress b) state.call (advance_at (setting_of state.call) r st state.progress a) b after asked) same_stage taken)))
        go false q =
            subst (λ (f : Option State). Stepped f list w room a b after asked) (ranges.no_stage (fields_of b) call q)
            (taken.refused (no_numbers q))

-- ---- by the entry

-- one that holds such a call: its number, and its other numbers
module _ (entry : ℕ) (b : List ℕ) (e : is_call_of entry b ≡ true) where
  pub own_entry : eqb (fields_of b).entry entry ≡ true
  unfolding is_call_of
  own_entry = first_true (eqb (fields_of b).entry entry) _ e

  pub is_call_lem : is_call (fields_of b) ≡ true
  unfolding is_call_of
  is_call_lem = first_true (is_call (fields_of b)) _ (second_true (eqb (fields_of b).entry entry) _ e)

  pub is_ending_lem : is_ending (fields_of b).error (fields_of b).value (fields_of b).extra ≡ true
  unfolding is_call_of
  is_ending_lem = second_true (is_call (fields_of b)) _ (second_true (eqb (fields_of b).entry entry) _ e)

module _ (entry : ℕ) (b list : List ℕ) (w room a : ℕ) (after : List ℕ) (asked : Need) where
  -- a block that holds no call of the entry
  pub no_call : is_call_of entry b ≡ false → Refuses b after asked → Stepped (held_in entry b) list w room a b after asked
  unfolding is_call_of held_in master_in
  no_call e r = go (eqb (fields_of b).entry entry) (is_call (fields_of b)) (is_ending (fields_of b).error (fields_of b).value (fields_of b).extra) e refl refl
    where
      other : (t : Bool) → same_fields (master_fields (master_of (fields_of b))) (fields_of b) ≡ t → t ≡ false → Stepped (cond (same_fields (master_fields (master_of (fields_of b))) (fields_of b)) (Some (master_of (fields_of b))) None) list w room a b after asked
      other t q z = subst (λ (x : Bool). Stepped (cond x (Some (master_of (fields_of b))) None) list w room a b after asked) (sym (q ∙ z)) r

      go : (own call ending : Bool) → own && (call && ending) ≡ false → is_call (fields_of b) ≡ call → is_ending (fields_of b).error (fields_of b).value (fields_of b).extra ≡ ending
          → Stepped (cond own (cond (same_fields (master_fields (master_of (fields_of b))) (fields_of b)) (Some (master_of (fields_of b))) None) None) list w room a b after asked
      go false call ending e c k = r
      go true false ending e c k = other _ (ranges.image_ranges (fields_of b)) (rw c)
      go true true false e c k = other _ (ranges.image_ranges (fields_of b)) (rw (c, k) (and-false (is_stage (fields_of b).stage (fields_of b).what (fields_of b).phase)))
      go true true true e c k = absurd (true≢false e)

  -- and one that does
  pub held : is_call_of entry b ≡ true → Stepped (master_in (fields_of b)) list w room a b after asked → Stepped (held_in entry b) list w room a b after asked
  unfolding held_in
  held e x = subst (λ (t : Bool). Stepped (cond t (master_in (fields_of b)) None) list w room a b after asked) (sym (own_entry entry b e)) x
