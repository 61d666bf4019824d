-- Begin and steps on a block are the run of the machine: for every call.
-- Assumes nothing.
use mathlib.Core.Path.{◌≡◌, refl, ap, ◌∙◌}
use mathlib.Core.Bool.{Bool, true, false, cond, not}
use mathlib.Core.List.{List, [], ◌∷◌}
use mathlib.Core.Option as maybe
use Prim.Native.Nat.{ℕ}
use Rattle.std.specs.Prelude.{Option, Result, Ok, Some, None}
use Rattle.access.specs.declared.ending.Error.{Error}
use Rattle.access.specs.declared.ending.Error.TheVariants.{InvalidState}
use Rattle.access.specs.Machine.{is_end, kept}
use Rattle.call.specs.OnBlock.{After, AfterOn, OnBlock, refused, standing, owed_by, moved_by, step_on, begin_by, begin_on}
use Rattle.call.specs.CallOn.{CallOn, IsCall, Stands, state_in, machine_of, on_block, begun, begun_by, steps_from, still, run_from}
use Rattle.call.specs.Edge.{in_block, begin_at, known}
use Rattle.call.specs.Left.{begin_left, step_left}

-- a state that is held by a test, in the mathematics' option
pub held_if : {State : Type 0} (t : Bool) (s : State) → state_in (cond t (Some s) None) ≡ cond t (maybe.some s) maybe.none
held_if true s = refl
held_if false s = refl

module _ {Args State Store : Type 0} (c : CallOn Args State Store) (k : IsCall c) where
  -- what a step makes of a state that stands in its block
  pub stepped : (s : State) (a : ℕ) → Stands c s → step_on (on_block c) (c.image s) a ≡ cond (is_end (c.need s)) (refused InvalidState (c.image s)) (standing (on_block c) (c.move s a))
  unfolding step_on
  stepped s a h =
      ap (λ (o : Option State). cond (not (is_end (owed_by (on_block c) (state_in o)))) (moved_by (on_block c) (state_in o) (c.image s) a) (refused InvalidState (c.image s))) h
      ∙ turned (is_end (c.need s))
    where
      turned : (t : Bool) → cond (not t) (standing (on_block c) (c.move s a)) (refused InvalidState (c.image s)) ≡ cond t (refused InvalidState (c.image s)) (standing (on_block c) (c.move s a))
      turned true = refl
      turned false = refl

  ended : (s : State) → Stands c s → is_end (c.need s) ≡ true → (answers : List ℕ) → steps_from c (refused InvalidState (c.image s)) answers ≡ refused InvalidState (c.image s) ∷ still c (c.image s) answers
  ended s h e [] = refl
  ended s h e (a ∷ answers) =
      let q : step_on (on_block c) (c.image s) a ≡ refused InvalidState (c.image s) = rw e at (stepped s a h) in
      ap (λ (x : AfterOn Store). refused InvalidState (c.image s) ∷ steps_from c x answers) q ∙ ap (λ (xs : List (AfterOn Store)). refused InvalidState (c.image s) ∷ xs) (ended s h e answers)

  pub runs_from : (s : State) → Stands c s → (answers : List ℕ) → steps_from c (standing (on_block c) s) answers ≡ run_from c s answers
  runs_from s h [] = refl
  runs_from s h (a ∷ answers) =
      ap (λ (x : AfterOn Store). standing (on_block c) s ∷ steps_from c x answers) (stepped s a h) ∙ go (is_end (c.need s)) refl (runs_from (c.move s a) (k.moves s a h) answers)
    where
      go : (t : Bool) → is_end (c.need s) ≡ t → steps_from c (standing (on_block c) (c.move s a)) answers ≡ run_from c (c.move s a) answers
          → standing (on_block c) s ∷ steps_from c (cond t (refused InvalidState (c.image s)) (standing (on_block c) (c.move s a))) answers ≡ standing (on_block c) s ∷ cond t (still c (c.image s) (a ∷ answers)) (run_from c (c.move s a) answers)
      go true e q = ap (λ (xs : List (AfterOn Store)). standing (on_block c) s ∷ xs) (ended s h e answers)
      go false e q = ap (λ (xs : List (AfterOn Store)). standing (on_block c) s ∷ xs) q

  pub runs_on : (x : Args) (s : State) (b : Store) (answers : List ℕ) → c.first x ≡ Ok s → steps_from c (begun c x b) answers ≡ run_from c s answers
  runs_on x s b answers e = ap (λ (r : Result State Error). steps_from c (begun_by c r b) answers) e ∙ runs_from s (k.begins x s e) answers

-- begin where C calls is begin by the tests in their order
module _ {Args State : Type 0} (c : CallOn Args State (List ℕ)) where
  pub begin_as : (unknown : Bool) (x : Args) (b : List ℕ) (cause : maybe.Option Error) (first : After) → begun c x b ≡ begin_by cause b first → begin_at c (known unknown x) b ≡ begin_on unknown cause b first
  unfolding begin_on
  begin_as true x b cause first e = refl
  begin_as false x b cause first e = rw e refl

  -- a step where C calls is the step of another record of the call, where this holds the same
  abbrev held_as : (List ℕ → maybe.Option State) → OnBlock
  held_as f = record { machine = machine_of c; image = c.image; held = f }

  pub step_as : (f : List ℕ → maybe.Option State) (bytes b r : List ℕ) (a : ℕ) → (in_block c).held b ≡ f b → step_left (in_block c) bytes b r a ≡ step_left (held_as f) bytes b r a
  unfolding step_on
  step_as f bytes b r a e =
      ap (λ (o : maybe.Option State). begin_left bytes (cond (not (is_end (owed_by (in_block c) o))) (moved_by (in_block c) o b a) (refused InvalidState b)) (kept (owed_by (in_block c) o) a r)) e
