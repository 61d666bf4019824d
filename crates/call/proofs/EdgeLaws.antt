-- A step where C calls leaves what the step of the call makes of its block, where that has its length.
-- Assumes nothing.
use mathlib.Core.Path.{◌≡◌, refl, sym, ap, subst, ◌∙◌}
use mathlib.Core.Bool.{Bool, true, false, cond, not}
use mathlib.Core.List.{List, []}
use Prim.Native.Nat.{ℕ}
use lib.Dec.{eqb}
use lib.ListN.{length}
use borrow.Author.Tests.{eq-eqb, ne_eqb}
use Rattle.std.specs.Prelude.{Option, Some, None}
use Rattle.access.specs.declared.ending.Error.TheVariants.{InvalidState}
use Rattle.access.specs.declared.need.Need.{Need}
use Rattle.access.specs.declared.need.Need.TheVariants.{Read, Write, Clock, Send, Keep, Drop, End}
use Rattle.access.specs.Endings.{failed}
use Rattle.asked.specs.Asked.{need_number, kept_place}
use Rattle.access.specs.Machine.{filled, kept, is_end}
use Rattle.access.specs.Numbers.{next_number, HoldsWords}
use Rattle.block.specs.Bytes32.{block_size}
use Rattle.call.specs.OnBlock.{After, Does, refused, standing, owed_by, owed_in, moved_by, step_on}
use Rattle.call.specs.CallOn.{CallOn, state_in, on_block}
use Rattle.call.specs.Kept.{stored_at, GoesOn}
use Rattle.call.specs.Left.{step_left, Leaves, LeavesBlock}
use Rattle.call.specs.Edge.{in_block}

module _ {Args State : Type 0} (c : CallOn Args State (List ℕ)) {w b : List ℕ} (same : w ≡ b) (size : length b ≡ block_size) where
  held_whole : cond (eqb (length b) block_size) (c.held b) None ≡ c.held b
  held_whole = ap (λ (t : Bool). cond t (c.held b) None) (eq-eqb (length b) block_size size)

  steps_whole : (a : ℕ) → step_on (on_block c) b a ≡ step_on (in_block c) b a
  unfolding step_on
  steps_whole a =
      ap (λ (o : Option State). cond (not (is_end (owed_by (on_block c) (state_in o)))) (moved_by (on_block c) (state_in o) b a) (refused InvalidState b)) (sym held_whole)

  owes_whole : owed_in (on_block c) b ≡ owed_in (in_block c) b
  owes_whole = ap (λ (o : Option State). owed_by (on_block c) (state_in o)) (sym held_whole)

  module _ (bytes : List ℕ) (a k : ℕ) (after : List ℕ) where
    -- where nothing is lent to read
    pub step_leaves : (n : Need) → Does (step_on (on_block c) w a) n after → k ≡ next_number (filled bytes n) → HoldsWords (filled bytes n) → LeavesBlock (step_left (in_block c) bytes b [] a) k after
    step_leaves n d q h =
        let s : step_on (on_block c) w a ≡ step_on (in_block c) b a = ap (λ (x : List ℕ). step_on (on_block c) x a) same ∙ steps_whole a in
        let e = d.need ∙ ap (λ (x : After). x.need) s in
        record { number = q ∙ ap (λ (m : Need). next_number (filled bytes m)) e; words = subst (λ (m : Need). HoldsWords (filled bytes m)) e h; block = d.block ∙ ap (λ (x : After). x.block) s }

    -- where the answer's byte may be stored
    module _ (goes_on : GoesOn c) (r : List ℕ) (place : Option ℕ) (told : (s : State) → c.held w ≡ Some s → place ≡ kept_place (c.need s)) where
      -- the step asks for what a refused step asks for
      abbrev refuses : Need → Bool
      refuses n = eqb (need_number n) (need_number (End (failed InvalidState)))

      abbrev stored_if : Option ℕ → Bool → List ℕ
      stored_if o t = cond t r (stored_at o a r)

      unstored : (t : Bool) → r ≡ cond t r (stored_at None a r)
      unstored true = refl
      unstored false = refl

      abbrev need_by : Option State → Need
      need_by o = (cond (not (is_end (owed_by (on_block c) (state_in o)))) (moved_by (on_block c) (state_in o) w a) (refused InvalidState w)).need

      owes : (x : Need) (s : State) → c.held w ≡ Some s → c.need s ≡ x → kept x a r ≡ stored_if (kept_place x) (refuses (cond (not (is_end x)) (c.need (c.move s a)) (End (failed InvalidState))))
      owes (Read g) s h e = unstored (refuses (c.need (c.move s a)))
      owes (Write g v) s h e = unstored (refuses (c.need (c.move s a)))
      owes Clock s h e = unstored (refuses (c.need (c.move s a)))
      owes (Send p) s h e = unstored (refuses (c.need (c.move s a)))
      owes (Keep p) s h e = rw (ne_eqb _ _ (goes_on w s p a h e)) refl
      owes Drop s h e = unstored (refuses (c.need (c.move s a)))
      owes (End x) s h e = refl

      stored : (n : Need) → n ≡ (step_on (on_block c) w a).need → kept (owed_in (on_block c) w) a r ≡ stored_if place (refuses n)
      unfolding step_on
      stored n q = go (c.held w) refl ∙ ap (λ (m : Need). stored_if place (refuses m)) (sym q)
        where
          turned : (t : Bool) (s : State) → (cond (not t) (standing (on_block c) (c.move s a)) (refused InvalidState w)).need ≡ cond (not t) (c.need (c.move s a)) (End (failed InvalidState))
          turned true s = refl
          turned false s = refl

          go : (o : Option State) → c.held w ≡ o → kept (owed_by (on_block c) (state_in o)) a r ≡ stored_if place (refuses (need_by (c.held w)))
          go None h = ap (λ (x : Option State). stored_if place (refuses (need_by x))) (sym h)
          go (Some s) h =
              owes (c.need s) s h refl
              ∙ ap (λ (x : Option ℕ). stored_if x (refuses (cond (not (is_end (c.need s))) (c.need (c.move s a)) (End (failed InvalidState))))) (sym (told s h))
              ∙ ap (λ (m : Need). stored_if place (refuses m)) (sym (turned (is_end (c.need s)) s))
              ∙ ap (λ (x : Option State). stored_if place (refuses (need_by x))) (sym h)

      pub reading_leaves : (r' : List ℕ) (n : Need) → Does (step_on (on_block c) w a) n after → k ≡ next_number (filled bytes n) → HoldsWords (filled bytes n) → (t : Bool) → t ≡ refuses n → r' ≡ cond t r (stored_at place a r)
          → Leaves (step_left (in_block c) bytes b r a) k after r'
      reading_leaves r' n d q h t z e =
          let l = step_leaves n d q h in
          record {
            number = l.number;
            words = l.words;
            block = l.block;
            read = e ∙ ap (λ (u : Bool). cond u r (stored_at place a r)) z ∙ sym (stored n d.need) ∙ ap (λ (m : Need). kept m a r) (ap (owed_in (on_block c)) same ∙ owes_whole);
          }
