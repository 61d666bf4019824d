-- A step of a group whose stages have phases: the number of the phase is one of the group's, and what else is asked holds.
-- Assumes nothing.
use Prim.Native.Nat.{ℕ}
use mathlib.Core.Path.{◌≡◌, sym, ap, subst, ◌∙◌}
use mathlib.Core.Bool.{Bool, true, false, cond, ◌&&◌, true≢false}
use mathlib.Core.List.{List}
use lib.Dec.{eqb}
use Rattle.std.specs.Prelude.{Some, None}
use Rattle.std.proofs.Math.Bool.{and-false}
use Rattle.access.specs.declared.need.Need.{Need}
use Rattle.access.proofs.Choice.{both_true}
use Rattle.slave.specs.declared.state.Move.{Move}
use Rattle.slave.specs.declared.state.Setting.{Setting}
use Rattle.stage_numbers.proofs.NumberedLaws.{told, untold}
use Rattle.slave_step.specs.Held.{Moves, Refuses, Steps}
use Rattle.slave_step.proofs.Laws.{refuses}

-- a move that goes by what a number tells
pub as_told : {A : Type 0} (m : A → Move) {x y : A} {g : Setting} {after : List ℕ} {asked : Need} → x ≡ y → Moves g (m y) after asked → Moves g (m x) after asked
as_told m {g = g} {after = after} {asked = asked} e = subst (λ v. Moves g (m v) after asked) (sym e)

module _ {A : Type 0} (number : A → ℕ) (of : ℕ → A) (n : ℕ) {t : Bool} (rest : Bool) (fits : t ≡ rest && eqb (number (of n)) n) {g : Setting} (m : A → Move) {before after : List ℕ} {asked : Need} where
  -- no phase has this number
  pub unknown : None ≡ cond (eqb (number (of n)) n) (Some (of n)) None → Refuses before after asked → Steps t g (m (of n)) before after asked
  unknown e = refuses (fits ∙ ap (λ (b : Bool). rest && b) (untold number of n e) ∙ and-false rest)

  pub unfit : rest ≡ false → Refuses before after asked → Steps t g (m (of n)) before after asked
  unfit e = refuses (fits ∙ ap (λ (b : Bool). b && eqb (number (of n)) n) e)

  pub taken : {x : A} → Some x ≡ cond (eqb (number (of n)) n) (Some (of n)) None → rest ≡ true → Moves g (m x) after asked → Steps t g (m (of n)) before after asked
  taken q e moves =
      let is-told = told number of n q in
      record {
        taken = λ _. as_told m is-told.kind moves;
        refused = λ f. absurd (true≢false (sym (both_true e is-told.own) ∙ sym fits ∙ f));
      }
