-- Ends that are no refusals: 0, with a second number or without, or an error that was met.
-- Assumes nothing.
use Rattle.std.specs.Prelude.{Ok, Err}
use mathlib.Core.Path.{◌≡◌, refl}
use mathlib.Core.Bool.{Bool, true, false, ◌&&◌, ◌||◌}
use mathlib.Core.List.{List, [], ◌∷◌}
use mathlib.Core.Option.{some}
use Prim.Native.Nat.{ℕ}
use lib.Dec.{eqb}
use Rattle.registers.specs.declared.chip.Chip.{Chip}
use Rattle.access.specs.declared.need.Need.{Need}
use Rattle.access.specs.declared.need.Need.TheVariants as need
use Rattle.access.specs.Endings.{Ending, is_done}
use Rattle.errors.specs.Met.{is_met, has_failed}
use Rattle.access.proofs.Choice.{first_true, second_true}
use Rattle.access.specs.Record.{Shown}
use Rattle.access.specs.Machine.{Machine, seen_owed, seen_answered, shown_from}
use Rattle.ch32_i2c.specs.Demands.{transfer_ends, IsMet}

pub only_first : (b : Bool) → b || false ≡ true → b ≡ true
only_first true q = refl
only_first false q = q

-- over the ends that a call can have
abbrev pub MetNeed : (Ending → Bool) → Need → Type 0
MetNeed can (need.Read r) = Unit {0}
MetNeed can (need.Write r v) = Unit {0}
MetNeed can need.Clock = Unit {0}
MetNeed can (need.Send p) = Unit {0}
MetNeed can (need.Keep p) = Unit {0}
MetNeed can need.Drop = Unit {0}
MetNeed can (need.End e) = IsMet can (some e)

pub met_or_done : (chip : Chip) (e : Ending) (b : Bool) → has_failed chip true e || (is_done e && b) ≡ true → MetNeed (transfer_ends chip) (need.End e)
met_or_done chip (Ok o) b q = second_true (eqb o.value 0) (eqb o.second 0) (first_true (eqb o.value 0 && eqb o.second 0) b q)
met_or_done chip (Err f) b q = only_first (is_met chip true f) q

-- every state that fits owes no other end: then no other is shown
module _ (can : Ending → Bool) (m : Machine) (bytes : List ℕ) (Good : m.State → Type 0) (stays : (s : m.State) (a : ℕ) → Good s → Good (m.move s a)) (met : (s : m.State) → Good s → MetNeed can (m.need s)) where
  owed_met : (n : Need) → MetNeed can n → IsMet can (seen_owed bytes n).end
  owed_met (need.Read r) p = tt
  owed_met (need.Write r v) p = tt
  owed_met need.Clock p = tt
  owed_met (need.Send x) p = tt
  owed_met (need.Keep x) p = tt
  owed_met need.Drop p = tt
  owed_met (need.End e) p = p

  answered_met : (n : Need) (a : ℕ) (rest : Shown) → MetNeed can n → IsMet can rest.end → IsMet can (seen_answered bytes n a rest).end
  answered_met (need.Read r) a rest p q = q
  answered_met (need.Write r v) a rest p q = q
  answered_met need.Clock a rest p q = q
  answered_met (need.Send x) a rest p q = q
  answered_met (need.Keep x) a rest p q = q
  answered_met need.Drop a rest p q = q
  answered_met (need.End e) a rest p q = p

  pub shown_met : (s : m.State) → Good s → (answers : List ℕ) → IsMet can (shown_from m bytes s answers).end
  shown_met s g [] = owed_met (m.need s) (met s g)
  shown_met s g (a ∷ answers) = answered_met (m.need s) a (shown_from m bytes (m.move s a) answers) (met s g) (shown_met (m.move s a) (stays s a g) answers)
