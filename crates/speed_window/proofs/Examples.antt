-- Instances: the edges, by one computation; a pair that is right, and that no frequency sets.
-- Assumes nothing.
use mathlib.Core.Path.{◌≡◌, refl, subst}
use mathlib.Core.Bool.{Bool, true, false}
use mathlib.Core.List.{List, [], ◌∷◌, map}
use native.Mathlib.Omega.{arith}
use lib.Dec.{lit<, lit≤}
use Rattle.std.specs.Prelude.{Option}
use Rattle.registers.specs.declared.chip.Chip.{Chip}
use Rattle.timing.specs.declared.settings.Duty.TheVariants.{Duty2_1}
use Rattle.timing.specs.Rust.{timing}
use Rattle.speed_window.specs.declared.pair.Pair.{Pair}
use Rattle.speed_window.specs.Pairs.{standard, Right, Finds}
use Rattle.speed_window.specs.Formula.{fastest_of, window}
use Rattle.speed_window.specs.Setting.{AreOf, are_of, unset, NoFrequencySets}
use Rattle.speed_window.specs.Edges.{Row, edges, AllFound}
use Rattle.speed_window.proofs.WindowLaws.{window_finds}
use Rattle.speed_window.proofs.PairsAreSet.{pairs_are_set}

abbrev computed : Row → Option Pair
computed r = window r.input r.lowest r.highest

edges_computed : map computed edges ≡ map (λ r. r.answer) edges
unfolding window fastest_of
edges_computed = refl

-- rows whose answers are computed
all_found : (rows : List Row) → map computed rows ≡ map (λ r. r.answer) rows → AllFound rows
all_found [] e = tt
all_found (r ∷ rows) e =
    (subst (Finds r.input (Right r.input r.lowest r.highest)) (first e) (window_finds r.input r.lowest r.highest), all_found rows (rest e))
  where
    first : {x y : Option Pair} {xs ys : List (Option Pair)} → x ∷ xs ≡ y ∷ ys → x ≡ y
    first e = cc

    rest : {x y : Option Pair} {xs ys : List (Option Pair)} → x ∷ xs ≡ y ∷ ys → xs ≡ ys
    rest e = cc

pub edges_found : AllFound edges
edges_found = all_found edges edges_computed

unset_right : Right 8_000_000 1000 1001 unset
unset_right = record { not_slower = lit≤ tt; not_faster = lit≤ tt; allowed = standard refl (lit≤ tt) (lit≤ tt) (lit≤ tt) }

-- at 1,001 Hz the divider is 3997, whatever the duty
pub no_frequency_sets : NoFrequencySets
unfolding timing
no_frequency_sets = (unset_right, λ chip frequency duty h. never chip (pairs_are_set.if_any chip 8_000_000 1000 1001 unset unset_right frequency duty h (lit< tt)))
  where
    by_chip : (v3 v4 : Bool) → AreOf unset (timing (record { i2c_v3 = v3; ch32v4 = v4 }) 8_000_000 1001 Duty2_1) → ⊥
    by_chip v3 true (are_of a b c) = omega arith
    by_chip v3 false (are_of a b c) = omega arith

    never : (chip : Chip) → AreOf unset (timing chip 8_000_000 1001 Duty2_1) → ⊥
    never chip h = by_chip chip.i2c_v3 chip.ch32v4 h
