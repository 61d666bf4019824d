-- The fastest pair of one factor is the formula's.
-- Assumes nothing.
use Prim.Native.Nat.{ℕ, ◌*◌, ◌≤◌, max, min}
use mathlib.Core.Path.{◌≡◌, refl, sym, subst, ◌∙◌}
use mathlib.Core.Bool.{Bool, true, false, cond, ◌&&◌, true≢false}
use native.Mathlib.Nat.{le_trans, le_antisymm, mul-le-mul_left, mul-le-mul_right}
use native.Mathlib.Decide.{dec_le}
use native.Mathlib.Omega.{arith}
use lib.Dec.{eqb, leb}
use borrow.Author.Tests.{leb-true, eqb-true, le-leb}
use Rattle.std.specs.Prelude.{Some, None}
use Rattle.access.proofs.Choice.{chosen, both_true, first_true, second_true}
use Rattle.timing.specs.Document.{Least, Enough}
use Rattle.timing.specs.Rust.{div_ceil}
use Rattle.timing.proofs.LeastLaws.{formula}
use Rattle.speed_window.specs.declared.pair.Pair.{Pair}
use Rattle.speed_window.specs.Pairs.{Right, Preferred, faster, smaller_divider, Finds, found, nothing}
use Rattle.speed_window.specs.Formula.{pair, within, is_right, fastest_of}
use Rattle.speed_window.proofs.PairLaws.{with_factor}
use Rattle.speed_window.proofs.LimitLaws.{is_kind, fewer_kind, HasLimits}
use Rattle.speed_window.proofs.FormulaLaws.{step_pos}

-- the right pairs of a factor
abbrev pub RightOf : ℕ → ℕ → ℕ → ℕ → Pair → Type 0
RightOf input lowest highest factor p = Right input lowest highest p × (p.factor ≡ factor)

module _ (factor floor top : ℕ) (h : HasLimits factor floor top) (input lowest highest : ℕ) where
  abbrev step : ℕ
  step = factor * within highest top

  -- slow enough for both limits: it reaches the input clock by steps
  reaching : (d : ℕ) → input ≤ highest * (factor * d) → input ≤ top * (factor * d) → input ≤ d * step
  reaching d a b = go (eqb highest 0) refl (dec_le highest top)
    where
      go : (z : Bool) → eqb highest 0 ≡ z → Dec (highest ≤ top) → input ≤ d * (factor * cond z 1 (min highest top))
      go true e o = let i : input ≤ 0 * (factor * d) = rw (eqb-true highest 0 e) at a in omega arith
      go false e (yes l) = let m : min highest top ≡ highest = omega arith in rw m (omega arith)
      go false e (no l) = let m : min highest top ≡ top = omega arith in rw m (omega arith)

  -- and back
  reached_top : (d : ℕ) → input ≤ d * step → input ≤ top * (factor * d)
  reached_top d r = go (eqb highest 0) r
    where
      go : (z : Bool) → input ≤ d * (factor * cond z 1 (min highest top)) → input ≤ top * (factor * d)
      go true r = let t : 1 * (factor * d) ≤ top * (factor * d) = mul-le-mul_right (factor * d) h.top_pos in omega arith
      go false r = let t : min highest top * (factor * d) ≤ top * (factor * d) = mul-le-mul_right (factor * d) (omega arith) in omega arith

  reached_highest : (d : ℕ) → input ≤ d * step → (highest ≡ 0 → input ≡ 0) → input ≤ highest * (factor * d)
  reached_highest d r z = go (eqb highest 0) refl r
    where
      go : (b : Bool) → eqb highest 0 ≡ b → input ≤ d * (factor * cond b 1 (min highest top)) → input ≤ highest * (factor * d)
      go true e r = let i : input ≡ 0 = z (eqb-true highest 0 e) in omega arith
      go false e r = let t : min highest top * (factor * d) ≤ highest * (factor * d) = mul-le-mul_right (factor * d) (omega arith) in omega arith

  -- a right divider reaches the input clock
  right_enough : (d : ℕ) → Right input lowest highest (pair factor d) → Enough input step floor d
  right_enough d r = let l = h.told input d r.allowed in record { reaches = reaching d r.not_faster l.slow; allowed = l.low }

  abbrev right : ℕ → Bool
  right d = is_right input lowest highest (pair factor d)

  module _ (c : ℕ) where
    abbrev slow : Bool
    slow = leb (lowest * (factor * c)) input

    abbrev quick : Bool
    quick = leb input (highest * (factor * c))

    abbrev kind : Bool
    kind = is_kind factor input (factor * c)

    -- a divider that does is right if it passes the tests
    passed_right : Enough input step floor c → right c ≡ true → Right input lowest highest (pair factor c)
    passed_right e t =
        record {
          not_slower = leb-true _ _ (first_true slow quick inside);
          not_faster = leb-true _ _ (second_true slow quick inside);
          allowed = h.met input c (record { low = e.allowed; high = leb-true _ _ (second_true ((slow && quick) && kind) (leb c 4095) t); slow = reached_top c e.reaches; kind = second_true (slow && quick) kind three });
        }
      where
        three : (slow && quick) && kind ≡ true
        three = first_true ((slow && quick) && kind) (leb c 4095) t

        inside : slow && quick ≡ true
        inside = first_true (slow && quick) kind three

  module _ (c : ℕ) (l : Least (Enough input step floor) c) where
    -- and it passes if any is right: the least is the fastest
    right_passed : (d : ℕ) → Right input lowest highest (pair factor d) → right c ≡ true
    right_passed d r =
        both_true
        (both_true (both_true (le-leb _ _ (le_trans (mul-le-mul_left lowest fewer) r.not_slower)) (le-leb _ _ (reached_highest c l.holds.reaches none)))
        (fewer_kind factor input fewer (h.told input d r.allowed).kind))
        (le-leb _ _ (le_trans less (h.told input d r.allowed).high))
      where
        less : c ≤ d
        less = l.least d (right_enough d r)

        fewer : factor * c ≤ factor * d
        fewer = mul-le-mul_left factor less

        none : highest ≡ 0 → input ≡ 0
        none e = let i : input ≤ 0 * (factor * d) = rw e at r.not_faster in omega arith

  divided : (p : Pair) → RightOf input lowest highest factor p → Right input lowest highest (pair factor p.divider)
  divided p r = subst (Right input lowest highest) (with_factor p r.1) r.0

  -- the least divider makes the best of them, or there is none
  pub least_finds : (c : ℕ) → Least (Enough input step floor) c → Finds input (RightOf input lowest highest factor) (cond (right c) (Some (pair factor c)) None)
  least_finds c l =
      chosen (Finds input (RightOf input lowest highest factor)) (right c) (λ t. found (record { holds = (passed_right c l.holds t, refl); best = best }))
      (λ t. nothing (λ p r. absurd (true≢false (sym (right_passed c l p.divider (divided p r)) ∙ t))))
    where
      best : (q : Pair) → RightOf input lowest highest factor q → Preferred input (pair factor c) q
      best q r = subst (Preferred input (pair factor c)) (sym (with_factor q r.1)) (go (dec_le (input * (factor * q.divider)) (input * (factor * c))))
        where
          fewer : c ≤ q.divider
          fewer = l.least q.divider (right_enough q.divider (divided q r))

          go : Dec (input * (factor * q.divider) ≤ input * (factor * c)) → Preferred input (pair factor c) (pair factor q.divider)
          go (yes a) = smaller_divider (le_antisymm (mul-le-mul_left input (mul-le-mul_left factor fewer)) a) refl fewer
          go (no a) = faster (omega arith)

  pub fastest_finds : Finds input (RightOf input lowest highest factor) (fastest_of factor floor top input lowest highest)
  unfolding fastest_of
  fastest_finds = least_finds (max (div_ceil input step) floor) (formula input step floor (step_pos factor floor top input lowest highest h.factor_pos h.top_pos))
