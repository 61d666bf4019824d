-- What is left of a list: whether its operations are good, and what that has to do with the list's fault.
-- Assumes nothing.
use Prim.Native.Nat.{ℕ, suc, ◌+◌, ◌-◌, ◌≤◌, ◌<◌}
use mathlib.Core.Path.{◌≡◌, refl, sym, ◌∙◌}
use mathlib.Core.Bool.{Bool, true, false, cond, true≢false}
use mathlib.Core.List.{List, [], ◌∷◌}
use mathlib.Core.Option.{none, some}
use native.Mathlib.Numerals.{add-one, add-two, add-three}
use native.Mathlib.Omega.{arith}
use borrow.Author.Tests.{lt-ltb, le-ltb, ltb-true, ltb-false}
use lib.Dec.{ltb}
use lib.ListN.{length, get_or, drop, drop_of_length-le, length-drop}
use lib.Seq.{drop-cons}
use Rattle.access.specs.declared.ending.Error.TheVariants.{Overrun, BufferTooLong, InvalidArgument}
use Rattle.operations.specs.Operations.{empty_read, word_of, operation_of, operation_at, operations_of}
use Rattle.operations.specs.Runs.{written_in, read_in, written_sum, read_sum}
use Rattle.operations.specs.Search.{fault_from}
use Rattle.operations.proofs.SumLaws.{span_of, each_span, both_sums}
use Rattle.list_run.specs.Passing.{fine}

-- three bytes from a place on
three : (l : List ℕ) (at : ℕ) → at + 3 ≤ length l → drop at l ≡ get_or l at 0 ∷ get_or l (at + 1) 0 ∷ get_or l (at + 2) 0 ∷ drop (at + 3) l
three l at h =
    let h0 : at < length l = omega arith in
    let h1 : suc at < length l = omega arith in
    let h2 : suc (suc at) < length l = omega arith in
    rw (add-one, add-two, add-three, drop-cons l at 0 h0, drop-cons l (suc at) 0 h1, drop-cons l (suc (suc at)) 0 h2)

short_fine : (l : List ℕ) → 0 < length l → length l < 3 → fine l ≡ false
unfolding fine
short_fine [] p h = absurd (omega arith)
short_fine (a ∷ []) p h = refl
short_fine (a ∷ b ∷ []) p h = refl
short_fine (a ∷ b ∷ c ∷ l) p h = absurd (omega arith)

module _ (l : List ℕ) (at : ℕ) where
  pub fine_end : length l ≤ at → fine (drop at l) ≡ true
  unfolding fine
  fine_end h = rw (drop_of_length-le l h)

  pub fine_part : at < length l → length l - at < 3 → fine (drop at l) ≡ false
  fine_part p h = short_fine (drop at l) (omega (arith, length-drop at l)) (omega (arith, length-drop at l))

  module _ (h : at + 3 ≤ length l) where
    fine_first : fine (drop at l) ≡ cond (ltb 1 (get_or l at 0)) false (cond (empty_read (operation_at l at)) false (fine (drop (at + 3) l)))
    unfolding fine
    fine_first = rw (three l at h)

    pub flaw_direction : 1 < get_or l at 0 → fine (drop at l) ≡ false
    flaw_direction p = fine_first ∙ rw (lt-ltb 1 (get_or l at 0) p)

    module _ (p : get_or l at 0 ≤ 1) where
      pub flaw_empty : empty_read (operation_at l at) ≡ true → fine (drop at l) ≡ false
      flaw_empty q = fine_first ∙ rw (le-ltb 1 (get_or l at 0) p, q)

      pub fine_next : empty_read (operation_at l at) ≡ false → fine (drop (at + 3) l) ≡ fine (drop at l)
      fine_next q = sym (fine_first ∙ rw (le-ltb 1 (get_or l at 0) p, q))

-- where what is left is good its direction is 0 or 1
pub fine_direction : (l : List ℕ) (at : ℕ) → at + 3 ≤ length l → fine (drop at l) ≡ true → get_or l at 0 ≤ 1
fine_direction l at h e = go (ltb 1 (get_or l at 0)) refl
  where
    go : (b : Bool) → ltb 1 (get_or l at 0) ≡ b → get_or l at 0 ≤ 1
    go true q = absurd (true≢false (sym e ∙ flaw_direction l at h (ltb-true 1 (get_or l at 0) q)))
    go false q = ltb-false 1 (get_or l at 0) q

-- a list without a fault is good
pub fault_free_fine : (l : List ℕ) (t : ℕ) → fault_from t l ≡ none → fine l ≡ true
unfolding fault_from fine
fault_free_fine [] t e = refl
fault_free_fine (d ∷ []) t e = let z : ◌≡◌ {A = ℕ} 0 1 = cc in absurd (omega arith)
fault_free_fine (d ∷ a ∷ []) t e = let z : ◌≡◌ {A = ℕ} 0 1 = cc in absurd (omega arith)
fault_free_fine (d ∷ a ∷ b ∷ l) t e = go (ltb 1 d) (empty_read (operation_of d a b)) (ltb 65535 (t + word_of a b)) e (fault_free_fine l (t + word_of a b))
  where
    go : (large empty long : Bool) → cond large (some InvalidArgument) (cond empty (some Overrun) (cond long (some BufferTooLong) (fault_from (t + word_of a b) l))) ≡ none
        → (fault_from (t + word_of a b) l ≡ none → fine l ≡ true) → cond large false (cond empty false (fine l)) ≡ true
    go true y z e rest = let z : ◌≡◌ {A = ℕ} 0 1 = cc in absurd (omega arith)
    go false true z e rest = let z : ◌≡◌ {A = ℕ} 0 1 = cc in absurd (omega arith)
    go false false true e rest = let z : ◌≡◌ {A = ℕ} 0 1 = cc in absurd (omega arith)
    go false false false e rest = rest e

-- a good list of few enough bytes has no fault
pub fine_fault_free : (l : List ℕ) (t : ℕ) → fine l ≡ true → t + (written_sum (each_span (operations_of l)) + read_sum (each_span (operations_of l))) ≤ 65535 → fault_from t l ≡ none
unfolding fault_from fine operations_of
fine_fault_free [] t e h = refl
fine_fault_free (d ∷ []) t e h = absurd (true≢false (sym e))
fine_fault_free (d ∷ a ∷ []) t e h = absurd (true≢false (sym e))
fine_fault_free (d ∷ a ∷ b ∷ l) t e h = go (ltb 1 d) (empty_read (operation_of d a b)) e (fine_fault_free l (t + word_of a b))
  where
    both : written_in (span_of (operation_of d a b)) + read_in (span_of (operation_of d a b)) ≡ word_of a b
    both = both_sums (operation_of d a b)

    go : (large empty : Bool) → cond large false (cond empty false (fine l)) ≡ true
        → (fine l ≡ true → t + word_of a b + (written_sum (each_span (operations_of l)) + read_sum (each_span (operations_of l))) ≤ 65535 → fault_from (t + word_of a b) l ≡ none)
        → cond large (some InvalidArgument) (cond empty (some Overrun) (cond (ltb 65535 (t + word_of a b)) (some BufferTooLong) (fault_from (t + word_of a b) l))) ≡ none
    go true y e rest = absurd (true≢false (sym e))
    go false true e rest = absurd (true≢false (sym e))
    go false false e rest = rw (le-ltb 65535 (t + word_of a b) (omega (arith, both, h))) (rest e (omega (arith, both, h)))
