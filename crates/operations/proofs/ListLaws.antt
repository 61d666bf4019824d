-- The operations of what is left of a list, by what stands at a place.
-- Assumes nothing.
use Prim.Native.Nat.{ℕ, suc, ◌+◌, ◌-◌, ◌≤◌, ◌<◌}
use mathlib.Core.Path.{◌≡◌, refl, sym, ◌∙◌}
use mathlib.Core.Bool.{Bool, true, false, cond}
use mathlib.Core.List.{List, [], ◌∷◌}
use mathlib.Core.Option.{Option, none, some}
use native.Mathlib.Numerals.{add-one, add-two, add-three}
use native.Mathlib.Omega.{arith}
use borrow.Author.Tests.{ltb-false}
use lib.Dec.{ltb}
use lib.ListN.{length, get_or, drop, length-drop}
use lib.Seq.{drop-cons}
use Rattle.access.specs.declared.ending.Error.{Error}
use Rattle.access.specs.declared.ending.Error.TheVariants.{Overrun, BufferTooLong, InvalidArgument}
use Rattle.operations.specs.declared.operation.Operation.{Operation}
use Rattle.operations.specs.Operations.{empty_read, word_of, operation_of, operation_at, operations_of, shaped}
use Rattle.operations.specs.Search.{fault_from}

-- three bytes from a place on
three : (l : List ℕ) (at : ℕ) → at + 3 ≤ length l → drop at l ≡ get_or l at 0 ∷ get_or l (at + 1) 0 ∷ get_or l (at + 2) 0 ∷ drop (at + 3) l
three l at h =
    let h0 : at < length l = omega arith in
    let h1 : suc at < length l = omega arith in
    let h2 : suc (suc at) < length l = omega arith in
    rw (add-one, add-two, add-three, drop-cons l at 0 h0, drop-cons l (suc at) 0 h1, drop-cons l (suc (suc at)) 0 h2)

-- fewer than three bytes
short_operations : (l : List ℕ) → length l < 3 → operations_of l ≡ []
unfolding operations_of
short_operations [] h = refl
short_operations (a ∷ []) h = refl
short_operations (a ∷ b ∷ []) h = refl
short_operations (a ∷ b ∷ c ∷ l) h = absurd (omega arith)

module _ (l : List ℕ) (at : ℕ) where
  pub no_operation : length l - at < 3 → operations_of (drop at l) ≡ []
  no_operation h = short_operations (drop at l) (omega (arith, length-drop at l))

  pub operation_first : at + 3 ≤ length l → operations_of (drop at l) ≡ operation_at l at ∷ operations_of (drop (at + 3) l)
  unfolding operations_of
  operation_first h = rw (three l at h)

  -- the fault by the first operation
  module _ (h : at + 3 ≤ length l) (t d : ℕ) (o : Operation) (ed : get_or l at 0 ≡ d) (eo : o ≡ operation_at l at) where
    abbrev after : Bool → Bool → Bool → Option Error
    after large empty long =
        cond large (some InvalidArgument) (cond empty (some Overrun) (cond long (some BufferTooLong) (fault_from (t + o.length) (drop (at + 3) l))))

    fault_first : fault_from t (drop at l) ≡ after (ltb 1 d) (empty_read o) (ltb 65535 (t + o.length))
    unfolding fault_from
    fault_first = rw (three l at h, eo, ← ed)

    -- where there is no fault, the direction is 0 or 1
    pub direction_small : fault_from t (drop at l) ≡ none → d ≤ 1
    direction_small z = go (ltb 1 d) refl (sym fault_first ∙ z)
      where
        go : (b : Bool) → ltb 1 d ≡ b → after b (empty_read o) (ltb 65535 (t + o.length)) ≡ none → d ≤ 1
        go true e q = let z : ◌≡◌ {A = ℕ} 0 1 = cc in absurd (omega arith)
        go false e q = ltb-false 1 d e

-- a list without a fault has the form of a list
pub fault_free_shaped : (l : List ℕ) (t : ℕ) → fault_from t l ≡ none → shaped l ≡ true
unfolding fault_from shaped
fault_free_shaped [] t e = refl
fault_free_shaped (d ∷ []) t e = let z : ◌≡◌ {A = ℕ} 0 1 = cc in absurd (omega arith)
fault_free_shaped (d ∷ a ∷ []) t e = let z : ◌≡◌ {A = ℕ} 0 1 = cc in absurd (omega arith)
fault_free_shaped (d ∷ a ∷ b ∷ l) t e = go (ltb 1 d) (empty_read (operation_of d a b)) (ltb 65535 (t + word_of a b)) e (fault_free_shaped l (t + word_of a b))
  where
    go : (large empty long : Bool) → cond large (some InvalidArgument) (cond empty (some Overrun) (cond long (some BufferTooLong) (fault_from (t + word_of a b) l))) ≡ none
        → (fault_from (t + word_of a b) l ≡ none → shaped l ≡ true) → cond large false (shaped l) ≡ true
    go true y z e rest = let z : ◌≡◌ {A = ℕ} 0 1 = cc in absurd (omega arith)
    go false true z e rest = let z : ◌≡◌ {A = ℕ} 0 1 = cc in absurd (omega arith)
    go false false true e rest = let z : ◌≡◌ {A = ℕ} 0 1 = cc in absurd (omega arith)
    go false false false e rest = rest e
