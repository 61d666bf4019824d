-- A list as operations of three bytes and what is behind the last whole one.
-- Assumes nothing.
use Prim.Native.Nat.{ℕ, suc, ◌+◌, ◌/◌, ◌*◌, ◌≤◌, ◌<◌}
use mathlib.Core.Path.{◌≡◌, refl, sym, ap, ◌∙◌}
use mathlib.Core.Bool.{Bool, true, false, cond, not, ◌&&◌, true≢false}
use mathlib.Core.List.{List, [], ◌∷◌, map}
use mathlib.Core.Option.{Option, none, some}
use native.Mathlib.Omega.{arith}
use borrow.Author.Tests.{lt-ltb, le-ltb}
use lib.Dec.{eqb, leb, ltb, eqb-suc-zero}
use lib.ListN.{length, get_or, drop}
use Rattle.std.proofs.lemmas.Bool.Decides.{nat_tests}
use Rattle.std.specs.List.{list_all}
use Rattle.std.specs.Simd.{first_chunks}
use Rattle.access.specs.declared.ending.Error.{Error}
use Rattle.access.specs.declared.ending.Error.TheVariants.{Overrun, BufferTooLong, InvalidArgument}
use Rattle.operations.specs.declared.operation.Operation.{Operation}
use Rattle.operations.specs.Operations.{word_of, empty_read, operation_of, operation_at, operations_of, shaped}
use Rattle.operations.specs.Search.{fault_from}

abbrev pub chunks : List ℕ → List (List ℕ)
chunks l = first_chunks 3 (length l / 3) l

abbrev pub behind : List ℕ → List ℕ
behind l = drop (length l / 3 * 3) l

three_more : (n : ℕ) → suc (suc (suc n)) / 3 ≡ suc (n / 3)
three_more n = omega arith

small_direction : (d : ℕ) → leb d 1 ≡ not (ltb 1 d)
small_direction d = grind (arith, nat_tests)

pub shaped_checked : (l : List ℕ) → eqb (length (behind l)) 0 && list_all (λ o. leb (get_or o 0 0) 1) (chunks l) ≡ shaped l
unfolding shaped
shaped_checked [] = refl
shaped_checked (d ∷ []) = refl
shaped_checked (d ∷ a ∷ []) = refl
shaped_checked (d ∷ a ∷ b ∷ l) =
    let k : suc (suc (suc (length l))) / 3 * 3 ≡ suc (suc (suc (length l / 3 * 3))) = omega arith in
    rw (k, three_more (length l), small_direction d) (go (ltb 1 d) _ _ _ (shaped_checked l))
  where
    go : (t x y z : Bool) → x && y ≡ z → x && (not t && y) ≡ cond t false z
    go true true y z e = refl
    go true false y z e = refl
    go false x y z e = e

-- the operations
abbrev pub operation_in : List ℕ → Operation
operation_in c = operation_at c 0

pub operations_mapped : (l : List ℕ) → map operation_in (chunks l) ≡ operations_of l
unfolding operations_of
operations_mapped [] = refl
operations_mapped (d ∷ []) = refl
operations_mapped (d ∷ a ∷ []) = refl
operations_mapped (d ∷ a ∷ b ∷ l) = rw (three_more (length l)) (ap (λ (os : List Operation). operation_of d a b ∷ os) (operations_mapped l))

-- the fault, after a total of t bytes
abbrev part_fault : List ℕ → Option Error
part_fault [] = none
part_fault (x ∷ l) = some InvalidArgument

pub fault_in : ℕ → List (List ℕ) → List ℕ → Option Error
fault_in t [] end = part_fault end
fault_in t (c ∷ cs) end =
    cond (ltb 1 (get_or c 0 0)) (some InvalidArgument)
    (cond (empty_read (operation_in c)) (some Overrun)
    (cond (ltb 65535 (t + (operation_in c).length)) (some BufferTooLong) (fault_in (t + (operation_in c).length) cs end)))

pub fault_checked : (t : ℕ) (l : List ℕ) → fault_in t (chunks l) (behind l) ≡ fault_from t l
unfolding fault_from fault_in
fault_checked t [] = refl
fault_checked t (d ∷ []) = refl
fault_checked t (d ∷ a ∷ []) = refl
fault_checked t (d ∷ a ∷ b ∷ l) =
    let k : suc (suc (suc (length l))) / 3 * 3 ≡ suc (suc (suc (length l / 3 * 3))) = omega arith in
    rw (k, three_more (length l), fault_checked (t + word_of a b) l)

module _ (t : ℕ) (end : List ℕ) where
  pub part_behind : eqb (length end) 0 ≡ false → fault_in t [] end ≡ some InvalidArgument
  unfolding fault_in
  part_behind = go end
    where
      go : (l : List ℕ) → eqb (length l) 0 ≡ false → part_fault l ≡ some InvalidArgument
      go [] n = absurd (true≢false n)
      go (x ∷ l) n = refl

  pub none_behind : eqb (length end) 0 ≡ true → fault_in t [] end ≡ none
  unfolding fault_in
  none_behind = go end
    where
      go : (l : List ℕ) → eqb (length l) 0 ≡ true → part_fault l ≡ none
      go [] n = refl
      go (x ∷ l) n = absurd (true≢false (sym n ∙ eqb-suc-zero (length l)))

  -- by the first operation
  module _ (c : List ℕ) (cs : List (List ℕ)) where
    pub fault_direction : 1 < get_or c 0 0 → fault_in t (c ∷ cs) end ≡ some InvalidArgument
    unfolding fault_in
    fault_direction p = rw (lt-ltb 1 (get_or c 0 0) p)

    module _ (small : get_or c 0 0 ≤ 1) (o : Operation) (eo : o ≡ operation_in c) where
      fault_first : fault_in t (c ∷ cs) end ≡ cond (empty_read o) (some Overrun) (cond (ltb 65535 (t + o.length)) (some BufferTooLong) (fault_in (t + o.length) cs end))
      unfolding fault_in
      fault_first = rw (eo, le-ltb 1 (get_or c 0 0) small)

      pub fault_empty : empty_read o ≡ true → fault_in t (c ∷ cs) end ≡ some Overrun
      fault_empty q = fault_first ∙ rw q

      pub fault_total : empty_read o ≡ false → 65535 < t + o.length → fault_in t (c ∷ cs) end ≡ some BufferTooLong
      fault_total q r = fault_first ∙ rw (q, lt-ltb 65535 (t + o.length) r)

      pub fault_next : empty_read o ≡ false → t + o.length ≤ 65535 → fault_in t (c ∷ cs) end ≡ fault_in (t + o.length) cs end
      fault_next q r = fault_first ∙ rw (q, le-ltb 65535 (t + o.length) r)
