-- The bytes of operations, one operation after the other.
-- Assumes nothing.
use mathlib.Core.Path.{◌≡◌, refl, sym, ap, ◌∙◌}
use mathlib.Core.Bool.{Bool, true, false, cond}
use mathlib.Core.List.{List, [], ◌∷◌, ◌++◌, append_assoc}
use Prim.Native.Nat.{ℕ, zero, suc, ◌+◌, ◌*◌, ◌<◌, ◌≤◌}
use native.Mathlib.Nat.{not-suc-le-zero, le_of_suc-le-suc}
use native.Mathlib.Numerals.{add-one, add-two, add-three}
use native.Mathlib.Omega.{arith}
use borrow.Author.Tests.{ltb-true, ltb-false}
use lib.Dec.{ltb}
use lib.ListN.{length, get_or, take, set, length-take}
use Rattle.operations.specs.declared.operation.Direction.{Direction}
use Rattle.operations.specs.declared.operation.Direction.TheVariants.{Write, Read}
use Rattle.operations.specs.declared.operation.Operation.{Operation}
use Rattle.operations.specs.Operations.{shaped}
use Rattle.operation_bytes.specs.Encoded.{number_of, bytes_of, encoded, count_of, first257}

-- three bytes that are set one after the other are the last three of what is taken past them
lays : (l : List ℕ) (n a b c : ℕ) → suc (suc n) < length l → take (suc (suc (suc n))) (set (set (set l n a) (suc n) b) (suc (suc n)) c) ≡ take n l ++ (a ∷ b ∷ c ∷ [])
lays [] n a b c h = absurd (not-suc-le-zero h)
lays (x ∷ []) zero a b c h = absurd (not-suc-le-zero (le_of_suc-le-suc h))
lays (x ∷ y ∷ []) zero a b c h = absurd (not-suc-le-zero (le_of_suc-le-suc (le_of_suc-le-suc h)))
lays (x ∷ y ∷ z ∷ l) zero a b c h = refl
lays (x ∷ l) (suc n) a b c h = ap {B = List ℕ} (λ r. x ∷ r) (lays l n a b c (le_of_suc-le-suc h))

pub laid : (l : List ℕ) (n a b c : ℕ) → n + 2 < length l → take (n + 3) (set (set (set l n a) (n + 1) b) (n + 2) c) ≡ take n l ++ (a ∷ b ∷ c ∷ [])
laid l n a b c h = rw (add-three, add-one, add-two) (lays l n a b c (rw add-two at h))

-- the bytes of one operation more
one_more : (os : List Operation) (i : ℕ) (d : Operation) → i < length os → encoded (take (suc i) os) ≡ encoded (take i os) ++ bytes_of (get_or os i d)
unfolding encoded
one_more [] i d h = absurd (not-suc-le-zero h)
one_more (o ∷ os) zero d h = refl
one_more (o ∷ os) (suc i) d h = ap (λ (r : List ℕ). bytes_of o ++ r) (one_more os i d (le_of_suc-le-suc h)) ∙ sym (append_assoc (bytes_of o) (encoded (take i os)) (bytes_of (get_or os i d)))

pub none_encoded : encoded [] ≡ []
unfolding encoded
none_encoded = refl

pub more_encoded : (os : List Operation) (i : ℕ) (d : Operation) {list : List ℕ} → i < length os → list ≡ encoded (take i os) → list ++ bytes_of (get_or os i d) ≡ encoded (take (i + 1) os)
more_encoded os i d h e = ap (λ (l : List ℕ). l ++ bytes_of (get_or os i d)) e ∙ sym (one_more os i d h) ∙ ap (λ (n : ℕ). encoded (take n os)) (sym (add-one i))

-- how many are encoded
pub at_most : (n : ℕ) → (count_of n ≤ n) × (count_of n ≤ 257)
at_most n = go (ltb 257 n) refl
  where
    go : (t : Bool) → ltb 257 n ≡ t → (cond t 257 n ≤ n) × (cond t 257 n ≤ 257)
    go true e = let h : 257 < n = ltb-true 257 n e in (omega (arith, h), omega arith)
    go false e = let h : n ≤ 257 = ltb-false 257 n e in (omega arith, h)

-- ---- what the bytes of operations are

-- a direction is 0 or 1
known : (d : Direction) (t : Bool) → cond (ltb 1 (number_of d)) false t ≡ t
known Write t = refl
known Read t = refl

pub encoded_shaped : (os : List Operation) → shaped (encoded os) ≡ true
unfolding shaped encoded
encoded_shaped [] = refl
encoded_shaped (o ∷ os) = known o.direction (shaped (encoded os)) ∙ encoded_shaped os

pub encoded_length : (os : List Operation) → length (encoded os) ≡ 3 * length os
unfolding encoded
encoded_length [] = refl
encoded_length (o ∷ os) = let e : length (encoded os) ≡ 3 * length os = encoded_length os in omega (arith, e)

-- there is room for one more of 257
pub has_room : (os : List Operation) (i : ℕ) (list : List ℕ) → list ≡ encoded (take i (first257 os)) → i < length (first257 os) → length list + 3 ≤ 771
unfolding first257
has_room os i list e h =
    let size : length list ≡ 3 * length (take i (first257 os)) = ap length e ∙ encoded_length (take i (first257 os)) in
    omega (arith, size, h, at_most (length os), length-take {A = Operation})
