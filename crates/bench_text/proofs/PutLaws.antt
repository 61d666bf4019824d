-- Texts put one behind the other.
-- Assumes nothing.
use Prim.Native.Nat.{ℕ, suc, ◌+◌, ◌-◌, ◌≤◌, ◌<◌}
use mathlib.Core.Path.{◌≡◌, refl, sym, ap, ◌∙◌}
use borrow.Rule.Slice.PartMut.{put_mid}
use Rattle.std.proofs.lemmas.List.Edits.{sets-eq}
use mathlib.Core.List.{List, [], ◌∷◌, ◌++◌, append_assoc, map}
use native.Mathlib.Nat.{add-zero}
use native.Mathlib.Numerals.{add-one}
use native.Mathlib.Omega.{arith}
use lib.ListN.{length, get_or, take, drop, set, length-append, drop_of_length-le}
use lib.Seq.{sets, length-sets, drop-cons, drop-drop}
use Rattle.bench_text.specs.Digits.{pair_text, hex_text}
use Rattle.bench_text.specs.Puts.{Puts}

pub sets_append : (l : List ℕ) (i : ℕ) (xs ys : List ℕ) → sets (sets l i xs) (i + length xs) ys ≡ sets l i (xs ++ ys)
sets_append l i [] ys = ap (λ (k : ℕ). sets l k ys) (add-zero i)
sets_append l i (a ∷ xs) ys =
    let e : i + suc (length xs) ≡ suc i + length xs = omega arith in
    ap (λ (k : ℕ). sets (sets (set l i a) (suc i) xs) k ys) e ∙ sets_append (set l i a) (suc i) xs ys

-- two texts, and three
pub both : {o o' o'' : List ℕ} {at m r : ℕ} {xs ys : List ℕ} → Puts o at xs m o' → Puts o' m ys r o'' → Puts o at (xs ++ ys) r o''
both {o} {o'} {o''} {at} {m} {r} {xs} {ys} p q = record {
  place = omega (arith, length-append xs ys, p.place, q.place);
  holds = q.holds ∙ ap (λ (b : List ℕ). sets b m ys) p.holds ∙ ap (λ (k : ℕ). sets (sets o at xs) k ys) p.place ∙ sets_append o at xs ys;
}

-- a buffer stays as long as it is
pub same_length : {o o' xs : List ℕ} {at r : ℕ} → Puts o at xs r o' → length o' ≡ length o
same_length {o} {o'} {xs} {at} p = ap length p.holds ∙ length-sets o at xs

-- what is still to be put leads to the whole
pub record Leads (out : List ℕ) (at : ℕ) (rest : List ℕ) (out₀ : List ℕ) (at₀ : ℕ) (all : List ℕ) : Type 0 where
  pub place : at + length rest ≡ at₀ + length all
  pub holds : sets out at rest ≡ sets out₀ at₀ all

pub leads_from : (out : List ℕ) (at : ℕ) (all : List ℕ) → Leads out at all out at all
leads_from out at all = record { place = refl; holds = refl }

module _ {out : List ℕ} {at : ℕ} {out₀ : List ℕ} {at₀ : ℕ} {all : List ℕ} where
  -- a text is put
  pub leads_put : {out' : List ℕ} {m : ℕ} (xs rest : List ℕ) → Leads out at (xs ++ rest) out₀ at₀ all → Puts out at xs m out' → Leads out' m rest out₀ at₀ all
  leads_put {out'} {m} xs rest g p = record {
    place = omega (arith, length-append xs rest, g.place, p.place);
    holds = ap (λ (b : List ℕ). sets b m rest) p.holds ∙ ap (λ (k : ℕ). sets (sets out at xs) k rest) p.place ∙ sets_append out at xs rest ∙ g.holds;
  }

  -- nothing is left
  pub leads_end : Leads out at [] out₀ at₀ all → Puts out₀ at₀ all at out
  leads_end g = record { place = omega (arith, g.place); holds = g.holds }

  pub leads_same : {rest rest' : List ℕ} → rest ≡ rest' → Leads out at rest out₀ at₀ all → Leads out at rest' out₀ at₀ all
  leads_same e g = rw (← e) g

-- a text is copied
pub copied : (out new bytes : List ℕ) (at : ℕ) → at + length bytes ≤ length out → new ≡ bytes → Puts out at bytes (at + length bytes) (put_mid at (at + length bytes - at) out new)
copied out new bytes at h e =
    let k : at + length bytes - at ≡ length bytes = omega arith in
    record { place = refl; holds = rw (e, k, drop-drop (length bytes) at out) (sym (append_assoc (take at out) bytes (drop (at + length bytes) out)) ∙ sym (sets-eq bytes out at h)) }

-- the values of items, one by one
pub each_all : {A : Type 0} (value : A → ℕ) (items : List A) {out out₀ all : List ℕ} (to i : ℕ) → length items ≤ i → Leads out (to + i) (map value (drop i items)) out₀ to all → (i ≡ length all) × (out ≡ sets out₀ to all)
each_all value items to i h g =
    let p = leads_end (leads_same (rw (drop_of_length-le items h)) g) in
    (omega (arith, p.place), p.holds)

-- bytes are put as hex pairs
module _ {out out₀ all : List ℕ} {place at₀ : ℕ} (bytes : List ℕ) (i : ℕ) where
  pub hex_more : {out' : List ℕ} {m : ℕ} → i < length bytes → Leads out place (hex_text (drop i bytes)) out₀ at₀ all → Puts out place (pair_text (get_or bytes i 0)) m out'
      → Leads out' m (hex_text (drop (i + 1) bytes)) out₀ at₀ all
  unfolding hex_text
  hex_more h g p = rw (add-one i) (leads_put (pair_text (get_or bytes i 0)) (hex_text (drop (suc i) bytes)) (leads_same (rw (drop-cons bytes i 0 h)) g) p)

  pub hex_all : length bytes ≤ i → Leads out place (hex_text (drop i bytes)) out₀ at₀ all → Puts out₀ at₀ all place out
  unfolding hex_text
  hex_all h g = leads_end (leads_same (rw (drop_of_length-le bytes h)) g)
