-- Laws of the errors that a call can meet.
-- Assumes nothing.
use Prim.Native.Nat.{ℕ, ◌<◌, ◌≤◌}
use mathlib.Core.Path.{◌≡◌, refl, sym, ap, ap₂, ◌∙◌, subst}
use mathlib.Core.Bool.{Bool, true, false, cond, not, ◌&&◌, ◌||◌, true≢false, and-false}
use native.Mathlib.Omega.{arith}
use lib.Dec.{eqb}
use borrow.Author.Tests.{eqb-true, ne_eqb}
use Rattle.std.specs.Prelude.{Option, Some, None, Err}
use Rattle.registers.specs.declared.chip.Chip.{Chip}
use Rattle.registers.specs.Bits.{BERR, ARLO, AF, OVR, PECERR, TIMEOUT}
use Rattle.registers.specs.Word.{has_bit}
use Rattle.registers.specs.Flags.{error_flags}
use Rattle.registers.proofs.FlagLaws.{same_flags, flags_again}
use Rattle.access.specs.declared.ending.Error.{Error}
use Rattle.access.specs.declared.ending.Error.TheVariants.{Bus, Arbitration, Nack, Timeout, Crc, Overrun}
use Rattle.access.specs.declared.ending.Failure.{Failure}
use Rattle.access.specs.Endings.{error_number, flagged, failure_of, returned_both, ending_of}
use Rattle.access.specs.Endings as access
use Rattle.access.proofs.Choice.{first_true, second_true, both_true}
use Rattle.access.proofs.Compared.{itself, turned}
use Rattle.access.proofs.EndingLaws.{small_told, small_number}
use Rattle.errors.specs.Classes.{error_of, decided}
use Rattle.errors.specs.Met.{same_failure, unchecked, is_met, has_failed}
use Rattle.errors.proofs.ClassLaws.{chain, by_class, as_ifs, no_flags}

-- a check of a word's error flags finds what it finds in the word
found_again : (chip : Chip) (nack : Bool) (w : ℕ) → error_of chip nack (error_flags w) ≡ error_of chip nack w
found_again chip nack w =
    let s = same_flags w in
    sym (as_ifs chip nack (error_flags w)) ∙ rw (s.arlo, s.berr, s.timeout, s.pecerr, s.ovr, s.af, flags_again w) (as_ifs chip nack w)

-- what a check finds: the word's flags, and an error from 1 to 6
pub record Finds (w : ℕ) (f : Failure) : Type 0 where
  pub flags : f.flags ≡ error_flags w
  pub above : 0 < error_number f.error
  pub small : error_number f.error ≤ 6

pub finds : (chip : Chip) (nack : Bool) (w : ℕ) → decided (error_of chip nack w) (Finds w) (Unit {0})
finds chip nack w =
    subst (λ (T : Type 0). T) (by_class chip nack w (Finds w) (Unit {0}))
    (each (has_bit ARLO w) (chip.ch32v4 && has_bit BERR w) (chip.i2c_v3 && has_bit TIMEOUT w) (has_bit PECERR w) (has_bit OVR w) (nack && has_bit AF w))
  where
    one : (e : Error) → 0 < error_number e → error_number e ≤ 6 → Finds w (flagged e (error_flags w))
    one e a s = record { flags = refl; above = a; small = s }

    each : (a b t c o n : Bool) → chain a b t c o n (λ e. Finds w (flagged e (error_flags w))) (Unit {0})
    each true b t c o n = one Arbitration (omega arith) (omega arith)
    each false true t c o n = one Bus (omega arith) (omega arith)
    each false false true c o n = one Timeout (omega arith) (omega arith)
    each false false false true o n = one Crc (omega arith) (omega arith)
    each false false false false true n = one Overrun (omega arith) (omega arith)
    each false false false false false true = one Nack (omega arith) (omega arith)
    each false false false false false false = tt

-- an error that a check found can be met; so can a late clock and a lost START, and nothing else without flags
pub found_met : (chip : Chip) (nack : Bool) (w : ℕ) → decided (error_of chip nack w) (λ f. is_met chip nack f ≡ true) (Unit {0})
unfolding is_met
found_met chip nack w = go (error_of chip nack w) refl (finds chip nack w)
  where
    go : (c : Option Failure) → error_of chip nack w ≡ c → decided c (Finds w) (Unit {0})
        → decided c (λ f. decided (error_of chip nack f.flags) (λ found. same_failure found f) (eqb f.flags 0 && unchecked nack f.error) ≡ true) (Unit {0})
    go None e p = tt
    go (Some f) e p =
        let q : error_of chip nack f.flags ≡ Some f = ap (error_of chip nack) p.flags ∙ found_again chip nack w ∙ e in
        ap (λ (c : Option Failure). decided c (λ found. same_failure found f) (eqb f.flags 0 && unchecked nack f.error)) q
        ∙ both_true (itself (error_number f.error)) (itself f.flags)

pub unchecked_met : (chip : Chip) (nack : Bool) (e : Error) → is_met chip nack (failure_of e) ≡ unchecked nack e
unfolding is_met error_flags
unchecked_met chip nack e = ap (λ (c : Option Failure). decided c (λ found. same_failure found (failure_of e)) (unchecked nack e)) (no_flags chip nack 0 refl)

-- what can be met is one of 1 to 6
met_small : (chip : Chip) (nack : Bool) (f : Failure) → is_met chip nack f ≡ true → error_number f.error ≤ 6
unfolding is_met
met_small chip nack f = go (error_of chip nack f.flags) (finds chip nack f.flags)
  where
    either_small : (n : ℕ) (late lost : Bool) → eqb n 4 ≡ late → eqb n 2 ≡ lost → late || (nack && lost) ≡ true → n ≤ 6
    either_small n true lost p q e = let z = eqb-true n 4 p in omega (arith, z)
    either_small n false true p q e = let z = eqb-true n 2 q in omega (arith, z)
    either_small n false false p q e = absurd (never nack e)
      where
        never : (b : Bool) → b && false ≡ true → ⊥
        never true q = true≢false (sym q)
        never false q = true≢false (sym q)

    go : (c : Option Failure) → decided c (Finds f.flags) (Unit {0}) → decided c (λ found. same_failure found f) (eqb f.flags 0 && unchecked nack f.error) ≡ true → error_number f.error ≤ 6
    go (Some g) p e =
        let z = eqb-true (error_number g.error) (error_number f.error) (first_true (eqb (error_number g.error) (error_number f.error)) (eqb g.flags f.flags) e) in
        subst (λ (n : ℕ). n ≤ 6) z p.small
    go None p e = either_small (error_number f.error) (eqb (error_number f.error) 4) (eqb (error_number f.error) 2) refl refl (second_true (eqb f.flags 0) (unchecked nack f.error) e)

-- ---- by the words of an end

pub met_number : (chip : Chip) (nack : Bool) (n v x : ℕ) → n < 256 → has_failed chip nack (ending_of n v x) ≡ true → n ≤ 6
met_number chip nack n v x h = go (eqb n 0) refl
  where
    go : (b : Bool) → eqb n 0 ≡ b → has_failed chip nack (cond b (returned_both v x) (Err (flagged (access.error_of n) x))) ≡ true → n ≤ 6
    go true z q = let m = eqb-true n 0 z in omega (arith, m)
    go false z q = small_number n h (met_small chip nack (flagged (access.error_of n) x) q)

-- an error that no check finds, by its number
pub unchecked_told : (nack : Bool) (n : ℕ) → n < 256 → eqb n 4 || (nack && eqb n 2) ≡ not (eqb n 0) && unchecked nack (access.error_of n)
unchecked_told nack n h =
    ap₂ (λ (x y : Bool). x || (nack && y)) (by_number 4 (omega arith) (omega arith)) (by_number 2 (omega arith) (omega arith))
    ∙ one (not (eqb n 0)) (eqb (error_number (access.error_of n)) 4) (eqb (error_number (access.error_of n)) 2) nack
  where
    by_number : (k : ℕ) → 0 < k → k ≤ 6 → eqb n k ≡ not (eqb n 0) && eqb (error_number (access.error_of n)) k
    by_number k a l = turned n k ∙ small_told k n a l h ∙ ap (λ (b : Bool). not (eqb n 0) && b) (turned k (error_number (access.error_of n)))

    one : (b x y m : Bool) → (b && x) || (m && (b && y)) ≡ b && (x || (m && y))
    one true x y m = refl
    one false x y true = refl
    one false x y false = refl

-- an error that can be met, by what a check finds in the extra word
pub failed_told : (chip : Chip) (nack : Bool) (n v x : ℕ) → n < 256 → (c : Option Failure) → c ≡ error_of chip nack x
    → decided c (λ found. eqb (error_number found.error) n && eqb found.flags x) (eqb x 0 && (not (eqb n 0) && unchecked nack (access.error_of n))) ≡ has_failed chip nack (ending_of n v x)
unfolding is_met
failed_told chip nack n v x h c e = go (eqb n 0) refl c (subst (λ (q : Option Failure). decided q (Finds x) (Unit {0})) (sym e) (finds chip nack x)) ∙ rest (eqb n 0)
  where
    -- the ending that failed, by what was found
    fails : Option Failure → Bool
    fails q = decided q (λ found. same_failure found (flagged (access.error_of n) x)) (eqb x 0 && unchecked nack (access.error_of n))

    rest : (b : Bool) → cond b false (fails c) ≡ has_failed chip nack (cond b (returned_both v x) (Err (flagged (access.error_of n) x)))
    rest true = refl
    rest false = ap fails e

    go : (b : Bool) → eqb n 0 ≡ b → (q : Option Failure) → decided q (Finds x) (Unit {0})
        → decided q (λ found. eqb (error_number found.error) n && eqb found.flags x) (eqb x 0 && (not b && unchecked nack (access.error_of n))) ≡ cond b false (fails q)
    go true z None p = and-false (eqb x 0)
    go true z (Some g) p = ap (λ (t : Bool). t && eqb g.flags x) (ne_eqb (error_number g.error) n (λ w. let m : n ≡ 0 = eqb-true n 0 z in let a = p.above in omega (arith, a, w, m)))
    go false z None p = refl
    go false z (Some g) p = ap (λ (t : Bool). t && eqb g.flags x) (small_told (error_number g.error) n p.above p.small h ∙ ap (λ (t : Bool). not t && eqb (error_number g.error) (error_number (access.error_of n))) z)

pub failed_none : (chip : Chip) (nack : Bool) (n v x : ℕ) → n < 256 → error_of chip nack x ≡ None → has_failed chip nack (ending_of n v x) ≡ eqb x 0 && (not (eqb n 0) && unchecked nack (access.error_of n))
failed_none chip nack n v x h e = sym (failed_told chip nack n v x h None (sym e))

pub failed_some : (chip : Chip) (nack : Bool) (n v x : ℕ) (found : Failure) → n < 256 → error_of chip nack x ≡ Some found → has_failed chip nack (ending_of n v x) ≡ eqb (error_number found.error) n && eqb found.flags x
failed_some chip nack n v x found h e = sym (failed_told chip nack n v x h (Some found) (sym e))
