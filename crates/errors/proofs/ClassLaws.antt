-- Laws of a status word's class.
-- Assumes nothing.
use Prim.Native.Nat.{ℕ}
use mathlib.Core.Path.{◌≡◌, refl, sym, ◌∙◌}
use mathlib.Core.Bool.{Bool, true, false, cond, ◌&&◌}
use Rattle.std.specs.Prelude.{Option, Some, None}
use Rattle.registers.specs.declared.chip.Chip.{Chip}
use Rattle.registers.specs.Bits.{BERR, ARLO, AF, OVR, PECERR, TIMEOUT}
use Rattle.registers.specs.Word.{has_bit}
use Rattle.registers.specs.Flags.{error_flags}
use Rattle.registers.proofs.FlagLaws.{clear_flags}
use Rattle.access.specs.declared.ending.Error.{Error}
use Rattle.access.specs.declared.ending.Error.TheVariants.{Bus, Arbitration, Nack, Timeout, Crc, Overrun}
use Rattle.access.specs.declared.ending.Failure.{Failure}
use Rattle.access.specs.Endings.{flagged}
use Rattle.errors.specs.Classes.{classes, first_of, error_of, decided}

-- an error with the flags of the word
abbrev found : Error → ℕ → Failure
found e w = flagged e (error_flags w)

pub decided_if {ℓ} : {X : Type ℓ} (t : Bool) (f : Failure) (c : Option Failure) (h : Failure → X) (p : X) → decided (cond t (Some f) c) h p ≡ cond t (h f) (decided c h p)
decided_if true f c h p = refl
decided_if false f c h p = refl

-- the list's order as a chain of ifs, over the six tests: ARLO, BERR, TIMEOUT, PECERR, OVR and AF, each where it is an error
abbrev pub chain {ℓ} : {X : Type ℓ} → (a b t c o n : Bool) → (Error → X) → X → X
chain a b t c o n h p = cond a (h Arbitration) (cond b (h Bus) (cond t (h Timeout) (cond c (h Crc) (cond o (h Overrun) (cond n (h Nack) p)))))

-- of a word
abbrev pub our_chain {ℓ} : {X : Type ℓ} → Chip → Bool → ℕ → (Error → X) → X → X
our_chain chip nack w = chain (has_bit ARLO w) (chip.ch32v4 && has_bit BERR w) (chip.i2c_v3 && has_bit TIMEOUT w) (has_bit PECERR w) (has_bit OVR w) (nack && has_bit AF w)

-- it goes by the class
pub by_class {ℓ} : {X : Type ℓ} (chip : Chip) (nack : Bool) (w : ℕ) (h : Failure → X) (p : X) → our_chain chip nack w (λ e. h (found e w)) p ≡ decided (error_of chip nack w) h p
unfolding error_of
by_class chip nack w h p = go chip.ch32v4 chip.i2c_v3 nack
  where
    go : (v4 v3 n : Bool) → chain (has_bit ARLO w) (v4 && has_bit BERR w) (v3 && has_bit TIMEOUT w) (has_bit PECERR w) (has_bit OVR w) (n && has_bit AF w) (λ e. h (found e w)) p
        ≡ decided (first_of (classes (record { i2c_v3 = v3; ch32v4 = v4 }) n) w) h p
    go true true true = simp decided_if
    go true true false = simp decided_if
    go true false true = simp decided_if
    go true false false = simp decided_if
    go false true true = simp decided_if
    go false true false = simp decided_if
    go false false true = simp decided_if
    go false false false = simp decided_if

-- the class itself
pub as_ifs : (chip : Chip) (nack : Bool) (w : ℕ) → our_chain chip nack w (λ e. Some (found e w)) None ≡ error_of chip nack w
as_ifs chip nack w = by_class chip nack w Some None ∙ same (error_of chip nack w)
  where
    same : (c : Option Failure) → decided c Some None ≡ c
    same (Some f) = refl
    same None = refl

-- a word without error flags shows no error
pub no_flags : (chip : Chip) (nack : Bool) (w : ℕ) → error_flags w ≡ 0 → error_of chip nack w ≡ None
no_flags chip nack w z =
    let f = clear_flags w z in
    sym (as_ifs chip nack w)
    ∙ rw (f.arlo, f.berr, f.timeout, f.pecerr, f.ovr, f.af)
    (rest chip.ch32v4 chip.i2c_v3 nack)
  where
    rest : (a b c : Bool) → chain false (a && false) (b && false) false false (c && false) (λ e. Some (found e w)) None ≡ None
    rest true true true = refl
    rest true true false = refl
    rest true false true = refl
    rest true false false = refl
    rest false true true = refl
    rest false true false = refl
    rest false false true = refl
    rest false false false = refl
