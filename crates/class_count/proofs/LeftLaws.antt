-- What the flags leave one after the other, and with it what each takes.
-- Assumes nothing.
use Prim.Native.Nat.{ℕ, ◌-◌, ◌/◌}
use mathlib.Core.Path.{◌≡◌, refl, sym, ◌∙◌}
use mathlib.Core.Bool.{Bool, cond}
use mathlib.Core.List.{List, [], ◌∷◌, map}
use Rattle.registers.specs.declared.chip.Chip.{Chip}
use Rattle.errors.specs.Classes.{classes}
use Rattle.class_count.specs.ClassWords.{words_of, formula_of}
use Rattle.class_count.proofs.ChipLaws.{by_chip, all_halve}

-- half, if the chip has the flag
abbrev left : ℕ → Bool → ℕ
left words has = cond has (words / 2) words

-- what the classes 0 to 6 take, by what ARLO, BERR, TIMEOUT, PECERR, OVR and AF leave
abbrev pub taken : ℕ → ℕ → ℕ → ℕ → ℕ → ℕ → List ℕ
taken arlo berr timeout pecerr ovr af = af ∷ (arlo - berr) ∷ (65536 - arlo) ∷ (ovr - af) ∷ (berr - timeout) ∷ (timeout - pecerr) ∷ (pecerr - ovr) ∷ []

-- each from what the one before it left
abbrev taken_from : Chip → Bool → ℕ → List ℕ
taken_from chip nack arlo =
    let berr = left arlo chip.ch32v4 in
    let timeout = left berr chip.i2c_v3 in
    let pecerr = timeout / 2 in
    let ovr = pecerr / 2 in
    taken arlo berr timeout pecerr ovr (left ovr nack)

abbrev pub class_numbers : List ℕ
class_numbers = 0 ∷ 1 ∷ 2 ∷ 3 ∷ 4 ∷ 5 ∷ 6 ∷ []

pub taken_told : (chip : Chip) (nack : Bool) (arlo berr timeout pecerr ovr af : ℕ)
    → arlo ≡ 32768 → berr ≡ left arlo chip.ch32v4 → timeout ≡ left berr chip.i2c_v3 → pecerr ≡ timeout / 2 → ovr ≡ pecerr / 2 → af ≡ left ovr nack
    → taken arlo berr timeout pecerr ovr af ≡ map (words_of chip nack) class_numbers
taken_told chip nack arlo berr timeout pecerr ovr af a b t p o f =
    rw (f, o, p, t, b, a)
    (by_chip (λ v m. taken_from v m 32768 ≡ map (formula_of (classes v m)) class_numbers) refl refl refl refl refl refl refl refl chip nack)
    ∙ sym (all_halve chip nack class_numbers)
