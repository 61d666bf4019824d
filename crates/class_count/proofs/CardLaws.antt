-- The card, from the formula: no count is computed.
-- Assumes nothing.
use Prim.Native.Nat.{ℕ}
use mathlib.Core.Path.{◌≡◌, refl, ap, ap₂, ◌∙◌}
use mathlib.Core.Bool.{Bool, true, false}
use mathlib.Core.List.{List, [], ◌∷◌, map}
use Rattle.registers.specs.declared.chip.Chip.{Chip}
use Rattle.registers.specs.Chips.{chips}
use Rattle.errors.specs.Classes.{classes}
use Rattle.class_count.specs.ClassWords.{formula_of}
use Rattle.class_count.specs.Card.{card_classes, card_row, card_rows, CardHolds, total, RowsAreWhole}
use Rattle.class_count.proofs.ChipLaws.{by_chip, all_halve}

-- a row by the formula
abbrev formula_row : Chip → Bool → List ℕ
formula_row chip nack = map (formula_of (classes chip nack)) card_classes

row_told : (chip : Chip) (nack : Bool) → card_row chip nack ≡ formula_row chip nack
row_told chip nack = all_halve chip nack card_classes

pub card_holds : CardHolds
card_holds = go chips
  where
    go : (l : List Chip) → map card_rows l ≡ map (λ chip. formula_row chip true ∷ formula_row chip false ∷ []) l
    go [] = refl
    go (chip ∷ l) = ap₂ ◌∷◌ (ap₂ (λ (m s : List ℕ). m ∷ s ∷ []) (row_told chip true) (row_told chip false)) (go l)

pub rows_are_whole : RowsAreWhole
rows_are_whole chip nack =
    ap total (row_told chip nack)
    ∙ by_chip (λ v m. total (formula_row v m) ≡ 65536) refl refl refl refl refl refl refl refl chip nack
