-- When a stage of an abort is taken, and what the code's tests say of it.
-- Assumes nothing.
use Prim.Native.Nat.{ℕ}
use mathlib.Core.Path.{◌≡◌, sym, ap, ◌∙◌}
use mathlib.Core.Bool.{◌&&◌}
use mathlib.Core.List.{List}
use lib.Dec.{eqb}
use lib.ListN.{get_or}
use Rattle.registers.specs.declared.chip.Chip.{Chip}
use Rattle.access.proofs.Compared.{turned}
use Rattle.images.specs.Numbers.{chip_of}
use Rattle.master.specs.declared.call.Call.{Call}
use Rattle.master.specs.declared.state.Progress.{Progress}
use Rattle.master.specs.Fits.{fits_abort}
use Rattle.stage_numbers.specs.MasterStage.{is_stage, abort_stage_number, abort_stage_of}
use Rattle.master_step.specs.Held.{block_at}
use Rattle.master_step.proofs.Laws.{chip_at}
use Rattle.master_step.proofs.TakenLaws.{swapped}

pub abort_decides : (chip : Chip) (w p : ℕ) → is_stage 9 w p && fits_abort chip (abort_stage_of p) ≡ eqb (abort_stage_number (abort_stage_of p)) p && (eqb w 0 && fits_abort chip (abort_stage_of p))
unfolding is_stage
abort_decides chip w p = rw (turned 0 w) (swapped (eqb w 0) (eqb (abort_stage_number (abort_stage_of p)) p) (fits_abort chip (abort_stage_of p)))

-- the chip that the block tells
pub chip_told : (c : Call) (d : Progress) (g w p : ℕ) {b : List ℕ} → block_at c d g w p ≡ b → chip_of (get_or b 1 0) ≡ c.chip
chip_told c d g w p e = ap (λ (b : List ℕ). chip_of (get_or b 1 0)) (sym e) ∙ chip_at c d g w p
