-- When a run begins: its numbers are the stage's, the block has nothing of the run, and the run has a first access.
-- Assumes nothing.
use Prim.Native.Nat.{ℕ}
use mathlib.Core.Path.{◌≡◌, refl, sym, ap, ◌∙◌}
use mathlib.Core.Bool.{Bool, true, false, not, ◌&&◌, ◌||◌}
use mathlib.Core.List.{List}
use lib.Dec.{eqb}
use lib.ListN.{get_or}
use Rattle.access.specs.Endings.{done}
use Rattle.images.specs.Numbers.{flag_number}
use Rattle.block.specs.Bytes32.{word_at}
use Rattle.operations.specs.declared.search.Run.{Run}
use Rattle.operations.specs.Operations.{is_read}
use Rattle.master.specs.declared.call.Call.{Call}
use Rattle.master.specs.declared.state.Progress.{Progress}
use Rattle.master.specs.Fits.{fits_at}
use Rattle.master.specs.Calls.{setting_of}
use Rattle.stage_numbers.specs.MasterStage.{is_stage, stage_of}
use Rattle.access.proofs.Compared.{turned}
use Rattle.master_step.specs.declared.here.Here.{Here}
use Rattle.master_step.specs.Going.{here_in, fits_begin_in}
use Rattle.master_step.specs.Held.{block_at, Stand, run_in, Unbegun}
use Rattle.master_step.proofs.Laws.{place_at, flag_at, direction_told}

regrouped : (a b n l p q : Bool) → (a && b) && ((n && (l && p)) && q) ≡ a && (b && (n && (l && (p && q))))
regrouped true true true true p q = refl
regrouped true true true false p q = refl
regrouped true true false l p q = refl
regrouped true false n l p q = refl
regrouped false b n l p q = refl

no_flag_at : (c : Call) (d : Progress) (g w p : ℕ) → eqb (get_or (block_at c d g w p) 6 0) 0 ≡ not d.reading
no_flag_at c d g w p = ap (λ (n : ℕ). eqb n 0) (flag_at c d g w p) ∙ go d.reading
  where
    go : (b : Bool) → eqb (flag_number b) 0 ≡ not b
    go true = refl
    go false = refl

module _ (c : Call) (r : Run) (d : Progress) {here : Here} {b : List ℕ} (left w p : ℕ) (held : block_at c d 0 w p ≡ b) (going : here ≡ here_in c r (is_read r.direction)) (ending : d.ending ≡ done) (l : left ≡ d.left) where
  pub begin_decides : is_stage 0 w p && fits_at (setting_of c) r (stage_of 0 w p) d ≡ fits_begin_in here left w p b
  unfolding is_stage fits_begin_in
  begin_decides =
      let flag : eqb (get_or b 6 0) 0 ≡ not d.reading = ap (λ (x : List ℕ). eqb (get_or x 6 0) 0) (sym held) ∙ no_flag_at c d 0 w p in
      let place : word_at b 14 ≡ d.place = ap (λ (x : List ℕ). word_at x 14) (sym held) ∙ place_at c d 0 w p in
      rw (turned 0 w, turned 0 p, ending, flag, place, going, l)
      (regrouped (eqb w 0) (eqb p 0) (not d.reading) (eqb d.left 0) (eqb d.place 0) (is_read r.direction || (setting_of c).frame.send_start))

-- what a step knows is what there is to know
pub known : {here : Here} {left : ℕ} {s : Stand} {b : List ℕ} → Unbegun here left s b → here ≡ here_in s.call (run_in here) (is_read (run_in here).direction)
known {here} e = λ i. record { reading = sym (direction_told here) i; length = here.length; before = here.before; more = here.more; start = sym e.start i; stops = sym e.stops i; nack = sym e.nack i }
