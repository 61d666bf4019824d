-- Begin and step of an accepted transfer make what its machine shows.
-- Assumes nothing.
use mathlib.Core.Path.{◌≡◌, refl, ap, ◌∙◌}
use mathlib.Core.Bool.{Bool, true, not, ◌&&◌}
use mathlib.Core.List.{List}
use mathlib.Core.Option.{some}
use Prim.Native.Nat.{ℕ}
use lib.ListN.{length}
use Rattle.access.specs.Machine.{is_end}
use Rattle.access.proofs.Choice.{both_true}
use Rattle.block.specs.Bytes32.{bytes_of}
use Rattle.master.specs.declared.call.Call.{Call}
use Rattle.master.specs.declared.state.Move.{Move}
use Rattle.master.specs.Machine.{master, owed, advance}
use Rattle.master.specs.Fits.{fits}
use Rattle.master.specs.Calls.{Lent, lent_with, shape_of, refusal, Accepted}
use Rattle.master.specs.Steps.{state_at, is_none, fits_lent, is_open, need_of}
use Rattle.master.proofs.AcceptedFits.{states_fit}
use Rattle.images.specs.MasterImage.{master_fields, kind_entry}
use Rattle.call.specs.OnBlock.{OnBlock, IsRun}
use Rattle.calls.specs.Transfer.{fitting, moved, transfer_on}
use Rattle.call.specs.Left.{step_left}
use Rattle.ch32_i2c.specs.Transfer.{master_step, master_begin}
use Rattle.ch32_i2c.specs.Fed.{Entry}
use Rattle.ch32_i2c.proofs.HeldLaws.{master_held_lem}
use Rattle.ch32_i2c.proofs.Carried.{Carries, carries}

module _ (c : Call) (l : Lent) where
  -- the call, with what is lent
  abbrev pub transfer_entry : Bool → Entry
  transfer_entry unknown =
      record {
        begin = λ b r. master_begin unknown c b (lent_with l.list l.written (length r)) r;
        step = λ b r a. master_step (kind_entry c.kind) b l.list l.written r a;
      }

  abbrev pub image_of : Move → List ℕ
  image_of m = bytes_of (master_fields (state_at c m))

  abbrev pub Fit : Move → Type 0
  Fit m = fits (shape_of c l) m ≡ true

  abbrev on_block : OnBlock
  on_block = transfer_on l.list (length l.written) l.room (kind_entry c.kind)

  needs : (m : Move) → need_of (state_at c m) ≡ owed (shape_of c l) m
  unfolding owed
  needs m = refl

  moves : (m : Move) (a : ℕ) → moved l.list (length l.written) l.room (state_at c m) a ≡ state_at c (advance (shape_of c l) m a)
  unfolding advance
  moves m a = refl

  on_block_lem : (unknown : Bool) (b r : List ℕ) (a : ℕ) → length r ≡ l.room → (transfer_entry unknown).step b r a ≡ step_left on_block l.written b r a
  unfolding master_step
  on_block_lem unknown b r a e = ap (λ (n : ℕ). step_left (transfer_on l.list (length l.written) n (kind_entry c.kind)) l.written b r a) e

  module _ (accepted : Accepted c l) where
    fits_lent_lem : (m : Move) → Fit m → fits_lent (state_at c m) l.list (length l.written) l.room ≡ true
    unfolding fits_lent refusal
    fits_lent_lem m g = both_true (ap is_none accepted) g

    pub open_at : (m : Move) → Fit m → (b : Bool) → is_end (owed (shape_of c l) m) ≡ b → is_open (state_at c m) l ≡ not b
    unfolding owed
    open_at m g b e = ap (λ (t : Bool). t && not (is_end (owed (shape_of c l) m))) (fits_lent_lem m g) ∙ ap not e

    held : (m : Move) → Fit m → on_block.held (image_of m) ≡ some (state_at c m)
    held m g = ap (fitting l.list (length l.written) l.room) (master_held_lem (state_at c m)) ∙ rw (fits_lent_lem m g)

    transfer_run : IsRun on_block (master (shape_of c l)) (state_at c) Fit
    transfer_run = record { needs = needs; moves = moves; stays = states_fit.kept c l accepted; held = held }

    pub transfer_carries : (unknown : Bool) → Carries (master (shape_of c l)) l.written l.room (transfer_entry unknown) image_of Fit
    transfer_carries unknown = carries transfer_run l.written (transfer_entry unknown) l.room (on_block_lem unknown)
