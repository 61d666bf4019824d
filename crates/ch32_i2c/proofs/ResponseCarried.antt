-- Begin and step of an accepted slave call make what its machine shows.
-- Assumes nothing.
use mathlib.Core.Path.{◌≡◌, refl, ap, ◌∙◌}
use mathlib.Core.Bool.{Bool, true, not, ◌&&◌}
use mathlib.Core.List.{List}
use mathlib.Core.Option.{some}
use Prim.Native.Nat.{ℕ}
use lib.ListN.{length}
use borrow.Author.Tests.{le-leb}
use Rattle.registers.specs.declared.chip.Chip.{Chip}
use Rattle.access.specs.Machine.{is_end}
use Rattle.access.proofs.Choice.{both_true}
use Rattle.block.specs.Bytes32.{bytes_of}
use Rattle.slave.specs.declared.state.Kind.{Kind}
use Rattle.slave.specs.declared.state.Move.{Move}
use Rattle.slave.specs.Machine.{slave, owed, advance}
use Rattle.slave.specs.Fits.{fits}
use Rattle.slave.specs.Calls.{SlaveLent, size_of, setting_of, Accepted}
use Rattle.slave.specs.Calls as calls
use Rattle.slave.specs.Steps.{state_at, fits_lent, is_open, need_of}
use Rattle.slave.proofs.FitsKept.{states_fit}
use Rattle.slave_driver.specs.Lent.{lent_with}
use Rattle.images.specs.SlaveImage.{slave_fields, kind_entry}
use Rattle.call.specs.OnBlock.{OnBlock, IsRun}
use Rattle.calls.specs.Response.{fitting, moved, response_on, response_begin}
use Rattle.call.specs.Left.{begin_left, step_left}
use Rattle.ch32_i2c.specs.Fed.{Entry}
use Rattle.ch32_i2c.proofs.HeldLaws.{slave_held_lem}
use Rattle.ch32_i2c.proofs.Carried.{Carries, carries}

module _ (chip : Chip) (x : Kind) (l : SlaveLent) where
  abbrev pub image_of : Move → List ℕ
  image_of m = bytes_of (slave_fields (state_at (setting_of chip x l) m))

  abbrev pub Fit : Move → Type 0
  Fit m = fits (setting_of chip x l) m ≡ true

  -- the call, with what is lent; begin is given C's number of the chip
  abbrev pub response_entry : ℕ → Entry
  response_entry n =
      record {
        begin = λ b r. begin_left (calls.bytes_of x l) (response_begin (size_of x (lent_with l.reply (length r))) n x b) r;
        step = λ b r a. step_left (response_on (size_of x (lent_with l.reply (length r))) (kind_entry x)) (calls.bytes_of x l) b r a;
      }

  abbrev on_block : OnBlock
  on_block = response_on (size_of x l) (kind_entry x)

  needs : (m : Move) → need_of (state_at (setting_of chip x l) m) (size_of x l) ≡ owed (setting_of chip x l) m
  unfolding owed
  needs m = refl

  moves : (m : Move) (a : ℕ) → moved (size_of x l) (state_at (setting_of chip x l) m) a ≡ state_at (setting_of chip x l) (advance (setting_of chip x l) m a)
  unfolding advance
  moves m a = refl

  on_block_lem : (n : ℕ) (b r : List ℕ) (a : ℕ) → length r ≡ l.room → (response_entry n).step b r a ≡ step_left on_block (calls.bytes_of x l) b r a
  on_block_lem n b r a e = ap (λ (k : ℕ). step_left (response_on (size_of x (lent_with l.reply k)) (kind_entry x)) (calls.bytes_of x l) b r a) e

  module _ (accepted : Accepted x l) where
    fits_lent_lem : (m : Move) → Fit m → fits_lent (state_at (setting_of chip x l) m) (size_of x l) ≡ true
    unfolding fits_lent
    fits_lent_lem m g = both_true (le-leb (size_of x l) 65535 accepted) g

    pub open_at : (m : Move) → Fit m → (b : Bool) → is_end (owed (setting_of chip x l) m) ≡ b → is_open (state_at (setting_of chip x l) m) (size_of x l) ≡ not b
    unfolding owed
    open_at m g b e = ap (λ (t : Bool). t && not (is_end (owed (setting_of chip x l) m))) (fits_lent_lem m g) ∙ ap not e

    held : (m : Move) → Fit m → on_block.held (image_of m) ≡ some (state_at (setting_of chip x l) m)
    held m g = ap (fitting (size_of x l)) (slave_held_lem (state_at (setting_of chip x l) m)) ∙ rw (fits_lent_lem m g)

    response_run : IsRun on_block (slave (setting_of chip x l)) (state_at (setting_of chip x l)) Fit
    response_run = record { needs = needs; moves = moves; stays = states_fit.kept (setting_of chip x l); held = held }

    pub response_carries : (n : ℕ) → Carries (slave (setting_of chip x l)) (calls.bytes_of x l) l.room (response_entry n) image_of Fit
    response_carries n = carries response_run (calls.bytes_of x l) (response_entry n) l.room (on_block_lem n)
