-- The tests of critical.rt find the sections that the definition has.
-- Assumes nothing.
use Prim.Native.Nat.{ℕ}
use mathlib.Core.Path.{◌≡◌, refl, sym, ap}
use mathlib.Core.Bool.{Bool, true, false, cond, ◌&&◌}
use mathlib.Core.List.{List}
use lib.Dec.{eqb}
use lib.ListN.{length, get_or}
use borrow.Author.Tests.{eq-eqb, ne_eqb}
use Rattle.std.specs.Prelude.{Some, None, is_some}
use Rattle.block.specs.Bytes32.{block_size, fields_of}
use Rattle.block.specs.Fields.{same_fields}
use Rattle.master.specs.declared.state.State.{State}
use Rattle.stage_numbers.specs.MasterStage.{address_stage_number, address_stage_of, read_stage_number, read_stage_of, stop_for_number, stop_for_of, half_number, half_of, stage_of, is_stage}
use Rattle.access.proofs.Compared.{itself, turned, joined}
use Rattle.access.specs.Endings.{is_ending, is_done}
use Rattle.images.specs.Numbers.{flag_at}
use Rattle.images.specs.EndImage.{ending_at}
use Rattle.images.specs.MasterImage.{master_fields, master_of, master_in, is_call}
use Rattle.images.proofs.MasterImageRanges.{image_ranges}
use Rattle.master_call.specs.CallStep.{is_call_of}
use Rattle.ch32_i2c.specs.Critical.{in_read_section, in_address_section, in_stop_section, in_section, is_critical, is_critical_in, critical}

-- ---- the three groups that have sections

pub in_address : (w p : ℕ) → eqb w 0 && (eqb (address_stage_number (address_stage_of p)) p && in_address_section (address_stage_of p)) ≡ is_stage 4 w p && in_section (stage_of 4 w p)
unfolding is_stage
in_address w p = rw (turned 0 w) (sym (joined (eqb w 0) (eqb (address_stage_number (address_stage_of p)) p) (in_address_section (address_stage_of p))))

pub in_read : (w p : ℕ) → eqb w 0 && (eqb (read_stage_number (read_stage_of p)) p && in_read_section (read_stage_of p)) ≡ is_stage 7 w p && in_section (stage_of 7 w p)
unfolding is_stage
in_read w p = rw (turned 0 w) (sym (joined (eqb w 0) (eqb (read_stage_number (read_stage_of p)) p) (in_read_section (read_stage_of p))))

swapped : (a i h : Bool) → (a && i) && h ≡ (a && h) && i
swapped true true true = refl
swapped true true false = refl
swapped true false true = refl
swapped true false false = refl
swapped false i h = refl

pub in_stop : (w p : ℕ) → (eqb (stop_for_number (stop_for_of w)) w && in_stop_section (stop_for_of w)) && eqb (half_number (half_of p)) p ≡ is_stage 8 w p && in_section (stage_of 8 w p)
unfolding is_stage
in_stop w p = swapped (eqb (stop_for_number (stop_for_of w)) w) (in_stop_section (stop_for_of w)) (eqb (half_number (half_of p)) p)

pub half_found : (p : ℕ) → is_some (cond (eqb (half_number (half_of p)) p) (Some (half_of p)) None) ≡ eqb (half_number (half_of p)) p
half_found p = go (eqb (half_number (half_of p)) p)
  where
    go : (b : Bool) → is_some (cond b (Some (half_of p)) None) ≡ b
    go true = refl
    go false = refl

-- ---- a block

picked : (t : Bool) (s : State) → is_critical_in (cond t (Some s) None) ≡ t && is_critical s
picked true s = refl
picked false s = refl

reordered : (c s e d r k : Bool) → ((c && e) && d) && (r && (s && k)) ≡ (c && (s && e)) && (d && (r && k))
reordered true true true d r k = refl
reordered true false true true true k = refl
reordered true false true true false k = refl
reordered true false true false r k = refl
reordered true true false d r k = refl
reordered true false false d r k = refl
reordered false s e d r k = refl

-- the block is a call's, with no end known yet
abbrev is_open_call : List ℕ → Bool
is_open_call b = is_call_of (get_or b 0 0) b && is_done (ending_at b)

pub block_critical : (b : List ℕ) → is_open_call b && (flag_at 1 (get_or b 6 0) && (is_stage (get_or b 3 0) (get_or b 4 0) (get_or b 5 0) && in_section (stage_of (get_or b 3 0) (get_or b 4 0) (get_or b 5 0)))) ≡ is_critical_in (master_in (fields_of b))
unfolding is_call_of master_in master_of fields_of
block_critical b =
    rw (itself (get_or b 0 0), picked (same_fields (master_fields (master_of (fields_of b))) (fields_of b)) (master_of (fields_of b)), image_ranges (fields_of b))
    (reordered (is_call (fields_of b)) (is_stage (get_or b 3 0) (get_or b 4 0) (get_or b 5 0)) (is_ending (fields_of b).error (fields_of b).value (fields_of b).extra) (is_done (ending_at b)) (flag_at 1 (get_or b 6 0)) (in_section (stage_of (get_or b 3 0) (get_or b 4 0) (get_or b 5 0))))

-- ---- what C gets

pub no_block : (b : List ℕ) → (length b ≡ block_size → ⊥) → 0 ≡ critical b
unfolding critical
no_block b e = rw (ne_eqb (length b) 32 e)

-- by direction and stage, and then by the other numbers
pub critical_told : (b : List ℕ) → length b ≡ block_size → critical b ≡ cond (is_open_call b && (flag_at 1 (get_or b 6 0) && (is_stage (get_or b 3 0) (get_or b 4 0) (get_or b 5 0) && in_section (stage_of (get_or b 3 0) (get_or b 4 0) (get_or b 5 0))))) 1 0
unfolding critical
critical_told b size = rw (eq-eqb (length b) 32 size) (ap (λ (t : Bool). cond t 1 0) (sym (block_critical b)))
