-- What the dispatching caller finds by its own tests is what the groups ask for: a block of 32 bytes whose numbers beside the stage's are
-- a call's, with no error met, is the block of the call and the progress that it tells.
-- Assumes nothing.
use Prim.Native.Nat.{ℕ}
use mathlib.Core.Path.{◌≡◌, sym, ap, ◌∙◌}
use mathlib.Core.Bool.{true, ◌&&◌}
use mathlib.Core.List.{List}
use lib.Dec.{eqb}
use lib.ListN.{length}
use Rattle.access.proofs.Choice.{both_true}
use Rattle.access.specs.Endings.{is_ending}
use Rattle.block.specs.declared.fields.Fields.{Fields}
use Rattle.block.specs.Fields.{same_fields}
use Rattle.block.specs.Bytes32.{fields_of, bytes_of, Bytes}
use Rattle.block.proofs.Codec.{same_said, bytes_back}
use Rattle.images.specs.Numbers.{is_flag, is_chip}
use Rattle.images.specs.EndImage.{is_ending_at}
use Rattle.images.specs.MasterImage.{kind_entry, kind_option, kind_of, is_kind, master_of, unused_empty, is_call}
use Rattle.access.proofs.Compared.{turned, itself, joined, reordered}
use Rattle.operations.specs.declared.search.Run.{Run}
use Rattle.operations.specs.Operations.{is_read}
use Rattle.master_step.specs.declared.here.Here.{Here}
use Rattle.master_step.specs.Going.{here_in}
use Rattle.master_step.specs.Held.{fields_at, block_at, InRun}

module _ (f : Fields) where
  same_call : same_fields (fields_at (master_of f).call (master_of f).progress f.stage f.what f.phase) f ≡ is_call f && (true && is_ending f.error f.value f.extra)
  unfolding same_fields fields_at master_of is_call is_kind is_chip is_ending is_flag unused_empty
  same_call =
      rw (itself f.stage, itself f.what, itself f.phase, itself f.run, itself f.left, itself f.place, itself f.word, itself f.divider, itself f.rise, itself f.address, turned 0 f.count, turned 0 f.second, turned 0 f.mhz, joined (is_flag f.marks) (eqb f.count 0) (eqb f.second 0 && eqb f.mhz 0))
      (reordered (eqb (kind_entry (kind_of f.entry f.option)) f.entry) (eqb (kind_option (kind_of f.entry f.option)) f.option) (is_chip f.chip) true (is_ending f.error f.value f.extra) (is_flag f.marks && unused_empty f))

  fields_same : is_call f ≡ true → is_ending f.error f.value f.extra ≡ true → fields_at (master_of f).call (master_of f).progress f.stage f.what f.phase ≡ f
  fields_same c e = same_said _ f (same_call ∙ both_true c e)

-- the block is that of what it tells, whatever the numbers of the stage
pub block_told : (b : List ℕ) → length b ≡ 32 → Bytes b → is_call (fields_of b) ≡ true → is_ending_at b ≡ true
    → b ≡ block_at (master_of (fields_of b)).call (master_of (fields_of b)).progress (fields_of b).stage (fields_of b).what (fields_of b).phase
unfolding block_at fields_of
block_told b size bytes c e = sym (bytes_back b size bytes) ∙ ap bytes_of (sym (fields_same (fields_of b) c e))

-- so it is a block of the run r, if that is what the caller knows of it
pub in_run : (b : List ℕ) (r : Run) {here : Here} → length b ≡ 32 → Bytes b → is_call (fields_of b) ≡ true → is_ending_at b ≡ true
    → here ≡ here_in (master_of (fields_of b)).call r (is_read r.direction) → InRun (master_of (fields_of b)).call r (master_of (fields_of b)).progress here b
unfolding fields_of
in_run b r size bytes c e going = record { held = block_told b size bytes c e; going = going }
