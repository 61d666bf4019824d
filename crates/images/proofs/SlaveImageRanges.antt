-- Which blocks are images of a slave call's states: those in which each number is one that it can be.
-- Assumes nothing.
use Prim.Native.Nat.{ℕ, ◌<◌}
use mathlib.Core.Path.{◌≡◌, refl}
use mathlib.Core.Bool.{true, false, ◌&&◌}
use lib.Dec.{eqb, ltb}
use Rattle.std.specs.Prelude.{Some, None}
use Rattle.access.specs.Endings.{is_ending}
use Rattle.block.specs.declared.fields.Fields.{Fields}
use Rattle.block.specs.Fields.{same_fields}
use Rattle.images.specs.Numbers.{is_chip}
use Rattle.stage_numbers.specs.SlaveStage.{is_stage}
use Rattle.images.specs.SlaveImage.{is_kind, slave_fields, slave_of, unused_empty, is_call, slave_in}
use Rattle.access.proofs.Bytes.{bytes}
use Rattle.access.proofs.Compared.{turned, itself, with_true, reordered}

pub kind_range : (n : ℕ) → n < 256 → is_kind n ≡ ltb 6 n && ltb n 10
unfolding is_kind
kind_range = bytes (λ n. ltb 6 n && ltb n 10) is_kind refl

pub image_ranges : (f : Fields) → same_fields (slave_fields (slave_of f)) f ≡ is_call f && (is_stage f.stage f.what f.phase && is_ending f.error f.value f.extra)
unfolding same_fields slave_fields slave_of is_call is_kind is_chip is_stage is_ending unused_empty
image_ranges f =
    rw (itself f.word, itself f.count, turned 0 f.option, turned 0 f.run, turned 0 f.left, turned 0 f.place, turned 0 f.divider, turned 0 f.rise, turned 0 f.marks, turned 0 f.address, turned 0 f.second, turned 0 f.mhz, with_true (eqb f.address 0))
    (reordered (is_kind f.entry) (eqb f.option 0) (is_chip f.chip) (is_stage f.stage f.what f.phase) (is_ending f.error f.value f.extra) (unused_empty f))

-- what is found by the tests, one after the other
pub found : (f : Fields) → is_call f ≡ true → is_stage f.stage f.what f.phase ≡ true → is_ending f.error f.value f.extra ≡ true → Some (slave_of f) ≡ slave_in f
unfolding slave_in
found f c s e = rw (image_ranges f, c, s, e)

pub no_ending : (f : Fields) → is_call f ≡ true → is_stage f.stage f.what f.phase ≡ true → is_ending f.error f.value f.extra ≡ false → None ≡ slave_in f
unfolding slave_in
no_ending f c s e = rw (image_ranges f, c, s, e)

pub no_stage : (f : Fields) → is_call f ≡ true → is_stage f.stage f.what f.phase ≡ false → None ≡ slave_in f
unfolding slave_in
no_stage f c s = rw (image_ranges f, c, s)

pub no_call : (f : Fields) → is_call f ≡ false → None ≡ slave_in f
unfolding slave_in
no_call f c = rw (image_ranges f, c)
