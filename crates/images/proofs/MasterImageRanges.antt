-- Which blocks are images of a master call's states: those in which each number is one that it can be.
-- Assumes nothing.
use Prim.Native.Nat.{ℕ, ◌<◌}
use mathlib.Core.Path.{◌≡◌, refl, sym, subst}
use mathlib.Core.Bool.{Bool, true, false, ◌&&◌, ◌||◌}
use lib.Dec.{eqb, ltb}
use borrow.Author.Tests.{eqb-true}
use Rattle.std.specs.Prelude.{Some, None}
use Rattle.access.specs.Endings.{is_ending}
use Rattle.block.specs.declared.fields.Fields.{Fields}
use Rattle.block.specs.Fields.{same_fields}
use Rattle.master.specs.declared.call.Kind.TheVariants as kind
use Rattle.images.specs.Numbers.{is_flag, is_chip}
use Rattle.stage_numbers.specs.MasterStage.{is_stage}
use Rattle.images.specs.MasterImage.{frame_options_of, kind_entry, kind_option, kind_of, is_kind, master_fields, master_of, unused_empty, is_call, master_in}
use Rattle.access.proofs.Bytes.{bytes}
use Rattle.access.proofs.Compared.{turned, itself, joined, reordered}

abbrev kind_test : ℕ → ℕ → Bool
kind_test n o = (ltb 1 n && ltb n 6) && (ltb o 6 && (ltb 3 n || eqb o 0))

transaction_range : (o : ℕ) → o < 256 → is_kind 2 o ≡ kind_test 2 o
unfolding is_kind
transaction_range = bytes (kind_test 2) (is_kind 2) refl

write_read_range : (o : ℕ) → o < 256 → is_kind 3 o ≡ kind_test 3 o
unfolding is_kind
write_read_range = bytes (kind_test 3) (is_kind 3) refl

write_range : (o : ℕ) → o < 256 → is_kind 4 o ≡ kind_test 4 o
unfolding is_kind
write_range = bytes (kind_test 4) (is_kind 4) refl

read_range : (o : ℕ) → o < 256 → is_kind 5 o ≡ kind_test 5 o
unfolding is_kind
read_range = bytes (kind_test 5) (is_kind 5) refl

entry_range : (n : ℕ) → n < 256 → ltb 1 n && ltb n 6 ≡ eqb n 2 || (eqb n 3 || (eqb n 4 || eqb n 5))
entry_range = bytes (λ n. eqb n 2 || (eqb n 3 || (eqb n 4 || eqb n 5))) (λ n. ltb 1 n && ltb n 6) refl

other : (n o : ℕ) → eqb n 2 ≡ false → eqb n 3 ≡ false → eqb n 4 ≡ false → kind_of n o ≡ kind.Read (frame_options_of o)
other n o e2 e3 e4 = rw (e2, e3, e4)

no_kind : (n o : ℕ) → n < 256 → eqb n 2 ≡ false → eqb n 3 ≡ false → eqb n 4 ≡ false → eqb n 5 ≡ false → is_kind n o ≡ kind_test n o
unfolding is_kind
no_kind n o h e2 e3 e4 e5 = rw (other n o e2 e3 e4, turned 5 n, entry_range n h, e2, e3, e4, e5)

pub kind_range : (n o : ℕ) → n < 256 → o < 256 → is_kind n o ≡ (ltb 1 n && ltb n 6) && (ltb o 6 && (ltb 3 n || eqb o 0))
kind_range n o h k = go (eqb n 2) (eqb n 3) (eqb n 4) (eqb n 5) refl refl refl refl
  where
    is : (m : ℕ) → eqb n m ≡ true → is_kind m o ≡ kind_test m o → is_kind n o ≡ kind_test n o
    is m e = subst (λ (x : ℕ). is_kind x o ≡ kind_test x o) (sym (eqb-true n m e))

    go : (a b c d : Bool) → eqb n 2 ≡ a → eqb n 3 ≡ b → eqb n 4 ≡ c → eqb n 5 ≡ d → is_kind n o ≡ kind_test n o
    go true b c d e2 e3 e4 e5 = is 2 e2 (transaction_range o k)
    go false true c d e2 e3 e4 e5 = is 3 e3 (write_read_range o k)
    go false false true d e2 e3 e4 e5 = is 4 e4 (write_range o k)
    go false false false true e2 e3 e4 e5 = is 5 e5 (read_range o k)
    go false false false false e2 e3 e4 e5 = no_kind n o h e2 e3 e4 e5

pub image_ranges : (f : Fields) → same_fields (master_fields (master_of f)) f ≡ is_call f && (is_stage f.stage f.what f.phase && is_ending f.error f.value f.extra)
unfolding same_fields master_fields master_of is_call is_kind is_chip is_stage is_ending is_flag unused_empty
image_ranges f =
    rw (itself f.run, itself f.left, itself f.place, itself f.word, itself f.divider, itself f.rise, itself f.address, turned 0 f.count, turned 0 f.second, turned 0 f.mhz, joined (is_flag f.marks) (eqb f.count 0) (eqb f.second 0 && eqb f.mhz 0))
    (reordered (eqb (kind_entry (kind_of f.entry f.option)) f.entry) (eqb (kind_option (kind_of f.entry f.option)) f.option) (is_chip f.chip) (is_stage f.stage f.what f.phase) (is_ending f.error f.value f.extra) (is_flag f.marks && unused_empty f))

-- what is found by the tests, one after the other
pub found : (f : Fields) → is_call f ≡ true → is_stage f.stage f.what f.phase ≡ true → is_ending f.error f.value f.extra ≡ true → Some (master_of f) ≡ master_in f
unfolding master_in
found f c s e = rw (image_ranges f, c, s, e)

pub no_ending : (f : Fields) → is_call f ≡ true → is_stage f.stage f.what f.phase ≡ true → is_ending f.error f.value f.extra ≡ false → None ≡ master_in f
unfolding master_in
no_ending f c s e = rw (image_ranges f, c, s, e)

pub no_stage : (f : Fields) → is_call f ≡ true → is_stage f.stage f.what f.phase ≡ false → None ≡ master_in f
unfolding master_in
no_stage f c s = rw (image_ranges f, c, s)

pub no_call : (f : Fields) → is_call f ≡ false → None ≡ master_in f
unfolding master_in
no_call f c = rw (image_ranges f, c)
