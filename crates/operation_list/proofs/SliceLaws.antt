-- A transaction whose operations are lent as a slice is C's transaction with their bytes.
-- Assumes nothing.
use mathlib.Core.Path.{◌≡◌, refl, sym, ap, subst, ◌∙◌}
use mathlib.Core.Bool.{Bool, true, false}
use mathlib.Core.List.{List, [], ◌∷◌}
use Prim.Native.Nat.{ℕ, ◌+◌, ◌*◌, ◌/◌, ◌%◌, ◌≤◌, ◌<◌}
use native.Mathlib.Omega.{arith}
use borrow.Author.Tests.{ltb-true, ltb-false, lt-ltb, le-ltb}
use lib.Dec.{ltb}
use lib.ListN.{length}
use Rattle.access.specs.Record.{Shown}
use Rattle.alike.specs.Like.{forgetting}
use Rattle.errors.specs.AsTheRust.{end_as_the_rusts}
use Rattle.operations.specs.declared.operation.Direction.{Direction}
use Rattle.operations.specs.declared.operation.Direction.TheVariants.{Write, Read}
use Rattle.operations.specs.declared.operation.Operation.{Operation}
use Rattle.operations.specs.Operations.{direction_of, operation_of, operations_of}
use Rattle.operations.specs.Runs.{runs_of}
use Rattle.master.specs.Calls.{refusal, rust_with, ours_with}
use Rattle.images.specs.Numbers.{chip_of}
use Rattle.ch32_i2c.specs.Fed.{Makes}
use Rattle.ch32_i2c.specs.Demands.{entry_of, own_refusal, rust, ours, SameRuns, transactions}
use Rattle.ch32_i2c.proofs.Demands.{demand_2}
use Rattle.operation_bytes.specs.Encoded.{number_of, encoded}
use Rattle.operation_list.specs.Claims.{slice_call, slice_refusal, rust_of, ours_of, SliceIsTheList}
use Rattle.operation_bytes.proofs.EncodedLaws.{encoded_shaped, encoded_length}

-- ---- the bytes spell the operations

direction_back : (d : Direction) → direction_of (number_of d) ≡ d
direction_back Write = refl
direction_back Read = refl

operation_back : (o : Operation) → operation_of (number_of o.direction) (o.length % 256) (o.length / 256) ≡ o
operation_back o =
    let low : o.length % 256 + o.length / 256 * 256 ≡ o.length = omega arith in
    λ i. record { direction = direction_back o.direction i; length = low i }

spells_back : (os : List Operation) → operations_of (encoded os) ≡ os
unfolding operations_of encoded
spells_back [] = refl
spells_back (o ∷ os) = λ i. operation_back o i ∷ spells_back os i

-- ---- refusals

many_as : (n m : ℕ) → m ≡ 3 * n → ltb 768 m ≡ ltb 256 n
many_as n m e = go (ltb 256 n) refl
  where
    go : (t : Bool) → ltb 256 n ≡ t → ltb 768 m ≡ t
    go true h = let k : 256 < n = ltb-true 256 n h in lt-ltb 768 m (omega (arith, e, k))
    go false h = let k : n ≤ 256 = ltb-false 256 n h in le-ltb 768 m (omega (arith, e, k))

refuses_by : (chip address : ℕ) (os : List Operation) (written : List ℕ) (room : ℕ) → own_refusal (slice_call chip address os written) room ≡ slice_refusal address os (length written) room
unfolding refusal
refuses_by chip address os written room = rw (encoded_shaped os, many_as (length os) (length (encoded os)) (encoded_length os), spells_back os)

-- ---- ours and the Rust

ours_by : (turns chip address : ℕ) (os : List Operation) (written : List ℕ) (room : ℕ) (answers : List ℕ) → ours turns (slice_call chip address os written) room answers ≡ ours_of turns chip address os written answers
unfolding ours_with
ours_by turns chip address os written room answers = ap (λ (x : List Operation). ours_of turns chip address x written answers) (spells_back os)

rust_by : (turns chip address : ℕ) (os : List Operation) (written : List ℕ) (room : ℕ) (answers : List ℕ) → rust turns (slice_call chip address os written) room answers ≡ rust_of turns chip address os written answers
unfolding rust_with
rust_by turns chip address os written room answers = ap (λ (x : List Operation). rust_of turns chip address x written answers) (spells_back os)

-- ---- runs

runs_by : (chip address : ℕ) (os₁ os₂ : List Operation) (written₁ written₂ : List ℕ) (n m : ℕ) → runs_of os₁ ≡ runs_of os₂ → SameRuns (slice_call chip address os₁ written₁) n (slice_call chip address os₂ written₂) m
runs_by chip address os₁ os₂ written₁ written₂ n m e = transactions (ap runs_of (spells_back os₁) ∙ e ∙ ap runs_of (sym (spells_back os₂)))

pub slice_is_the_list : SliceIsTheList
slice_is_the_list = record {
  spells = spells_back;
  begins = λ chip address os written block bytes. refl;
  steps = λ chip address os written block bytes a. refl;
  refuses = refuses_by;
  same = λ chip address os written block bytes accepted turns answers h.
      subst (λ (s : Shown). Makes (entry_of (slice_call chip address os written)) block bytes answers s) (ours_by turns chip address os written (length bytes) answers) (demand_2.same (slice_call chip address os written) block bytes tt accepted turns answers h);
  as_the_rust = λ chip address os written turns answers.
      sym (rust_by turns chip address os written 0 answers)
      ∙ demand_2.as_the_rust (slice_call chip address os written) 0 turns answers
      ∙ ap (forgetting (end_as_the_rusts (chip_of chip) true)) (ours_by turns chip address os written 0 answers);
  runs = runs_by;
}
