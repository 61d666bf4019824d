-- More than 256 operations are refused for their number, whatever they are: the first 257 say as much as all.
-- Assumes nothing.
use mathlib.Core.Path.{◌≡◌, refl, ap, sym, ◌∙◌}
use mathlib.Core.Bool.{Bool, true, false, cond, not}
use mathlib.Core.List.{List}
use mathlib.Core.Option.{none, some}
use Prim.Native.Nat.{ℕ, ◌*◌, ◌≤◌, ◌<◌}
use native.Mathlib.Omega.{arith}
use borrow.Author.Tests.{ltb-true, lt-ltb}
use lib.Dec.{ltb}
use lib.ListN.{length, take}
use lib.Seq.{length-take-le, take-length}
use Rattle.std.specs.Prelude.{Option, Some, None}
use Rattle.registers.specs.declared.chip.Chip.{Chip}
use Rattle.access.specs.declared.ending.Error.{Error}
use Rattle.access.specs.declared.ending.Error.TheVariants.{InvalidAddress, TooManyOperations, InvalidState}
use Rattle.access.specs.declared.need.Need.{Need}
use Rattle.access.specs.declared.need.Need.TheVariants as need
use Rattle.access.specs.Endings.{failed}
use Rattle.access.specs.Machine.{kept, is_end}
use Rattle.block.specs.Bytes32.{bytes_of}
use Rattle.images.specs.MasterImage.{master_fields}
use Rattle.operations.specs.declared.operation.Operation.{Operation}
use Rattle.operations.specs.Operations.{shaped}
use Rattle.master.specs.declared.call.Kind.{Kind}
use Rattle.master.specs.declared.call.Kind.TheVariants as kind
use Rattle.master.specs.declared.stage.Stage.{Stage}
use Rattle.master.specs.declared.state.Progress.{Progress}
use Rattle.master.specs.declared.state.State.{State}
use Rattle.master.specs.Calls.{lent_with, refuse, refusal_by}
use Rattle.master.specs.Steps.{fits_lent, need_of}
use Rattle.images.specs.Numbers.{transaction_entry}
use Rattle.call.specs.OnBlock.{owed_by, moved_by, refused, step_on, begin_on}
use Rattle.calls.specs.Transfer.{master_held, fitting, moved, transfer_on}
use Rattle.call.specs.Left.{Left, begin_left}
use Rattle.ch32_i2c.specs.Transfer.{call_of, master_begin, master_step, transaction_begin, transaction_step}
use Rattle.operation_bytes.specs.Encoded.{encoded, first257}
use Rattle.operation_bytes.proofs.EncodedLaws.{encoded_shaped, encoded_length}

abbrev state_of : Chip → ℕ → Kind → Stage → Progress → State
state_of chip address x stage progress = record { call = record { chip = chip; address = address; kind = x }; stage = stage; progress = progress }

-- operations, and too many
pub record Many (l : List ℕ) : Type 0 where
  pub shape : shaped l ≡ true
  pub many : ltb 768 (length l) ≡ true

-- the cause
abbrev cause : ℕ → Error
cause address = cond (ltb 127 address) InvalidAddress TooManyOperations

module _ (l : List ℕ) (h : Many l) (address written room : ℕ) where
  causes : refusal_by kind.Transaction address l written room ≡ some (cause address)
  causes = rw (h.shape, h.many) (go (ltb 127 address))
    where
      go : (t : Bool) → refuse t InvalidAddress (some TooManyOperations) ≡ some (cond t InvalidAddress TooManyOperations)
      go true = refl
      go false = refl

-- ---- begin

begin_many : (l m : List ℕ) → Many l → Many m → (unknown : Bool) (chip address : ℕ) (block written read : List ℕ)
    → master_begin unknown (call_of chip address kind.Transaction) block (lent_with l written (length read)) read ≡ master_begin unknown (call_of chip address kind.Transaction) block (lent_with m written (length read)) read
unfolding master_begin begin_on
begin_many l m hl hm unknown chip address block written read = rw (causes l hl address (length written) (length read), causes m hm address (length written) (length read))

-- ---- step

-- what a transaction's step leaves of a block in which this is found
abbrev found_left : List ℕ → Option State → List ℕ → List ℕ → List ℕ → ℕ → Left
found_left l g block written read a =
    let c = transfer_on l (length written) (length read) transaction_entry in
    let o = fitting l (length written) (length read) g in
    begin_left written (cond (not (is_end (owed_by c o))) (moved_by c o block a) (refused InvalidState block)) (kept (owed_by c o) a read)

-- the same by whether the state fits
abbrev left_if : Bool → Need → State → List ℕ → List ℕ → List ℕ → ℕ → Left
left_if fits n to block written read a =
    let owed = cond fits n (need.End (failed InvalidState)) in
    begin_left written (cond (not (is_end owed)) (cond fits (record { need = need_of to; block = bytes_of (master_fields to) }) (refused InvalidState block)) (refused InvalidState block)) (kept owed a read)

left_if_lem : (l : List ℕ) (s : State) (block written read : List ℕ) (a : ℕ)
    → found_left l (Some s) block written read a ≡ left_if (fits_lent s l (length written) (length read)) (need_of s) (moved l (length written) (length read) s a) block written read a
left_if_lem l s block written read a = go (fits_lent s l (length written) (length read))
  where
    go : (v : Bool)
        → (let c = transfer_on l (length written) (length read) transaction_entry in
        begin_left written (cond (not (is_end (owed_by c (cond v (some s) none)))) (moved_by c (cond v (some s) none) block a) (refused InvalidState block)) (kept (owed_by c (cond v (some s) none)) a read))
        ≡ left_if v (need_of s) (moved l (length written) (length read) s a) block written read a
    go true = refl
    go false = refl

module _ (chip : Chip) (address : ℕ) (stage : Stage) (progress : Progress) where
  -- a transaction's state does not fit
  never_fits : (l : List ℕ) → Many l → (written room : ℕ) → fits_lent (state_of chip address kind.Transaction stage progress) l written room ≡ false
  unfolding fits_lent
  never_fits l h written room = rw (causes l h address written room)

  module _ (l m : List ℕ) (hl : Many l) (hm : Many m) (block written read : List ℕ) (a : ℕ) where
    never_steps : found_left l (Some (state_of chip address kind.Transaction stage progress)) block written read a ≡ found_left m (Some (state_of chip address kind.Transaction stage progress)) block written read a
    never_steps = rw (never_fits l hl (length written) (length read), never_fits m hm (length written) (length read))

    -- and other calls are lent no list
    step_many : (x : Kind) → found_left l (Some (state_of chip address x stage progress)) block written read a ≡ found_left m (Some (state_of chip address x stage progress)) block written read a
    unfolding fits_lent
    step_many kind.Transaction = never_steps
    step_many kind.WriteRead = left_if_lem l (state_of chip address kind.WriteRead stage progress) block written read a ∙ sym (left_if_lem m (state_of chip address kind.WriteRead stage progress) block written read a)
    step_many (kind.Write f) = left_if_lem l (state_of chip address (kind.Write f) stage progress) block written read a ∙ sym (left_if_lem m (state_of chip address (kind.Write f) stage progress) block written read a)
    step_many (kind.Read f) = left_if_lem l (state_of chip address (kind.Read f) stage progress) block written read a ∙ sym (left_if_lem m (state_of chip address (kind.Read f) stage progress) block written read a)

held_many : (l m : List ℕ) → Many l → Many m → (g : Option State) (block written read : List ℕ) (a : ℕ) → found_left l g block written read a ≡ found_left m g block written read a
held_many l m hl hm (Some s) block written read a = step_many s.call.chip s.call.address s.stage s.progress l m hl hm block written read a s.call.kind
held_many l m hl hm None block written read a = refl

-- ---- the first 257 say as much as all

module _ {A : Type 0} (f : List ℕ → A) (alike : (l m : List ℕ) → Many l → Many m → f l ≡ f m) (os : List Operation) where
  many_encoded : (os : List Operation) → 257 ≤ length os → Many (encoded os)
  many_encoded os h = let e : length (encoded os) ≡ 3 * length os = encoded_length os in record { shape = encoded_shaped os; many = lt-ltb 768 (length (encoded os)) (omega (arith, e, h)) }

  first_alike : f (encoded (first257 os)) ≡ f (encoded os)
  unfolding first257
  first_alike = go (ltb 257 (length os)) refl
    where
      go : (t : Bool) → ltb 257 (length os) ≡ t → f (encoded (take (cond t 257 (length os)) os)) ≡ f (encoded os)
      go true e =
          let h : 257 < length os = ltb-true 257 (length os) e in
          let few : length (take 257 os) ≡ 257 = length-take-le 257 os (omega (arith, h)) in
          alike (encoded (take 257 os)) (encoded os) (many_encoded (take 257 os) (omega (arith, few))) (many_encoded os (omega (arith, h)))
      go false e = ap (λ (x : List Operation). f (encoded x)) (take-length os)

module _ (block : List ℕ) (os : List Operation) (written read : List ℕ) where
  pub begin_first : (chip address : ℕ) → transaction_begin block chip address (encoded (first257 os)) written read ≡ transaction_begin block chip address (encoded os) written read
  begin_first chip address = first_alike (λ (l : List ℕ). transaction_begin block chip address l written read) (λ l m hl hm. begin_many l m hl hm (ltb 3 chip) chip address block written read) os

  pub step_first : (a : ℕ) → transaction_step block (encoded (first257 os)) written read a ≡ transaction_step block (encoded os) written read a
  unfolding master_step step_on
  step_first a = first_alike (λ (l : List ℕ). transaction_step block l written read a) (λ l m hl hm. held_many l m hl hm (master_held transaction_entry block) block written read a) os
