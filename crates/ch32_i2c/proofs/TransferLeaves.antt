-- What begin and step of a transfer leave, in the words of the edge that all calls share.
-- Assumes nothing.
use mathlib.Core.Path.{◌≡◌, refl, ap}
use mathlib.Core.Bool.{Bool, true, false, cond, ◌||◌}
use mathlib.Core.List.{List, []}
use mathlib.Core.Option as maybe
use Prim.Native.Nat.{ℕ}
use lib.Dec.{eqb, ltb}
use lib.ListN.{length}
use Rattle.std.specs.Prelude.{Option, None}
use Rattle.access.specs.declared.ending.Error.{Error}
use Rattle.block.specs.Bytes32.{block_size}
use Rattle.images.specs.Numbers.{transaction_entry, write_read_entry, write_entry, read_entry}
use Rattle.images.specs.MasterImage.{kind_entry}
use Rattle.master.specs.declared.call.Call.{Call}
use Rattle.master.specs.declared.call.Kind.TheVariants as kind
use Rattle.master.specs.Calls.{refusal_by}
use Rattle.master_call.specs.CallStep.{held_in, fitting_in}
use Rattle.call.specs.OnBlock.{After, standing, begin_by}
use Rattle.call.specs.CallOn.{state_in, begun_by, first_unless}
use Rattle.call.specs.Edge.{in_block, begin_at, known}
use Rattle.call.specs.Left.{begin_left, step_left}
use Rattle.call.proofs.CallLaws.{begin_as, step_as}
use Rattle.calls.specs.declared.transfer.Partner.{Partner}
use Rattle.calls.specs.Transfer.{master_held, fitting, first_state, transfer_on, transfer_begin, transfer_call, called, framed, transaction_call, write_read_call, write_call, read_call}
use Rattle.calls.proofs.TransferLaws.{same_fitting}
use Rattle.ch32_i2c.specs.Transfer as entry
use Rattle.ch32_i2c.specs.Transfer.{partner_of, framed_of, master_begin, master_step}

module _ {Args : Type 0} (call_of : Args → Call) (list : List ℕ) (written room n : ℕ) where
  begin_at_is : (unknown : Bool) (x : Args) (b : List ℕ) → begin_at (transfer_call list written room n call_of) (known unknown x) b ≡ transfer_begin list written room unknown (call_of x) b
  begin_at_is unknown x b =
      begin_as (transfer_call list written room n call_of) unknown x b (refusal_by (call_of x).kind (call_of x).address list written room)
      (standing (transfer_on list written room (kind_entry (call_of x).kind)) (first_state list written room (call_of x))) (go (refusal_by (call_of x).kind (call_of x).address list written room))
    where
      go : (o : maybe.Option Error) → begun_by (transfer_call list written room n call_of) (first_unless o (first_state list written room (call_of x))) b
          ≡ begin_by o b (standing (transfer_on list written room (kind_entry (call_of x).kind)) (first_state list written room (call_of x)))
      go maybe.none = refl
      go (maybe.some e) = refl

  held_is : (b : List ℕ) → (in_block (transfer_call list written room n call_of)).held b ≡ fitting list written room (master_held n b)
  unfolding master_held held_in
  held_is b = go (eqb (length b) block_size)
    where
      go : (t : Bool) → state_in (cond t (fitting_in list written room (held_in n b)) None) ≡ fitting list written room (cond t (held_in n b) None)
      go true = same_fitting list written room (held_in n b)
      go false = refl

  step_is : (bytes b r : List ℕ) (a : ℕ) → step_left (in_block (transfer_call list written room n call_of)) bytes b r a ≡ step_left (transfer_on list written room n) bytes b r a
  step_is bytes b r a = step_as (transfer_call list written room n call_of) (λ b. fitting list written room (master_held n b)) bytes b r a (held_is b)

-- ---- begin, entry by entry

pub transaction_begun : (chip address : ℕ) (list written r b : List ℕ)
    → begin_left written (begin_at (transaction_call list (length written) (length r)) (known (ltb 3 chip) (partner_of chip address)) b) r ≡ entry.transaction_begin b chip address list written r
unfolding master_begin
transaction_begun chip address list written r b =
    ap (λ (x : After). begin_left written x r) (begin_at_is (λ p. called p kind.Transaction) list (length written) (length r) transaction_entry (ltb 3 chip) (partner_of chip address) b)

pub write_read_begun : (chip address : ℕ) (written r b : List ℕ)
    → begin_left written (begin_at (write_read_call (length written) (length r)) (known (ltb 3 chip) (partner_of chip address)) b) r ≡ entry.write_read_begin b chip address written r
unfolding master_begin
write_read_begun chip address written r b =
    ap (λ (x : After). begin_left written x r) (begin_at_is (λ p. called p kind.WriteRead) [] (length written) (length r) write_read_entry (ltb 3 chip) (partner_of chip address) b)

pub write_begun : (chip address option : ℕ) (written b : List ℕ) → begin_left written (begin_at (write_call (length written)) (known (ltb 3 chip || ltb 5 option) (framed_of chip address option)) b) [] ≡ entry.write_begin b chip address option written
unfolding master_begin
write_begun chip address option written b = ap (λ (x : After). begin_left written x []) (begin_at_is (framed (λ o. kind.Write o)) [] (length written) 0 write_entry (ltb 3 chip || ltb 5 option) (framed_of chip address option) b)

pub read_begun : (chip address option : ℕ) (r b : List ℕ) → begin_left [] (begin_at (read_call (length r)) (known (ltb 3 chip || ltb 5 option) (framed_of chip address option)) b) r ≡ entry.read_begin b chip address option r
unfolding master_begin
read_begun chip address option r b = ap (λ (x : After). begin_left [] x r) (begin_at_is (framed (λ o. kind.Read o)) [] 0 (length r) read_entry (ltb 3 chip || ltb 5 option) (framed_of chip address option) b)

-- ---- step, entry by entry

pub transaction_stepped : (list written b r : List ℕ) (a : ℕ) → step_left (in_block (transaction_call list (length written) (length r))) written b r a ≡ entry.transaction_step b list written r a
unfolding master_step
transaction_stepped list written b r a = step_is (λ (p : Partner). called p kind.Transaction) list (length written) (length r) transaction_entry written b r a

pub write_read_stepped : (written b r : List ℕ) (a : ℕ) → step_left (in_block (write_read_call (length written) (length r))) written b r a ≡ entry.write_read_step b written r a
unfolding master_step
write_read_stepped written b r a = step_is (λ (p : Partner). called p kind.WriteRead) [] (length written) (length r) write_read_entry written b r a

pub write_stepped : (written b : List ℕ) (a : ℕ) → step_left (in_block (write_call (length written))) written b [] a ≡ entry.write_step b written a
unfolding master_step
write_stepped written b a = step_is (framed (λ o. kind.Write o)) [] (length written) 0 write_entry written b [] a

pub read_stepped : (b r : List ℕ) (a : ℕ) → step_left (in_block (read_call (length r))) [] b r a ≡ entry.read_step b r a
unfolding master_step
read_stepped b r a = step_is (framed (λ o. kind.Read o)) [] 0 (length r) read_entry [] b r a
