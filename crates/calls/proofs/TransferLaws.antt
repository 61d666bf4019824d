-- Begin and step of a transfer by what they make of the block, in the words of the trait.
-- Assumes nothing.
use mathlib.Core.Path.{◌≡◌, refl, subst}
use mathlib.Core.Bool.{Bool, true, false, cond, not}
use mathlib.Core.List.{List, []}
use mathlib.Core.Option.{Option, none, some}
use Prim.Native.Nat.{ℕ}
use lib.ListN.{length}
use borrow.Author.Tests.{ne_eqb}
use Rattle.std.specs.Prelude as prelude
use Rattle.std.specs.Prelude.{Some, None, Result}
use Rattle.access.specs.declared.ending.Error.{Error}
use Rattle.access.specs.declared.ending.Error.TheVariants.{InvalidState}
use Rattle.access.specs.declared.need.Need.{Need}
use Rattle.access.specs.Machine.{is_end}
use Rattle.block.specs.Bytes32.{block_size}
use Rattle.master.specs.declared.state.State.{State}
use Rattle.images.specs.Numbers.{transaction_entry, write_read_entry, write_entry, read_entry}
use Rattle.master.specs.declared.call.Call.{Call}
use Rattle.master.specs.declared.call.Kind.TheVariants as kind
use Rattle.master.specs.Machine.{start}
use Rattle.master.specs.Calls.{shape_by, refusal_by}
use Rattle.master.specs.Steps.{fits_lent, need_of}
use Rattle.master_step.specs.Held.{Refuses}
use Rattle.master_call.specs.CallStep.{held_in, fitting_in, Stepped}
use Rattle.master_call.specs.CallBegin.{Begins, CallBegins}
use Rattle.call.specs.CallOn.{state_in, on_block, need_by, begun_by, begun, first_unless}
use Rattle.call.specs.OnBlock.{OnBlock, Does, owed_by, moved_by, step_on, refused}
use Rattle.call.proofs.CallLaws.{held_if}
use Rattle.calls.specs.declared.transfer.Partner.{Partner}
use Rattle.calls.specs.declared.transfer.Framed.{Framed}
use Rattle.calls.specs.Transfer.{master_held, fitting, transfer_on, first_state, transfer_call, called, framed, transaction_call, write_read_call, write_call, read_call}

module _ {Args : Type 0} (call_of : Args → Call) (list : List ℕ) (written room entry : ℕ) where
  abbrev on : OnBlock
  on = on_block (transfer_call list written room entry call_of)

  -- ---- begin

  module _ (x : Args) (b after : List ℕ) (n : Result Need Error) where
    pub record BeginsAs : Type 0 where
      pub need : n ≡ need_by (transfer_call list written room entry call_of) ((transfer_call list written room entry call_of).first x)
      pub block : after ≡ (begun (transfer_call list written room entry call_of) x b).block

    pub begins : (k : Call) → k ≡ call_of x → CallBegins k list written room b after n → BeginsAs
    unfolding CallBegins
    begins k e h =
        let g = go (refusal_by (call_of x).kind (call_of x).address list written room) (subst (λ (z : Call). CallBegins z list written room b after n) e h) in record { need = g.0; block = g.1 }
      where
        go : (o : Option Error) → Begins o (call_of x) (start (shape_by (call_of x) list written room)) b after n
            → (n ≡ need_by (transfer_call list written room entry call_of) (first_unless o (first_state list written room (call_of x)))) × (after ≡ (begun_by (transfer_call list written room entry call_of) (first_unless o (first_state list written room (call_of x))) b).block)
        go (some e) r = (r.cause, r.block)
        go none r = (r.owed, r.block)

  -- ---- step

  module _ (b : List ℕ) (a : ℕ) (after : List ℕ) (n : Need) where
    refused_is : Refuses b after n → Does (refused InvalidState b) n after
    refused_is r = record { need = r.ended; block = r.block }

    -- what a block is found to hold
    abbrev Done : prelude.Option State → Type 0
    Done f = Does (cond (not (is_end (owed_by on (state_in (fitting_in list written room f))))) (moved_by on (state_in (fitting_in list written room f)) b a) (refused InvalidState b)) n after

    found_steps : (f : prelude.Option State) → Stepped f list written room a b after n → Done f
    found_steps None r = refused_is r
    found_steps (Some s) r = go (fits_lent s list written room) (is_end (need_of s)) refl refl
      where
        go : (v w : Bool) → fits_lent s list written room ≡ v → is_end (need_of s) ≡ w → Done (Some s)
        go false w q e = rw q (refused_is (r.refused (rw q)))
        go true true q e = rw (q, e) (refused_is (r.refused (rw (q, e))))
        go true false q e =
            let m = r.taken (rw (q, e)) in
            rw (q, e) (record { need = m.owed; block = m.block })

    pub steps : Stepped (held_in entry b) list written room a b after n → Does (step_on on b a) n after
    unfolding step_on
    steps k = found_steps (held_in entry b) k

-- ---- call by call

module _ (b after : List ℕ) (n : Result Need Error) where
  pub transaction_begins : (list : List ℕ) (written room : ℕ) (x : Partner) → CallBegins (called x kind.Transaction) list written room b after n → BeginsAs (λ p. called p kind.Transaction) list written room transaction_entry x b after n
  transaction_begins list written room x h = begins (λ p. called p kind.Transaction) list written room transaction_entry x b after n _ refl h

  pub write_read_begins : (written room : ℕ) (x : Partner) → CallBegins (called x kind.WriteRead) [] written room b after n → BeginsAs (λ p. called p kind.WriteRead) [] written room write_read_entry x b after n
  write_read_begins written room x h = begins (λ p. called p kind.WriteRead) [] written room write_read_entry x b after n _ refl h

  pub write_begins : (written : ℕ) (x : Framed) → CallBegins (framed (λ o. kind.Write o) x) [] written 0 b after n → BeginsAs (framed (λ o. kind.Write o)) [] written 0 write_entry x b after n
  write_begins written x h = begins (framed (λ o. kind.Write o)) [] written 0 write_entry x b after n _ refl h

  pub read_begins : (room : ℕ) (x : Framed) → CallBegins (framed (λ o. kind.Read o) x) [] 0 room b after n → BeginsAs (framed (λ o. kind.Read o)) [] 0 room read_entry x b after n
  read_begins room x h = begins (framed (λ o. kind.Read o)) [] 0 room read_entry x b after n _ refl h

module _ (b : List ℕ) (a : ℕ) (after : List ℕ) (n : Need) where
  pub transaction_steps : (list : List ℕ) (written room : ℕ) → Stepped (held_in transaction_entry b) list written room a b after n → Does (step_on (on_block (transaction_call list written room)) b a) n after
  transaction_steps list written room k = steps (λ p. called p kind.Transaction) list written room transaction_entry b a after n k

  pub write_read_steps : (written room : ℕ) → Stepped (held_in write_read_entry b) [] written room a b after n → Does (step_on (on_block (write_read_call written room)) b a) n after
  write_read_steps written room k = steps (λ p. called p kind.WriteRead) [] written room write_read_entry b a after n k

  pub write_steps : (written : ℕ) → Stepped (held_in write_entry b) [] written 0 a b after n → Does (step_on (on_block (write_call written)) b a) n after
  write_steps written k = steps (framed (λ o. kind.Write o)) [] written 0 write_entry b a after n k

  pub read_steps : (room : ℕ) → Stepped (held_in read_entry b) [] 0 room a b after n → Does (step_on (on_block (read_call room)) b a) n after
  read_steps room k = steps (framed (λ o. kind.Read o)) [] 0 room read_entry b a after n k

-- ---- what is held, in the mathematics' option

pub same_fitting : (list : List ℕ) (written room : ℕ) (f : prelude.Option State) → state_in (fitting_in list written room f) ≡ fitting list written room f
same_fitting list written room None = refl
same_fitting list written room (Some s) = held_if (fits_lent s list written room) s

-- ---- a block of another length holds nothing

pub held_short : (list : List ℕ) (written room entry : ℕ) (b : List ℕ) → (length b ≡ block_size → ⊥) → (transfer_on list written room entry).held b ≡ none
unfolding master_held
held_short list written room entry b e = rw (ne_eqb (length b) block_size e)
