-- Transactions, write-reads and frames on their blocks.
use Rattle.std.specs.Prelude as prelude
use Rattle.std.specs.Prelude.{Bool, cond, List, [], ℕ, eqb, length, Some, None}
use Rattle.std.proofs.Math.Option.{Option, none, some}
use Rattle.block.specs.Bytes32.{block_size, fields_of, bytes_of}
use Rattle.images.specs.MasterImage.{kind_entry, master_fields, master_in}
use Rattle.access.specs.Machine.{Machine}
use Rattle.master.specs.declared.call.Call.{Call}
use Rattle.master.specs.declared.state.State.{State}
use Rattle.master.specs.Machine.{advance_at, run_of, start}
use Rattle.master.specs.Calls.{setting_of, shape_by, refusal_by}
use Rattle.master.specs.Steps.{state_at, need_of, fits_lent}
use Rattle.master.specs.declared.call.FrameOptions.{FrameOptions}
use Rattle.master.specs.declared.call.Kind.{Kind}
use Rattle.master.specs.declared.call.Kind.TheVariants as kind
use Rattle.images.specs.Numbers.{transaction_entry, write_read_entry, write_entry, read_entry}
use Rattle.master_call.specs.CallStep.{held_in, fitting_in}
use Rattle.call.specs.CallOn.{CallOn, first_unless}
use Rattle.call.specs.OnBlock.{After, OnBlock, standing, begin_on}
use Rattle.calls.specs.declared.transfer.Partner.{Partner}
use Rattle.calls.specs.declared.transfer.Framed.{Framed}

-- the state that a block holds of an entry's call
unfoldable pub master_held : ℕ → List ℕ → prelude.Option State
master_held entry block = cond (eqb (length block) block_size) (cond (eqb (fields_of block).entry entry) (master_in (fields_of block)) None) None

-- with this list, and so many bytes to write and to read
module _ (list : List ℕ) (written room : ℕ) where
  abbrev pub moved : State → ℕ → State
  moved s a = state_at s.call (advance_at (setting_of s.call) (run_of (shape_by s.call list written room) s.progress.run) s.stage s.progress a)

  abbrev pub fitting : prelude.Option State → Option State
  fitting (Some s) = cond (fits_lent s list written room) (some s) none
  fitting None = none

  abbrev pub transfer_machine : Machine
  transfer_machine = record { State = State; need = need_of; move = moved }

  -- the transfers of an entry
  abbrev pub transfer_on : ℕ → OnBlock
  transfer_on entry = record { machine = transfer_machine; image = λ s. bytes_of (master_fields s); held = λ b. fitting (master_held entry b) }

  -- where a call begins
  abbrev pub first_state : Call → State
  first_state c = state_at c (start (shape_by c list written room))

  abbrev pub transfer_begin : Bool → Call → List ℕ → After
  transfer_begin unknown c b = begin_on unknown (refusal_by c.kind c.address list written room) b (standing (transfer_on (kind_entry c.kind)) (first_state c))

  -- by its types, for the calls that x means
  abbrev pub transfer_call : {Args : Type 0} → ℕ → (Args → Call) → CallOn Args State (List ℕ)
  transfer_call entry call_of =
      record {
        need = need_of;
        move = moved;
        image = λ s. bytes_of (master_fields s);
        held = λ b. fitting_in list written room (held_in entry b);
        first = λ x. first_unless (refusal_by (call_of x).kind (call_of x).address list written room) (first_state (call_of x));
      }

-- ---- the calls, by what is lent for them

-- a call with a partner, and a frame's
abbrev pub called : Partner → Kind → Call
called p x = record { chip = p.chip; address = p.address; kind = x }

abbrev pub framed : (FrameOptions → Kind) → Framed → Call
framed x f = called f.partner (x f.options)

abbrev pub transaction_call : List ℕ → ℕ → ℕ → CallOn Partner State (List ℕ)
transaction_call list written room = transfer_call list written room transaction_entry (λ p. called p kind.Transaction)

abbrev pub write_read_call : ℕ → ℕ → CallOn Partner State (List ℕ)
write_read_call written room = transfer_call [] written room write_read_entry (λ p. called p kind.WriteRead)

abbrev pub write_call : ℕ → CallOn Framed State (List ℕ)
write_call written = transfer_call [] written 0 write_entry (framed (λ o. kind.Write o))

abbrev pub read_call : ℕ → CallOn Framed State (List ℕ)
read_call room = transfer_call [] 0 room read_entry (framed (λ o. kind.Read o))
