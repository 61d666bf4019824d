-- The laws of calls. Of `init` and `init_slave` a state stands in its block exactly if begin could have left it, and begin and each move lead to such.
-- (By lemmas of the crates below: a file of specs names no proof of its own crate.)
use Rattle.std.specs.Prelude.{◌≡◌, ℕ, Bool, true, cond, List, [], Some, None, refl}
use Rattle.std.proofs.Common.{ap, sym, ◌∙◌}
use Rattle.std.proofs.Math.Option as maybe
use Rattle.access.specs.declared.ending.Error.{Error}
use Rattle.block.specs.declared.fields.Fields.{Fields}
use Rattle.block.proofs.Codec.{said_back}
use Rattle.timing.specs.declared.init.State.{State}
use Rattle.timing.specs.Rust.{timing}
use Rattle.timing.specs.Machine as init
use Rattle.timing.proofs.InRange.{settled_range}
use Rattle.timing.proofs.SettingsStay.{settings_stay}
use Rattle.slave.specs.declared.init.InitState.{InitState}
use Rattle.slave.specs.Init as slave
use Rattle.slave_driver.specs.Validated.{validated}
use Rattle.slave_driver.proofs.ConfigStays.{config_stays, config_valid}
use Rattle.images.specs.InitImage.{init_fields, init_in}
use Rattle.images.specs.InitSlaveImage.{init_slave_fields, init_slave_in}
use Rattle.images.proofs.InitImageLaws.{init_found}
use Rattle.images.proofs.InitSlaveImageLaws.{init_slave_found}
use Rattle.call.specs.CallOn.{IsCall, Stands, unless}
use Rattle.call.specs.Kept.{GoesOn}
use Rattle.call.proofs.Standing.{found_if, found_unless, first_has, first_then}
use Rattle.calls.specs.Init.{in_range, init_call}
use Rattle.calls.specs.Init as initCall
use Rattle.calls.specs.InitSlave.{init_slave_call}
use Rattle.calls.specs.Response.{first_state, response_call}
use Rattle.images.specs.Numbers.{chip_of}
use Rattle.slave.specs.declared.state.Kind.{Kind}
use Rattle.slave.specs.Calls.{size_refusal}
use Rattle.slave_step.proofs.StandLaws.{first_stands, moved_stands}
use Rattle.slave_step.proofs.StandLaws.{keeps_on as slave_keeps_on}
use Rattle.master.specs.declared.call.Call.{Call}
use Rattle.master.specs.declared.call.Kind.TheVariants as kind
use Rattle.master.specs.Calls.{refusal_by}
use Rattle.images.specs.Numbers.{transaction_entry, write_read_entry, write_entry, read_entry}
use Rattle.images.specs.MasterImage.{kind_entry}
use Rattle.master_call.proofs.StandLaws as master
use Rattle.calls.specs.Transfer.{transfer_call, called, framed, transaction_call, write_read_call, write_call, read_call}
use Rattle.calls.specs.Transfer as transfer
use Rattle.calls.specs.InitSlave as initSlaveCall

-- ---- init

init_block : (s : State) → init_call.held (init_call.image s) ≡ cond (in_range s.timing) (Some s) None
init_block s = ap (λ (f : Fields). initCall.fitting (init_in f)) (said_back (init_fields s)) ∙ ap initCall.fitting (init_found s)

pub init_stands : (s : State) → in_range s.timing ≡ true → Stands init_call s
init_stands s g = init_block s ∙ ap (λ (t : Bool). cond t (Some s) None) g

pub init_laws : IsCall init_call
init_laws = record {
  begins = λ x s e.
      first_has (Stands init_call) (init.started x.chip) (timing x.chip x.input x.frequency x.duty) s
      (λ t q. init_stands (init.started x.chip t) (settled_range x.chip x.input x.frequency x.duty t q)) e;
  moves = λ s a h. init_stands (init.advance s a) (ap in_range (settings_stay s a) ∙ found_if (in_range s.timing) s (sym (init_block s) ∙ h));
}

-- ---- init_slave

init_slave_block : (s : InitState) → init_slave_call.held (init_slave_call.image s) ≡ unless (slave.init_refusal s.config) s
init_slave_block s = ap (λ (f : Fields). initSlaveCall.fitting (init_slave_in f)) (said_back (init_slave_fields s)) ∙ ap initSlaveCall.fitting (init_slave_found s)

pub init_slave_stands : (s : InitState) → slave.init_refusal s.config ≡ maybe.none → Stands init_slave_call s
init_slave_stands s g = init_slave_block s ∙ ap (λ (o : maybe.Option Error). unless o s) g

pub init_slave_laws : IsCall init_slave_call
init_slave_laws = record {
  begins = λ x s e.
      first_has (Stands init_slave_call) (λ _. slave.started x) (validated x) s
      (λ t q. init_slave_stands (slave.started x) (config_valid x (sym q))) e;
  moves = λ s a h. init_slave_stands (slave.advance s a) (ap slave.init_refusal (config_stays s a) ∙ found_unless (slave.init_refusal s.config) s (sym (init_slave_block s) ∙ h));
}

-- ---- slave calls

pub response_laws : (size : ℕ) (x : Kind) → IsCall (response_call size x)
response_laws size x = record {
  begins = λ chip s e.
      first_then (Stands (response_call size x)) (size_refusal size) (first_state size (chip_of chip) x) s
      (λ q. first_stands x size (chip_of chip) q) e;
  moves = λ s a h. moved_stands x size s a h;
}

pub response_goes_on : (size : ℕ) (x : Kind) → GoesOn (response_call size x)
response_goes_on size x = λ b s p a h k q. slave_keeps_on x size b s p a h k q

-- ---- transfers

module _ (list : List ℕ) (written room : ℕ) where
  transfer_laws : {Args : Type 0} (entry : ℕ) (call_of : Args → Call) → ((x : Args) → kind_entry (call_of x).kind ≡ entry) → IsCall (transfer_call list written room entry call_of)
  transfer_laws entry call_of own = record {
    begins = λ x s e.
        first_then (Stands (transfer_call list written room entry call_of)) (refusal_by (call_of x).kind (call_of x).address list written room) (transfer.first_state list written room (call_of x)) s
        (λ q. master.first_stands entry list written room (call_of x) (own x) q) e;
    moves = λ s a h. master.moved_stands entry list written room s a h;
  }

  transfer_goes_on : {Args : Type 0} (entry : ℕ) (call_of : Args → Call) → GoesOn (transfer_call list written room entry call_of)
  transfer_goes_on entry call_of = λ b s p a h k q. master.keeps_on entry list written room b s p a h k q

pub transaction_laws : (list : List ℕ) (written room : ℕ) → IsCall (transaction_call list written room)
transaction_laws list written room = transfer_laws list written room transaction_entry (λ p. called p kind.Transaction) (λ p. refl)

pub transaction_goes_on : (list : List ℕ) (written room : ℕ) → GoesOn (transaction_call list written room)
transaction_goes_on list written room = transfer_goes_on list written room transaction_entry (λ p. called p kind.Transaction)

pub write_read_laws : (written room : ℕ) → IsCall (write_read_call written room)
write_read_laws written room = transfer_laws [] written room write_read_entry (λ p. called p kind.WriteRead) (λ p. refl)

pub write_read_goes_on : (written room : ℕ) → GoesOn (write_read_call written room)
write_read_goes_on written room = transfer_goes_on [] written room write_read_entry (λ p. called p kind.WriteRead)

pub write_laws : (written : ℕ) → IsCall (write_call written)
write_laws written = transfer_laws [] written 0 write_entry (framed (λ o. kind.Write o)) (λ f. refl)

pub read_laws : (room : ℕ) → IsCall (read_call room)
read_laws room = transfer_laws [] 0 room read_entry (framed (λ o. kind.Read o)) (λ f. refl)

pub read_goes_on : (room : ℕ) → GoesOn (read_call room)
read_goes_on room = transfer_goes_on [] 0 room read_entry (framed (λ o. kind.Read o))
