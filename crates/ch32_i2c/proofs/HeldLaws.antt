-- A block that is the image of a state holds it.
-- Assumes nothing.
use mathlib.Core.Path.{◌≡◌, refl, ap, sym, ◌∙◌}
use mathlib.Core.Bool.{Bool, true, false, cond}
use mathlib.Core.List.{List}
use mathlib.Core.Option.{none}
use native.Mathlib.Omega.{arith}
use Prim.Native.Nat.{ℕ}
use lib.Dec.{eqb}
use lib.ListN.{length}
use borrow.Author.Tests.{eq-eqb}
use Rattle.block.specs.declared.fields.Fields.{Fields}
use Rattle.block.specs.Bytes32.{block_size, fields_of, bytes_of}
use Rattle.block.proofs.Codec.{said_back, image_length}
use Rattle.timing.specs.declared.init.State as init
use Rattle.master.specs.declared.state.State as master
use Rattle.slave.specs.declared.init.InitState.{InitState}
use Rattle.slave.specs.declared.state.State as slave
use Rattle.slave.specs.declared.state.Kind.{Kind}
use Rattle.slave_step.specs.Held.{held_in}
use Rattle.slave_step.proofs.LinkLaws.{held_kind, kind_back}
use Rattle.images.specs.InitImage.{init_fields, init_in}
use Rattle.images.specs.MasterImage.{master_fields, master_in}
use Rattle.images.specs.MasterImage as masterImage
use Rattle.images.specs.InitSlaveImage.{init_slave_fields, init_slave_in}
use Rattle.images.specs.SlaveImage.{slave_fields, slave_in}
use Rattle.images.specs.SlaveImage as slaveImage
use Rattle.images.proofs.InitImageLaws.{init_found}
use Rattle.images.proofs.MasterImageLaws.{master_found}
use Rattle.images.proofs.InitSlaveImageLaws.{init_slave_found}
use Rattle.images.proofs.SlaveImageLaws.{slave_found}
use Rattle.std.specs.Prelude.{Some, None}
use Rattle.calls.specs.Init.{init_held}
use Rattle.calls.specs.Init as initCall
use Rattle.calls.specs.InitSlave as initSlaveCall
use Rattle.slave.specs.Init.{init_refusal}
use Rattle.calls.specs.Transfer.{master_held}
use Rattle.calls.specs.InitSlave.{init_slave_held}
use Rattle.calls.specs.Response.{slave_held}

-- what a block of 32 bytes that says f is found to hold, and the same where the entry is asked first
held : {F : Type 0} (find : Fields → F) (nothing : F) (f : Fields) → cond (eqb (length (bytes_of f)) block_size) (find (fields_of (bytes_of f))) nothing ≡ find f
held find nothing f = ap (λ (n : ℕ). cond (eqb n block_size) (find (fields_of (bytes_of f))) nothing) (image_length f) ∙ ap find (said_back f)

asked : {F : Type 0} (find : Fields → F) (nothing : F) (f : Fields) (entry : ℕ) → f.entry ≡ entry → cond (eqb f.entry entry) (find f) nothing ≡ find f
asked find nothing f entry e = ap (λ (b : Bool). cond b (find f) nothing) (eq-eqb f.entry entry e)

-- where the divider is in range
pub init_held_lem : (s : init.State) → initCall.in_range s.timing ≡ true → init_held (bytes_of (init_fields s)) ≡ Some s
unfolding init_held
init_held_lem s g = held (λ (f : Fields). initCall.fitting (init_in f)) None (init_fields s) ∙ ap initCall.fitting (init_found s) ∙ rw g

-- where begin would take the configuration
pub init_slave_held_lem : (s : InitState) → init_refusal s.config ≡ none → init_slave_held (bytes_of (init_slave_fields s)) ≡ Some s
unfolding init_slave_held
init_slave_held_lem s g = held (λ (f : Fields). initSlaveCall.fitting (init_slave_in f)) None (init_slave_fields s) ∙ ap initSlaveCall.fitting (init_slave_found s) ∙ rw g

master_entry : (s : master.State) → (master_fields s).entry ≡ masterImage.kind_entry s.call.kind
unfolding master_fields
master_entry s = refl

pub master_held_lem : (s : master.State) → master_held (masterImage.kind_entry s.call.kind) (bytes_of (master_fields s)) ≡ Some s
unfolding master_held
master_held_lem s =
    held (λ (f : Fields). cond (eqb f.entry (masterImage.kind_entry s.call.kind)) (master_in f) None) None (master_fields s)
    ∙ asked master_in None (master_fields s) (masterImage.kind_entry s.call.kind) (master_entry s)
    ∙ master_found s

slave_entry : (s : slave.State) → (slave_fields s).entry ≡ slaveImage.kind_entry s.kind
unfolding slave_fields
slave_entry s = refl

pub slave_held_lem : (s : slave.State) → slave_held (slaveImage.kind_entry s.kind) (bytes_of (slave_fields s)) ≡ Some s
unfolding slave_held
slave_held_lem s =
    held (λ (f : Fields). cond (eqb f.entry (slaveImage.kind_entry s.kind)) (slave_in f) None) None (slave_fields s)
    ∙ asked slave_in None (slave_fields s) (slaveImage.kind_entry s.kind) (slave_entry s)
    ∙ slave_found s

-- what is found in a block of a kind's entry is of that kind
pub slave_kind : (x : Kind) (b : List ℕ) (s : slave.State) → slave_held (slaveImage.kind_entry x) b ≡ Some s → s.kind ≡ x
unfolding slave_held held_in
slave_kind x b s e = go (eqb (length b) block_size) e
  where
    go : (t : Bool) → cond t (cond (eqb (fields_of b).entry (slaveImage.kind_entry x)) (slave_in (fields_of b)) None) None ≡ Some s → s.kind ≡ x
    go true q = sym (held_kind (slaveImage.kind_entry x) b s q) ∙ kind_back x
    go false q = let z : ◌≡◌ {A = ℕ} 0 1 = cc in absurd (omega arith)
