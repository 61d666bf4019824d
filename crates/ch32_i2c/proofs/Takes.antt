-- The image of a state that fits is taken by a step exactly if the state has not ended.
-- Assumes nothing.
use mathlib.Core.Path.{◌≡◌, refl, ap, ◌∙◌}
use mathlib.Core.Bool.{Bool, not}
use mathlib.Core.List.{List}
use mathlib.Core.Option.{none}
use Prim.Native.Nat.{ℕ}
use lib.ListN.{length}
use Rattle.std.specs.Prelude.{Option, Some}
use Rattle.registers.specs.declared.chip.Chip.{Chip}
use Rattle.access.specs.Machine.{is_end}
use Rattle.timing.specs.declared.init.State as timingState
use Rattle.timing.specs.Machine as init_machine
use Rattle.master.specs.declared.state.State.{State}
use Rattle.master.specs.declared.call.Call.{Call}
use Rattle.master.specs.declared.state.Move.{Move}
use Rattle.master.specs.Machine.{owed}
use Rattle.master.specs.Calls.{Lent, lent_with, refusal, shape_of}
use Rattle.master.specs.Steps.{state_at}
use Rattle.slave.specs.declared.state.State as slaveState
use Rattle.slave.specs.declared.init.InitState.{InitState}
use Rattle.slave.specs.declared.state.Kind as slave
use Rattle.slave.specs.Init as initSlaveMachine
use Rattle.slave.specs.Machine as slaveMachine
use Rattle.slave.specs.Calls.{SlaveLent}
use Rattle.slave.specs.Calls as slaveCalls
use Rattle.slave.specs.Steps as slaveSteps
use Rattle.slave_driver.specs.Lent as slaveLent
use Rattle.images.specs.MasterImage.{kind_entry}
use Rattle.images.specs.SlaveImage as slaveImage
use Rattle.calls.specs.Init.{init_held}
use Rattle.calls.specs.Transfer.{master_held}
use Rattle.calls.specs.InitSlave.{init_slave_held}
use Rattle.calls.specs.Response.{slave_held}
use Rattle.ch32_i2c.specs.Demands.{takes_init, takes_transfer, takes_init_slave, takes_response}
use Rattle.ch32_i2c.proofs.HeldLaws.{init_held_lem, master_held_lem, init_slave_held_lem, slave_held_lem}
use Rattle.ch32_i2c.proofs.InitCarried.{InitFit, init_image, InitSlaveFit, init_slave_image}
use Rattle.ch32_i2c.proofs.TransferCarried as transfer
use Rattle.ch32_i2c.proofs.ResponseCarried as response

-- whether a step of a transfer, and of a slave call, takes a block and the bytes to read into
abbrev pub transfer_takes : Call → Lent → List ℕ → List ℕ → Bool
transfer_takes c l block bytes = takes_transfer (master_held (kind_entry c.kind) block) (lent_with l.list l.written (length bytes))

abbrev pub response_takes : slave.Kind → SlaveLent → List ℕ → List ℕ → Bool
response_takes x l block bytes = takes_response (slave_held (slaveImage.kind_entry x) block) (slaveLent.lent_with l.reply (length bytes))

abbrev pub init_takes : List ℕ → List ℕ → Bool
init_takes block bytes = takes_init (init_held block)

abbrev pub init_slave_takes : List ℕ → List ℕ → Bool
init_slave_takes block bytes = takes_init_slave (init_slave_held block)

pub transfer_takes_lem : (c : Call) (l : Lent) → refusal c l ≡ none → (m : Move) (r : List ℕ) → transfer.Fit c l m → length r ≡ l.room → transfer_takes c l (transfer.image_of c l m) r ≡ not (is_end (owed (shape_of c l) m))
transfer_takes_lem c l accepted m r g e =
    ap (λ (f : Option State). takes_transfer f (lent_with l.list l.written (length r))) (master_held_lem (state_at c m))
    ∙ ap (λ (n : ℕ). takes_transfer (Some (state_at c m)) (lent_with l.list l.written n)) e
    ∙ transfer.open_at c l accepted m g (is_end (owed (shape_of c l) m)) refl

pub response_takes_lem : (chip : Chip) (x : slave.Kind) (l : SlaveLent) → slaveCalls.Accepted x l → (m : (slaveMachine.slave (slaveCalls.setting_of chip x l)).State) (r : List ℕ) → response.Fit chip x l m → length r ≡ l.room
    → response_takes x l (response.image_of chip x l m) r ≡ not (is_end (slaveMachine.owed (slaveCalls.setting_of chip x l) m))
response_takes_lem chip x l accepted m r g e =
    ap (λ (f : Option slaveState.State). takes_response f (slaveLent.lent_with l.reply (length r))) (slave_held_lem (slaveSteps.state_at (slaveCalls.setting_of chip x l) m))
    ∙ ap (λ (n : ℕ). takes_response (Some (slaveSteps.state_at (slaveCalls.setting_of chip x l) m)) (slaveLent.lent_with l.reply n)) e
    ∙ response.open_at chip x l accepted m g (is_end (slaveMachine.owed (slaveCalls.setting_of chip x l) m)) refl

pub init_takes_lem : (s : timingState.State) (r : List ℕ) → InitFit s → init_takes (init_image s) r ≡ not (is_end (init_machine.owed s))
init_takes_lem s r g = ap takes_init (init_held_lem s g)

pub init_slave_takes_lem : (s : InitState) (r : List ℕ) → InitSlaveFit s → init_slave_takes (init_slave_image s) r ≡ not (is_end (initSlaveMachine.owed s))
init_slave_takes_lem s r g = ap takes_init_slave (init_slave_held_lem s g)
