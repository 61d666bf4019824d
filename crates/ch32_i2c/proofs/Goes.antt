-- A step that is taken does not answer 15.
-- Assumes nothing.
use mathlib.Core.Path.{◌≡◌, refl, ap, sym, subst, ◌∙◌}
use mathlib.Core.Bool.{Bool, true, false, not, true≢false}
use mathlib.Core.List.{List, []}
use mathlib.Core.Option.{Option, none, some}
use Prim.Native.Nat.{ℕ}
use native.Mathlib.Omega.{arith}
use lib.Dec.{leb}
use lib.ListN.{length}
use borrow.Author.Tests.{not-true}
use Rattle.std.specs.Prelude as prelude
use Rattle.access.specs.declared.ending.Error.{Error}
use Rattle.access.specs.declared.ending.Error.TheVariants.{InvalidState}
use Rattle.access.specs.declared.need.Need.{Need}
use Rattle.access.specs.declared.need.Need.TheVariants as need
use Rattle.access.specs.declared.next.Next.{Next}
use Rattle.access.specs.declared.next.Next.TheVariants as next
use Rattle.access.specs.Endings.{Ending, failed}
use Rattle.errors.proofs.MetLaws.{unchecked_met}
use Rattle.access.specs.Machine.{filled, is_end}
use Rattle.access.proofs.Choice.{first_true, second_true}
use Rattle.timing.specs.Machine as init_machine
use Rattle.master.specs.declared.state.State as master
use Rattle.master.specs.Machine.{owed, advance}
use Rattle.master.specs.Fits.{fits}
use Rattle.master.specs.Calls.{Lent, lent_with, refusal_by, refusal, shape_of}
use Rattle.master.specs.Steps as masterSteps
use Rattle.master.proofs.AcceptedFits.{states_fit}
use Rattle.slave.specs.declared.state.State as slave
use Rattle.slave.specs.Init as initSlaveMachine
use Rattle.slave.specs.Machine as slaveMachine
use Rattle.slave.specs.Fits as slaveFit
use Rattle.slave.specs.Calls.{SlaveLent, size_of}
use Rattle.slave.specs.Steps as slaveSteps
use Rattle.slave.proofs.FitsKept as slaveFits
use Rattle.slave.specs.declared.state.Kind.{Kind}
use Rattle.images.specs.SlaveImage.{kind_entry}
use Rattle.call.specs.OnBlock.{OnBlock, step_on}
use Rattle.calls.specs.Init as onInit
use Rattle.calls.specs.Transfer as onTransfer
use Rattle.calls.specs.InitSlave as onInitSlave
use Rattle.calls.specs.Response as onResponse
use Rattle.call.specs.Left.{step_left}
use Rattle.ch32_i2c.specs.Init as init
use Rattle.ch32_i2c.specs.Transfer as transfer
use Rattle.ch32_i2c.specs.InitSlave as init_slave
use Rattle.ch32_i2c.specs.Demands.{takes_init, takes_transfer, takes_init_slave, takes_response}
use Rattle.ch32_i2c.proofs.HeldLaws.{slave_kind}
use Rattle.ch32_i2c.specs.Demands.{init_ends, transfer_ends, response_ends}
use Rattle.ch32_i2c.proofs.MetEnds.{MetNeed}
use Rattle.ch32_i2c.proofs.TransferMet.{transfer_met}
use Rattle.ch32_i2c.proofs.ResponseMet.{response_met}
use Rattle.ch32_i2c.proofs.CallsRun.{init_met, init_slave_met}
use Rattle.std.specs.Prelude.{Some, None}
use Rattle.timing.specs.declared.init.State as initState
use Rattle.slave.specs.declared.init.InitState.{InitState}
use Rattle.call.specs.CallOn.{state_in}

-- what is handed out is 15
abbrev pub Is15 : Next → Type 0
Is15 n = n ≡ next.End (failed InvalidState)

-- ends that a call can have, and 15 is none of them
met_other : (can : Ending → Bool) → can (failed InvalidState) ≡ false → (bytes : List ℕ) (n : Need) → MetNeed can n → Is15 (filled bytes n) → ⊥
met_other can never bytes (need.Read r) p q = let z : ◌≡◌ {A = ℕ} 0 1 = cc in omega arith
met_other can never bytes (need.Write r v) p q = let z : ◌≡◌ {A = ℕ} 0 1 = cc in omega arith
met_other can never bytes need.Clock p q = let z : ◌≡◌ {A = ℕ} 0 1 = cc in omega arith
met_other can never bytes (need.Send x) p q = let z : ◌≡◌ {A = ℕ} 0 1 = cc in omega arith
met_other can never bytes (need.Keep x) p q = let z : ◌≡◌ {A = ℕ} 0 1 = cc in omega arith
met_other can never bytes need.Drop p q = let z : ◌≡◌ {A = ℕ} 0 1 = cc in omega arith
met_other can never bytes (need.End e) p q = let z : e ≡ failed InvalidState = cc in true≢false (sym p ∙ ap can z ∙ never)

-- what a step hands out that is taken
next_is : (c : OnBlock) (bytes b r : List ℕ) (a : ℕ) (s : c.machine.State) → c.held b ≡ some s → is_end (c.machine.need s) ≡ false → (step_left c bytes b r a).next ≡ filled bytes (c.machine.need (c.machine.move s a))
unfolding step_on
next_is c bytes b r a s e t = rw (e, t)

init_goes_at : (f : prelude.Option initState.State) (b : List ℕ) (a : ℕ) → onInit.init_held b ≡ f → takes_init f ≡ true → Is15 (init.init_step b a).next → ⊥
unfolding init.init_step
init_goes_at None b a e t q = true≢false (sym t)
init_goes_at (Some s) b a e t q =
    met_other init_ends refl [] (init_machine.owed (init_machine.advance s a)) (init_met (init_machine.advance s a)) (sym (next_is onInit.init_on [] b [] a s (ap state_in e) (not-true (is_end (init_machine.owed s)) t)) ∙ q)

pub init_goes : (b : List ℕ) (a : ℕ) → takes_init (onInit.init_held b) ≡ true → Is15 (init.init_step b a).next → ⊥
init_goes b a t q = init_goes_at (onInit.init_held b) b a refl t q

init_slave_goes_at : (f : prelude.Option InitState) (b : List ℕ) (a : ℕ) → onInitSlave.init_slave_held b ≡ f → takes_init_slave f ≡ true → Is15 (init_slave.init_slave_step b a).next → ⊥
unfolding init_slave.init_slave_step
init_slave_goes_at None b a e t q = true≢false (sym t)
init_slave_goes_at (Some s) b a e t q =
    met_other init_ends refl [] (initSlaveMachine.owed (initSlaveMachine.advance s a)) (init_slave_met (initSlaveMachine.advance s a)) (sym (next_is onInitSlave.init_slave_on [] b [] a s (ap state_in e) (not-true (is_end (initSlaveMachine.owed s)) t)) ∙ q)

pub init_slave_goes : (b : List ℕ) (a : ℕ) → takes_init_slave (onInitSlave.init_slave_held b) ≡ true → Is15 (init_slave.init_slave_step b a).next → ⊥
init_slave_goes b a t q = init_slave_goes_at (onInitSlave.init_slave_held b) b a refl t q

is_none_lem : (o : Option Error) → masterSteps.is_none o ≡ true → o ≡ none
is_none_lem none q = refl
is_none_lem (some e) q = absurd (true≢false (sym q))

-- an open state is of an accepted call, and fits
open_accepted : (s : master.State) (l : Lent) → masterSteps.is_open s l ≡ true → refusal s.call l ≡ none
unfolding masterSteps.fits_lent refusal
open_accepted s l t = is_none_lem _ (first_true _ _ (first_true _ _ t))

open_fits : (s : master.State) (l : Lent) → masterSteps.is_open s l ≡ true → fits (shape_of s.call l) (masterSteps.move_of s) ≡ true
unfolding masterSteps.fits_lent
open_fits s l t =
    second_true (masterSteps.is_none (refusal_by s.call.kind s.call.address l.list (length l.written) l.room)) (fits (shape_of s.call l) (masterSteps.move_of s))
    (first_true (masterSteps.fits_lent s l.list (length l.written) l.room) (not (is_end (masterSteps.need_of s))) t)

module _ (s : master.State) (l : Lent) (t : masterSteps.is_open s l ≡ true) (a : ℕ) where
  moved_met : MetNeed (transfer_ends s.call.chip) (owed (shape_of s.call l) (advance (shape_of s.call l) (masterSteps.move_of s) a))
  moved_met =
      transfer_met (shape_of s.call l) (advance (shape_of s.call l) (masterSteps.move_of s) a)
      (states_fit.kept s.call l (open_accepted s l t) (masterSteps.move_of s) a (open_fits s l t))

module _ (entry : ℕ) (b list written r : List ℕ) (a : ℕ) where
  abbrev lent : Lent
  lent = lent_with list written (length r)

  held_open : (s : master.State) → onTransfer.master_held entry b ≡ Some s → masterSteps.is_open s lent ≡ true → (onTransfer.transfer_on list (length written) (length r) entry).held b ≡ some s
  held_open s e t = ap (onTransfer.fitting list (length written) (length r)) e ∙ rw (first_true (masterSteps.fits_lent s list (length written) (length r)) (not (is_end (masterSteps.need_of s))) t)

  master_goes_at : (f : prelude.Option master.State) → onTransfer.master_held entry b ≡ f → takes_transfer f lent ≡ true → Is15 (transfer.master_step entry b list written r a).next → ⊥
  unfolding transfer.master_step owed advance
  master_goes_at None e t q = true≢false (sym t)
  master_goes_at (Some s) e t q =
      met_other (transfer_ends s.call.chip) (unchecked_met s.call.chip true InvalidState) written (masterSteps.need_of (onTransfer.moved list (length written) (length r) s a)) (moved_met s lent t a)
      (sym (next_is (onTransfer.transfer_on list (length written) (length r) entry) written b r a s (held_open s e t) (not-true (is_end (masterSteps.need_of s)) (second_true (masterSteps.fits_lent s list (length written) (length r)) (not (is_end (masterSteps.need_of s))) t))) ∙ q)

  pub master_goes : takes_transfer (onTransfer.master_held entry b) lent ≡ true → Is15 (transfer.master_step entry b list written r a).next → ⊥
  master_goes t q = master_goes_at (onTransfer.master_held entry b) refl t q

module _ (s : slave.State) (l : SlaveLent) (t : slaveSteps.is_open s (size_of s.kind l) ≡ true) (a : ℕ) where
  slave_open_fits : slaveFit.fits (slaveSteps.setting_in s (size_of s.kind l)) (slaveSteps.move_of s) ≡ true
  unfolding slaveSteps.fits_lent
  slave_open_fits =
      let size = size_of s.kind l in
      second_true (leb size 65535) (slaveFit.fits (slaveSteps.setting_in s size) (slaveSteps.move_of s)) (first_true (slaveSteps.fits_lent s size) (not (is_end (slaveSteps.need_of s size))) t)

  slave_moved_met : MetNeed (response_ends s.chip (slaveFit.is_respond_to_read s.kind)) (slaveMachine.owed (slaveSteps.setting_in s (size_of s.kind l)) (slaveMachine.advance (slaveSteps.setting_in s (size_of s.kind l)) (slaveSteps.move_of s) a))
  slave_moved_met =
      let g = slaveSteps.setting_in s (size_of s.kind l) in
      response_met g (slaveMachine.advance g (slaveSteps.move_of s) a) ((slaveFits.states_fit).kept g (slaveSteps.move_of s) a slave_open_fits)

module _ (x : Kind) (b : List ℕ) (l : SlaveLent) (bytes r : List ℕ) (a : ℕ) where
  slave_goes_at : (f : prelude.Option slave.State) → onResponse.slave_held (kind_entry x) b ≡ f → takes_response f l ≡ true → Is15 (step_left (onResponse.response_on (size_of x l) (kind_entry x)) bytes b r a).next → ⊥
  unfolding slaveMachine.owed slaveMachine.advance
  slave_goes_at None e t q = true≢false (sym t)
  slave_goes_at (Some s) e t q =
      let t' : slaveSteps.is_open s (size_of x l) ≡ true = ap (λ (k : Kind). slaveSteps.is_open s (size_of k l)) (sym (slave_kind x b s e)) ∙ t in
      met_other (response_ends s.chip (slaveFit.is_respond_to_read s.kind)) (unchecked_met s.chip false InvalidState) bytes (slaveSteps.need_of (onResponse.moved (size_of x l) s a) (size_of x l))
      (subst (λ (k : Kind). MetNeed (response_ends s.chip (slaveFit.is_respond_to_read s.kind)) (slaveMachine.owed (slaveSteps.setting_in s (size_of k l)) (slaveMachine.advance (slaveSteps.setting_in s (size_of k l)) (slaveSteps.move_of s) a))) (slave_kind x b s e) (slave_moved_met s l t a))
      (sym (next_is (onResponse.response_on (size_of x l) (kind_entry x)) bytes b r a s (ap (onResponse.fitting (size_of x l)) e ∙ rw (first_true (slaveSteps.fits_lent s (size_of x l)) (not (is_end (slaveSteps.need_of s (size_of x l)))) t'))
      (not-true (is_end (slaveSteps.need_of s (size_of x l))) (second_true (slaveSteps.fits_lent s (size_of x l)) (not (is_end (slaveSteps.need_of s (size_of x l)))) t'))) ∙ q)

  pub slave_goes : takes_response (onResponse.slave_held (kind_entry x) b) l ≡ true → Is15 (step_left (onResponse.response_on (size_of x l) (kind_entry x)) bytes b r a).next → ⊥
  slave_goes t q = slave_goes_at (onResponse.slave_held (kind_entry x) b) refl t q
