-- A step that is not taken is refused, and leaves every lent byte as it was.
-- Assumes nothing.
use mathlib.Core.Path.{◌≡◌, refl, ap, sym, ◌∙◌}
use mathlib.Core.Bool.{Bool, true, false, cond, not, ◌&&◌}
use mathlib.Core.List.{List, []}
use mathlib.Core.Option.{some, none}
use Prim.Native.Nat.{ℕ}
use lib.ListN.{length}
use borrow.Author.Tests.{not-false}
use Rattle.access.specs.declared.ending.Error.TheVariants.{InvalidState}
use Rattle.access.specs.Machine.{is_end}
use Rattle.master.specs.declared.state.State.{State}
use Rattle.master.specs.Calls.{lent_with}
use Rattle.master.specs.Steps as masterSteps
use Rattle.slave.specs.declared.state.State as slave
use Rattle.slave.specs.Steps as slaveSteps
use Rattle.call.specs.OnBlock.{OnBlock, owed_by, owed_in, takes, step_on}
use Rattle.calls.specs.Init as init
use Rattle.calls.specs.Transfer as transfer
use Rattle.calls.specs.InitSlave as init_slave
use Rattle.calls.specs.Response as response
use Rattle.calls.proofs.KeptLaws.{end_keeps}
use Rattle.call.specs.Left.{refused_with, step_left}
use Rattle.slave.specs.declared.state.Kind.{Kind}
use Rattle.slave.specs.Calls.{SlaveLent, size_of}
use Rattle.images.specs.SlaveImage.{kind_entry}
use Rattle.ch32_i2c.specs.Init.{init_step}
use Rattle.ch32_i2c.specs.Transfer.{master_step}
use Rattle.ch32_i2c.specs.InitSlave.{init_slave_step}
use Rattle.ch32_i2c.proofs.HeldLaws.{slave_kind}
use Rattle.ch32_i2c.specs.Demands.{takes_init, takes_transfer, takes_init_slave, takes_response}
use Rattle.std.specs.Prelude as found
use Rattle.std.specs.Prelude.{Some, None, Option}
use Rattle.timing.specs.declared.init.State as initState
use Rattle.slave.specs.declared.init.InitState.{InitState}
use Rattle.call.specs.CallOn.{state_in}

-- ---- a call on a block takes a step by its own test

pub stops : (c : OnBlock) (bytes b r : List ℕ) (a : ℕ) → takes c b ≡ false → step_left c bytes b r a ≡ refused_with InvalidState b r
unfolding step_on
stops c bytes b r a q = rw q (ap (λ (x : List ℕ). refused_with InvalidState b x) (end_keeps (owed_in c b) a r (not-false (is_end (owed_in c b)) q)))

-- ---- and that test is the demands'

pub init_takes_lem : (f : found.Option initState.State) → takes_init f ≡ not (is_end (owed_by init.init_on (state_in f)))
init_takes_lem (Some s) = refl
init_takes_lem None = refl

pub init_slave_takes_lem : (f : found.Option InitState) → takes_init_slave f ≡ not (is_end (owed_by init_slave.init_slave_on (state_in f)))
init_slave_takes_lem (Some s) = refl
init_slave_takes_lem None = refl

pub transfer_takes_lem : (entry : ℕ) (list written : List ℕ) (room : ℕ) (f : Option State) → takes_transfer f (lent_with list written room) ≡ not (is_end (owed_by (transfer.transfer_on list (length written) room entry) (transfer.fitting list (length written) room f)))
transfer_takes_lem entry list written room None = refl
transfer_takes_lem entry list written room (Some s) = go (masterSteps.fits_lent s list (length written) room)
  where
    go : (v : Bool) → v && not (is_end (masterSteps.need_of s)) ≡ not (is_end (owed_by (transfer.transfer_on list (length written) room entry) (cond v (some s) none)))
    go true = refl
    go false = refl

pub response_takes_lem : (entry size : ℕ) (s : slave.State) → slaveSteps.is_open s size ≡ not (is_end (owed_by (response.response_on size entry) (response.fitting size (Some s))))
response_takes_lem entry size s = go (slaveSteps.fits_lent s size)
  where
    go : (v : Bool) → v && not (is_end (slaveSteps.need_of s size)) ≡ not (is_end (owed_by (response.response_on size entry) (cond v (some s) none)))
    go true = refl
    go false = refl

-- ---- so it stops where they say

pub init_stops : (b : List ℕ) (a : ℕ) → takes_init (init.init_held b) ≡ false → init_step b a ≡ refused_with InvalidState b []
unfolding init_step
init_stops b a q = stops init.init_on [] b [] a (sym (init_takes_lem (init.init_held b)) ∙ q)

pub init_slave_stops : (b : List ℕ) (a : ℕ) → takes_init_slave (init_slave.init_slave_held b) ≡ false → init_slave_step b a ≡ refused_with InvalidState b []
unfolding init_slave_step
init_slave_stops b a q = stops init_slave.init_slave_on [] b [] a (sym (init_slave_takes_lem (init_slave.init_slave_held b)) ∙ q)

pub master_stops : (entry : ℕ) (b list written r : List ℕ) (a : ℕ) → takes_transfer (transfer.master_held entry b) (lent_with list written (length r)) ≡ false → master_step entry b list written r a ≡ refused_with InvalidState b r
unfolding master_step
master_stops entry b list written r a q = stops (transfer.transfer_on list (length written) (length r) entry) written b r a (sym (transfer_takes_lem entry list written (length r) (transfer.master_held entry b)) ∙ q)

-- a block of a kind's entry holds calls of that kind, and those are lent as much
module _ (x : Kind) (b : List ℕ) (l : SlaveLent) where
  takes_is : takes_response (response.slave_held (kind_entry x) b) l ≡ takes (response.response_on (size_of x l) (kind_entry x)) b
  takes_is = go (response.slave_held (kind_entry x) b) refl
    where
      go : (f : Option slave.State) → response.slave_held (kind_entry x) b ≡ f → takes_response f l ≡ not (is_end (owed_by (response.response_on (size_of x l) (kind_entry x)) (response.fitting (size_of x l) f)))
      go None e = refl
      go (Some s) e = ap (λ (k : Kind). slaveSteps.is_open s (size_of k l)) (slave_kind x b s e) ∙ response_takes_lem (kind_entry x) (size_of x l) s

  pub slave_stops : (bytes r : List ℕ) (a : ℕ) → takes_response (response.slave_held (kind_entry x) b) l ≡ false → step_left (response.response_on (size_of x l) (kind_entry x)) bytes b r a ≡ refused_with InvalidState b r
  slave_stops bytes r a q = stops (response.response_on (size_of x l) (kind_entry x)) bytes b r a (sym takes_is ∙ q)
