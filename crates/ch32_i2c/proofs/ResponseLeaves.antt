-- What begin and step of a slave call leave, in the words of the edge that all calls share.
-- Assumes nothing.
use mathlib.Core.Path.{◌≡◌, refl}
use mathlib.Core.Bool.{Bool, true, false, cond}
use mathlib.Core.List.{List, []}
use mathlib.Core.Option as maybe
use Prim.Native.Nat.{ℕ}
use lib.Dec.{eqb, ltb}
use lib.ListN.{length}
use Rattle.std.specs.Prelude.{Option, None}
use Rattle.access.specs.declared.ending.Error.{Error}
use Rattle.block.specs.Bytes32.{block_size}
use Rattle.images.specs.Numbers.{chip_of}
use Rattle.images.specs.SlaveImage.{kind_entry}
use Rattle.slave.specs.declared.state.Kind.{Kind}
use Rattle.slave.specs.Calls.{size_refusal}
use Rattle.slave_step.specs.Held.{held_in, fitting_in}
use Rattle.call.specs.OnBlock.{standing, begin_by}
use Rattle.call.specs.CallOn.{state_in, begun_by, first_unless}
use Rattle.call.specs.Edge.{in_block, begin_at, known}
use Rattle.call.specs.Left.{step_left}
use Rattle.call.proofs.CallLaws.{begin_as, step_as}
use Rattle.calls.specs.Response.{slave_held, fitting, response_on, response_begin, response_call, first_state}
use Rattle.calls.proofs.ResponseLaws.{same_fitting}

pub response_begin_at : (b : List ℕ) (size chip : ℕ) (x : Kind) → begin_at (response_call size x) (known (ltb 3 chip) chip) b ≡ response_begin size chip x b
response_begin_at b size chip x =
    begin_as (response_call size x) (ltb 3 chip) chip b (size_refusal size) (standing (response_on size (kind_entry x)) (first_state size (chip_of chip) x)) (go (size_refusal size))
  where
    go : (o : maybe.Option Error) → begun_by (response_call size x) (first_unless o (first_state size (chip_of chip) x)) b ≡ begin_by o b (standing (response_on size (kind_entry x)) (first_state size (chip_of chip) x))
    go maybe.none = refl
    go (maybe.some e) = refl

same_held : (size : ℕ) (x : Kind) (b : List ℕ) → (in_block (response_call size x)).held b ≡ fitting size (slave_held (kind_entry x) b)
unfolding slave_held held_in
same_held size x b = go (eqb (length b) block_size)
  where
    go : (t : Bool) → state_in (cond t (fitting_in size (held_in (kind_entry x) b)) None) ≡ fitting size (cond t (held_in (kind_entry x) b) None)
    go true = same_fitting size (held_in (kind_entry x) b)
    go false = refl

pub response_step_at : (bytes b r : List ℕ) (a size : ℕ) (x : Kind) → step_left (in_block (response_call size x)) bytes b r a ≡ step_left (response_on size (kind_entry x)) bytes b r a
response_step_at bytes b r a size x = step_as (response_call size x) (λ b. fitting size (slave_held (kind_entry x) b)) bytes b r a (same_held size x b)

-- the same where nothing is lent to read
pub response_unread_at : (bytes b : List ℕ) (a size : ℕ) (x : Kind) → step_left (in_block (response_call size x)) bytes b [] a ≡ step_left (response_on size (kind_entry x)) bytes b [] a
response_unread_at bytes b a size x = response_step_at bytes b [] a size x
