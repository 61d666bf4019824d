-- A step of a slave call by what it makes of the block, in the words of the trait.
-- Assumes nothing.
use mathlib.Core.Path.{◌≡◌, refl}
use mathlib.Core.Bool.{Bool, true, false, cond, not}
use mathlib.Core.List.{List}
use mathlib.Core.Option.{none}
use Prim.Native.Nat.{ℕ}
use lib.ListN.{length}
use borrow.Author.Tests.{ne_eqb}
use Rattle.std.specs.Prelude.{Some, None, Option}
use Rattle.access.specs.declared.ending.Error.TheVariants.{InvalidState}
use Rattle.access.specs.declared.need.Need.{Need}
use Rattle.access.specs.Machine.{is_end}
use Rattle.block.specs.Bytes32.{block_size}
use Rattle.images.specs.SlaveImage.{kind_entry}
use Rattle.slave.specs.declared.state.State.{State}
use Rattle.slave.specs.declared.state.Kind.{Kind}
use Rattle.slave.specs.Steps.{fits_lent, need_of}
use Rattle.slave_step.specs.Held.{held_in, fitting_in, Refuses, StepsFrom}
use Rattle.call.specs.CallOn.{state_in, on_block}
use Rattle.call.specs.OnBlock.{OnBlock, Does, owed_by, moved_by, step_on, refused}
use Rattle.call.proofs.CallLaws.{held_if}
use Rattle.calls.specs.Response.{slave_held, fitting, response_on, response_call}

module _ (size : ℕ) (x : Kind) (b : List ℕ) (a : ℕ) (after : List ℕ) (n : Need) where
  abbrev on : OnBlock
  on = on_block (response_call size x)

  refused_is : Refuses b after n → Does (refused InvalidState b) n after
  refused_is r = record { need = r.ended; block = r.block }

  -- what a block is found to hold
  abbrev Done : Option State → Type 0
  Done f = Does (cond (not (is_end (owed_by on (state_in (fitting_in size f))))) (moved_by on (state_in (fitting_in size f)) b a) (refused InvalidState b)) n after

  found_steps : (f : Option State) → StepsFrom f size a b after n → Done f
  found_steps None r = refused_is r
  found_steps (Some s) r = go (fits_lent s size) (is_end (need_of s size)) refl refl
    where
      go : (v w : Bool) → fits_lent s size ≡ v → is_end (need_of s size) ≡ w → Done (Some s)
      go false w q e = rw q (refused_is (r.refused (rw q)))
      go true true q e = rw (q, e) (refused_is (r.refused (rw (q, e))))
      go true false q e =
          let m = r.taken (rw (q, e)) in
          rw (q, e) (record { need = m.owed; block = m.block })

  pub steps_by : StepsFrom (held_in (kind_entry x) b) size a b after n → Does (step_on on b a) n after
  unfolding step_on
  steps_by steps = found_steps (held_in (kind_entry x) b) steps

-- ---- what is held, in the mathematics' option

pub same_fitting : (size : ℕ) (f : Option State) → state_in (fitting_in size f) ≡ fitting size f
same_fitting size None = refl
same_fitting size (Some s) = held_if (fits_lent s size) s

-- ---- a block of another length holds nothing

pub held_short : (size entry : ℕ) (b : List ℕ) → (length b ≡ block_size → ⊥) → (response_on size entry).held b ≡ none
unfolding slave_held
held_short size entry b e = rw (ne_eqb (length b) block_size e)
