-- A CALL WHERE C CALLS: its block is a pointer and a length. 15 for another length than 32; at begin 16 for numbers that mean nothing, then the
-- call's own cause, or the first state.
use Rattle.std.specs.Prelude.{cond, List, ℕ, eqb, length, Bool, Option, Some, None}
use Rattle.access.specs.declared.ending.Error.TheVariants.{InvalidState, InvalidArgument}
use Rattle.block.specs.Bytes32.{block_size}
use Rattle.call.specs.OnBlock.{AfterOn, After, OnBlock, refused}
use Rattle.call.specs.CallOn.{CallOn, state_in, machine_of, begun}

-- a block of another length holds nothing
abbrev pub in_block : {Args State : Type 0} → CallOn Args State (List ℕ) → OnBlock
in_block c = record { machine = machine_of c; image = c.image; held = λ b. state_in (cond (eqb (length b) block_size) (c.held b) None) }

-- without arguments, those that C passed mean nothing
abbrev pub begun_with : {Args State Store : Type 0} → CallOn Args State Store → Option Args → Store → AfterOn Store
begun_with c (Some x) b = begun c x b
begun_with c None b = refused InvalidArgument b

abbrev pub begin_at : {Args State : Type 0} → CallOn Args State (List ℕ) → Option Args → List ℕ → After
begin_at c x b = cond (eqb (length b) block_size) (begun_with c x b) (refused InvalidState b)

-- numbers that mean arguments, unless they are unknown
abbrev pub known : {Args : Type 0} → Bool → Args → Option Args
known unknown x = cond unknown None (Some x)
