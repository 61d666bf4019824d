-- A CALL ON A BLOCK: what begin and step make of what C lends for it (32 bytes; a call made of calls may have more), by what is lent beside it and
-- without its payload. Every call is an instance, and calls that are made of calls are stated over it.
use Rattle.std.specs.Prelude.{◌≡◌, Bool, cond, not, List, ℕ, eqb, length}
use Rattle.std.proofs.Math.Option.{Option, none, some}
use Rattle.access.specs.declared.ending.Error.{Error}
use Rattle.access.specs.declared.ending.Error.TheVariants.{InvalidState, InvalidArgument}
use Rattle.access.specs.declared.need.Need.{Need}
use Rattle.access.specs.declared.need.Need.TheVariants as need
use Rattle.access.specs.Endings.{failed}
use Rattle.access.specs.Machine.{Machine, is_end}
use Rattle.block.specs.Bytes32.{block_size}

-- what is handed back: what the call needs next, and the block
pub record AfterOn (Store : Type 0) : Type 0 where
  pub need : Need
  pub block : Store

-- for the 32 bytes
abbrev pub After : Type 0
After = AfterOn (List ℕ)

-- a refusal changes nothing
abbrev pub refused : {Store : Type 0} → Error → Store → AfterOn Store
refused e b = record { need = need.End (failed e); block = b }

-- the machine that a call is, where its states lie, and the state that a block holds and that fits what is lent
pub record OnStore (Store : Type 0) : Type 1 where
  pub machine : Machine
  pub image : machine.State → Store
  pub held : Store → Option machine.State

abbrev pub OnBlock : Type 1
OnBlock = OnStore (List ℕ)

module _ {Store : Type 0} (c : OnStore Store) where
  -- a state in its block
  abbrev pub standing : c.machine.State → AfterOn Store
  standing s = record { need = c.machine.need s; block = c.image s }

  -- what a block owes; where it holds no state of the call that is an end, as behind the call's own
  abbrev pub owed_by : Option c.machine.State → Need
  owed_by (some s) = c.machine.need s
  owed_by none = need.End (failed InvalidState)

  abbrev pub owed_in : Store → Need
  owed_in b = owed_by (c.held b)

  -- whether a step is taken: the call has not ended
  abbrev pub takes : Store → Bool
  takes b = not (is_end (owed_in b))

  abbrev pub moved_by : Option c.machine.State → Store → ℕ → AfterOn Store
  moved_by (some s) b a = standing (c.machine.move s a)
  moved_by none b a = refused InvalidState b

  -- THE STEP
  unfoldable pub step_on : Store → ℕ → AfterOn Store
  step_on b a = cond (takes b) (moved_by (c.held b) b a) (refused InvalidState b)

-- BEGIN: 15 for the block's length, 16 for an argument that is none of the call's, the call's own cause, or the first state
abbrev pub begin_by : Option Error → List ℕ → After → After
begin_by (some e) b first = refused e b
begin_by none b first = first

unfoldable pub begin_on : Bool → Option Error → List ℕ → After → After
begin_on unknown cause b first = cond (eqb (length b) block_size) (cond unknown (refused InvalidArgument b) (begin_by cause b first)) (refused InvalidState b)

-- a function that handed this back and left this block did what the definition says
pub record Does {Store : Type 0} (x : AfterOn Store) (n : Need) (b : Store) : Type 0 where
  pub need : n ≡ x.need
  pub block : b ≡ x.block

-- IT IS THE RUN OF A MACHINE: states of the machine m stand in blocks by `at`, need and move as they do there, and those that a call comes to
-- are held by their blocks
pub record IsRun {Store : Type 0} (c : OnStore Store) (m : Machine) (at : m.State → c.machine.State) (Reached : m.State → Type 0) : Type 0 where
  pub needs : (s : m.State) → c.machine.need (at s) ≡ m.need s
  pub moves : (s : m.State) (a : ℕ) → c.machine.move (at s) a ≡ at (m.move s a)
  pub stays : (s : m.State) (a : ℕ) → Reached s → Reached (m.move s a)
  pub held : (s : m.State) → Reached s → c.held (c.image (at s)) ≡ some (at s)
