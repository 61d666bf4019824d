-- A CALL by its types: what begin is given, the states, and what C lends. A trait's member, and what holds of every call.
use Rattle.std.specs.Prelude.{◌≡◌, cond, List, [], ◌∷◌, ℕ, Option, Some, None, Result, Ok, Err}
use Rattle.std.proofs.Math.Option as maybe
use Rattle.access.specs.declared.ending.Error.{Error}
use Rattle.access.specs.declared.ending.Error.TheVariants.{InvalidState}
use Rattle.access.specs.declared.need.Need.{Need}
use Rattle.access.specs.Machine.{Machine, is_end}
use Rattle.call.specs.OnBlock.{AfterOn, OnStore, refused, standing, step_on}

-- the machine, where its states lie, the state that a block holds, and what begin makes of its arguments
pub record CallOn (Args State Store : Type 0) : Type 0 where
  pub need : State → Need
  pub move : State → ℕ → State
  pub image : State → Store
  pub held : Store → Option State
  pub first : Args → Result State Error

-- the code's option as the mathematics'
abbrev pub state_in : {State : Type 0} → Option State → maybe.Option State
state_in (Some s) = maybe.some s
state_in None = maybe.none

-- the first state, by what begin finds for it
abbrev pub first_of : {T State E : Type 0} → (T → State) → Result T E → Result State E
first_of f (Ok t) = Ok (f t)
first_of f (Err e) = Err e

-- a first state, unless there is a cause against it
abbrev pub first_unless : {E State : Type 0} → maybe.Option E → State → Result State E
first_unless maybe.none s = Ok s
first_unless (maybe.some e) s = Err e

-- a state, unless there is a cause against it
abbrev pub unless : {E State : Type 0} → maybe.Option E → State → Option State
unless maybe.none s = Some s
unless (maybe.some e) s = None

module _ {Args State Store : Type 0} (c : CallOn Args State Store) where
  abbrev pub machine_of : Machine
  machine_of = record { State = State; need = c.need; move = c.move }

  -- as a call on a block
  abbrev pub on_block : OnStore Store
  on_block = record { machine = machine_of; image = c.image; held = λ b. state_in (c.held b) }

  -- BEGIN: the first state in its block, or the cause that there is none
  abbrev pub begun_by : Result State Error → Store → AfterOn Store
  begun_by (Ok s) b = standing on_block s
  begun_by (Err e) b = refused e b

  abbrev pub begun : Args → Store → AfterOn Store
  begun x b = begun_by (c.first x) b

  -- what begin needs first, or the cause
  abbrev pub need_by : Result State Error → Result Need Error
  need_by (Ok s) = Ok (c.need s)
  need_by (Err e) = Err e

  -- a state that its block holds
  abbrev pub Stands : State → Type 0
  Stands s = c.held (c.image s) ≡ Some s

  -- THE LAWS OF A CALL
  pub record IsCall : Type 0 where
    -- begin leads to a state that its block holds, and so does each move
    pub begins : (x : Args) (s : State) → c.first x ≡ Ok s → Stands s
    pub moves : (s : State) (a : ℕ) → Stands s → Stands (c.move s a)

  -- what is handed back by a step with each answer, one after the other
  abbrev pub steps_from : AfterOn Store → List ℕ → List (AfterOn Store)
  steps_from h [] = h ∷ []
  steps_from h (a ∷ answers) = h ∷ steps_from (step_on on_block h.block a) answers

  -- behind the end each step is refused, and changes nothing
  abbrev pub still : Store → List ℕ → List (AfterOn Store)
  still b [] = []
  still b (a ∷ answers) = refused InvalidState b ∷ still b answers

  -- the run of the machine
  abbrev pub run_from : State → List ℕ → List (AfterOn Store)
  run_from s [] = standing on_block s ∷ []
  run_from s (a ∷ answers) = standing on_block s ∷ cond (is_end (c.need s)) (still (c.image s) (a ∷ answers)) (run_from (c.move s a) answers)
