-- What an answer stores: the byte that was owed, at its place, if the step is taken.
use Rattle.std.specs.Prelude.{◌≡◌, Bool, List, ℕ, set, Option, Some, None}
use Rattle.registers.specs.Word.{field_of}
use Rattle.registers.specs.Fields.{DATA}
use Rattle.access.specs.declared.ending.Error.TheVariants.{InvalidState}
use Rattle.access.specs.declared.need.Need.TheVariants.{Keep, End}
use Rattle.access.specs.Endings.{failed}
use Rattle.asked.specs.Asked.{need_number}
use Rattle.call.specs.CallOn.{CallOn}

-- the bytes, with the one that the answer a is at a place
abbrev pub stored_at : Option ℕ → ℕ → List ℕ → List ℕ
stored_at (Some place) a bytes = set bytes place (field_of DATA a)
stored_at None a bytes = bytes

-- WHAT A CALL THAT READS HAS BESIDE: no step that takes a byte to keep asks for what a refused step asks for, so that the byte is kept
-- unless the step asks for that
abbrev pub GoesOn : {Args State Store : Type 0} → CallOn Args State Store → Type 0
GoesOn {Args} {State} {Store} c =
    (b : Store) (s : State) (p a : ℕ) → c.held b ≡ Some s → c.need s ≡ Keep p → need_number (c.need (c.move s a)) ≡ need_number (End (failed InvalidState)) → ⊥
