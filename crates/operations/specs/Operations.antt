-- The operations that a list of bytes spells, three bytes each.
use Rattle.std.specs.Prelude.{ℕ, ◌+◌, ◌*◌, Bool, true, false, cond, ◌&&◌, List, [], ◌∷◌, eqb, ltb, get_or}
use Rattle.operations.specs.declared.operation.Direction.{Direction}
use Rattle.operations.specs.declared.operation.Direction.TheVariants.{Write, Read}
use Rattle.operations.specs.declared.operation.Operation.{Operation}

abbrev pub is_read : Direction → Bool
is_read Write = false
is_read Read = true

-- 0 is a write
abbrev pub direction_of : ℕ → Direction
direction_of n = cond (eqb n 0) Write Read

-- low byte first
abbrev pub word_of : ℕ → ℕ → ℕ
word_of low high = low + high * 256

abbrev pub operation_of : ℕ → ℕ → ℕ → Operation
operation_of d low high = record { direction = direction_of d; length = word_of low high }

-- a read of no bytes
abbrev pub empty_read : Operation → Bool
empty_read o = is_read o.direction && eqb o.length 0

-- the operation whose bytes begin at a place
abbrev pub operation_at : List ℕ → ℕ → Operation
operation_at l at = operation_of (get_or l at 0) (get_or l (at + 1) 0) (get_or l (at + 2) 0)

-- the operations of a list; one or two bytes at its end are none
unfoldable pub operations_of : List ℕ → List Operation
operations_of [] = []
operations_of (d ∷ []) = []
operations_of (d ∷ a ∷ []) = []
operations_of (d ∷ a ∷ b ∷ l) = operation_of d a b ∷ operations_of l

-- whole operations, each with the direction 0 or 1
unfoldable pub shaped : List ℕ → Bool
shaped [] = true
shaped (d ∷ []) = false
shaped (d ∷ a ∷ []) = false
shaped (d ∷ a ∷ b ∷ l) = cond (ltb 1 d) false (shaped l)
