-- Operations as the bytes that C lends, three each.
use Rattle.std.specs.Prelude.{cond, List, [], ◌∷◌, ◌++◌, ℕ, ◌/◌, ◌%◌, ltb, length, take}
use Rattle.operations.specs.declared.operation.Direction.{Direction}
use Rattle.operations.specs.declared.operation.Direction.TheVariants.{Write, Read}
use Rattle.operations.specs.declared.operation.Operation.{Operation}

abbrev pub number_of : Direction → ℕ
number_of Write = 0
number_of Read = 1

-- 0 for a write or 1 for a read, then the length, low byte first
abbrev pub bytes_of : Operation → List ℕ
bytes_of o = number_of o.direction ∷ o.length % 256 ∷ o.length / 256 ∷ []

unfoldable pub encoded : List Operation → List ℕ
encoded [] = []
encoded (o ∷ os) = bytes_of o ++ encoded os

-- what stands past the end of a slice
abbrev pub blank : Operation
blank = record { direction = Write; length = 0 }

-- of more than 257 operations the first 257 are enough: a transaction has at most 256
abbrev pub count_of : ℕ → ℕ
count_of n = cond (ltb 257 n) 257 n

unfoldable pub first257 : List Operation → List Operation
first257 os = take (count_of (length os)) os
