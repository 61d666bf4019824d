-- The claims speak of something: calls that are accepted, and one that is refused for its number of operations, by computation.
-- Assumes nothing.
use mathlib.Core.Path.{◌≡◌, refl}
use mathlib.Core.List.{List, [], ◌∷◌}
use mathlib.Core.Option.{some}
use Prim.Native.Nat.{ℕ, ◌+◌}
use native.Mathlib.Omega.{arith}
use lib.ListN.{length, replicate}
use Rattle.access.specs.declared.ending.Error.TheVariants.{InvalidAddress, TooManyOperations}
use Rattle.operations.specs.declared.operation.Direction.TheVariants.{Write, Read}
use Rattle.operations.specs.declared.operation.Operation.{Operation}
use Rattle.operations.specs.Operations.{operations_of, shaped}
use Rattle.operations.specs.Runs.{runs_of, runs_from}
use Rattle.operations.specs.Search.{fault_from}
use Rattle.master.specs.Calls.{refusal}
use Rattle.ch32_i2c.specs.Fed.{Makes}
use Rattle.ch32_i2c.specs.Demands.{entry_of, Accepted, refusal_of, SameRuns}
use Rattle.operation_bytes.specs.Encoded.{encoded}
use Rattle.operation_list.specs.Claims.{slice_call, ours_of}
use Rattle.operation_list.proofs.SliceLaws.{slice_is_the_list}

-- two writes, of one byte and of none, and a read of 300
abbrev three : List Operation
three = record { direction = Write; length = 1 } ∷ record { direction = Write; length = 0 } ∷ record { direction = Read; length = 300 } ∷ []

three_bytes : encoded three ≡ 0 ∷ 1 ∷ 0 ∷ 0 ∷ 0 ∷ 0 ∷ 1 ∷ 44 ∷ 1 ∷ []
unfolding encoded
three_bytes = refl

three_accepted : Accepted (slice_call 0 0x50 three (7 ∷ [])) (replicate 32 0) (replicate 300 0)
unfolding encoded refusal shaped fault_from operations_of runs_of runs_from
three_accepted = refl

-- so the claim of its accesses speaks of it, for every list of answers
three_makes : (answers : List ℕ)
    → Makes (entry_of (slice_call 0 0x50 three (7 ∷ []))) (replicate 32 0) (replicate 300 0) answers (ours_of (length answers + 1) 0 0x50 three (7 ∷ []) answers)
three_makes answers = slice_is_the_list.same 0 0x50 three (7 ∷ []) (replicate 32 0) (replicate 300 0) three_accepted (length answers + 1) answers (omega arith)

-- one write, and the read in two parts: the same runs
abbrev divided : List Operation
divided = record { direction = Write; length = 1 } ∷ record { direction = Read; length = 44 } ∷ record { direction = Read; length = 256 } ∷ []

same_runs : SameRuns (slice_call 0 0x50 three (7 ∷ [])) 300 (slice_call 0 0x50 divided (8 ∷ [])) 300
unfolding runs_of runs_from
same_runs = slice_is_the_list.runs 0 0x50 three divided (7 ∷ []) (8 ∷ []) 300 300 refl

-- 257 empty writes
abbrev many : List Operation
many = replicate 257 (record { direction = Write; length = 0 })

many_refused : refusal_of (slice_call 0 0x50 many []) 32 0 ≡ some TooManyOperations
unfolding encoded refusal shaped
many_refused = refl

-- the address comes first
address_first : refusal_of (slice_call 0 0x80 many []) 32 0 ≡ some InvalidAddress
unfolding encoded refusal shaped
address_first = refl
