-- The first fault of a list, and what is known of a list without one.
use Rattle.std.specs.Prelude as prelude
use Rattle.std.specs.Prelude.{ℕ, ◌+◌, Bool, cond, ◌&&◌, List, [], ◌∷◌, leb, ltb, get_or, Result, Ok, Err}
use Rattle.std.proofs.Math.Option.{Option, none, some}
use Rattle.access.specs.declared.ending.Error.{Error}
use Rattle.access.specs.declared.ending.Error.TheVariants.{Overrun, BufferTooLong, InvalidArgument}
use Rattle.operations.specs.declared.search.Run.{Run}
use Rattle.operations.specs.declared.search.Sums.{Sums}
use Rattle.operations.specs.declared.operation.Direction.{Direction}
use Rattle.operations.specs.Operations.{word_of, operation_of, operation_at, empty_read, operations_of}
use Rattle.operations.specs.Runs.{same, runs_of, sums_of, run_at}

-- after a total of t bytes: at each operation 16 for a direction above 1, then 6 for an empty read, then 8 for a total above 65,535
unfoldable pub fault_from : ℕ → List ℕ → Option Error
fault_from t [] = none
fault_from t (d ∷ []) = some InvalidArgument
fault_from t (d ∷ a ∷ []) = some InvalidArgument
fault_from t (d ∷ a ∷ b ∷ l) =
    cond (ltb 1 d) (some InvalidArgument)
    (cond (empty_read (operation_of d a b)) (some Overrun)
    (cond (ltb 65535 (t + word_of a b)) (some BufferTooLong) (fault_from (t + word_of a b) l)))

-- whether the operation at a place goes on with a run of a direction
abbrev pub goes_on : List ℕ → ℕ → Direction → Bool
goes_on l at d = leb (get_or l at 0) 1 && same d (operation_at l at).direction

abbrev pub verdict_at : Option Error → List ℕ → ℕ → Result (Sums × prelude.Option Run) Error
verdict_at (some e) l k = Err e
verdict_at none l k = Ok ((sums_of (runs_of (operations_of l))), (run_at (runs_of (operations_of l)) k))

unfoldable pub validate_operations : List ℕ → ℕ → Result (Sums × prelude.Option Run) Error
validate_operations l k = verdict_at (fault_from 0 l) l k
