-- What is found of a call: the first cause of refusal apart from the list's form, or the run of a number.
use Rattle.std.specs.Prelude as prelude
use Rattle.std.specs.Prelude.{List, ℕ, Result, Ok, Err}
use Rattle.std.proofs.Math.Option.{Option, none, some}
use Rattle.access.specs.declared.ending.Error.{Error}
use Rattle.operations.specs.declared.search.Run.{Run}
use Rattle.operations.specs.Runs.{run_at}
use Rattle.master.specs.declared.call.Kind.{Kind}
use Rattle.master.specs.Calls.{cause_at, spans_by}

abbrev pub looked_with : Option Error → prelude.Option Run → Result (prelude.Option Run) Error
looked_with (some e) f = Err e
looked_with none f = Ok f

unfoldable pub look : Kind → ℕ → List ℕ → ℕ → ℕ → ℕ → Result (prelude.Option Run) Error
look x address list written room k = looked_with (cause_at x address list written room) (run_at (spans_by x list written room) k)
