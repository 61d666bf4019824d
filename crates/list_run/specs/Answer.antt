-- What a step has to know of what is found of a list.
use Rattle.std.specs.Prelude.{Option, Some, None, Result, Ok, Err}
use Rattle.operations.specs.declared.search.Run.{Run}
use Rattle.operations.specs.Operations.{is_read}
use Rattle.list_run.specs.declared.find.Found.{Found}
use Rattle.access.specs.declared.ending.Error.{Error}

-- a refusal of any cause is as no run
abbrev pub found_of : Result (Option Run) Error → Option Found
found_of (Err e) = None
found_of (Ok None) = None
found_of (Ok (Some r)) = Some (record { reading = is_read r.direction; length = r.length; before = r.before; more = r.more })
