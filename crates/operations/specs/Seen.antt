-- The search's step: an operation is added to what is seen of a list.
use Rattle.std.specs.Prelude.{ℕ, ◌+◌, true, false, cond, Option, Some, None}
use Rattle.operations.specs.declared.operation.Operation.{Operation}
use Rattle.operations.specs.declared.search.Tally.{Tally}
use Rattle.operations.specs.declared.search.Seen.{Seen}
use Rattle.operations.specs.Runs.{Span, span, same}
use Rattle.operations.specs.Tally.{passed}

-- an open run
abbrev pub open_span : Operation → Span
open_span r = span r.direction r.length

abbrev pub open_bytes : Option Operation → ℕ
open_bytes None = 0
open_bytes (Some r) = r.length

abbrev pub bytes_of : Seen → ℕ
bytes_of s = s.ended.written + s.ended.read + open_bytes s.run

abbrev pub added_to : Tally → Option Operation → Operation → Seen
added_to t None o = record { ended = t; run = Some o }
added_to t (Some r) o =
    cond (same r.direction o.direction)
    (record { ended = t; run = Some (record { direction = r.direction; length = r.length + o.length }) })
    (record { ended = passed t (open_span r) true; run = Some o })

abbrev pub added : Seen → Operation → Seen
added s o = added_to s.ended s.run o

abbrev pub ended_with : Tally → Option Operation → Tally
ended_with t None = t
ended_with t (Some r) = passed t (open_span r) false

abbrev pub ended : Seen → Tally
ended s = ended_with s.ended s.run
