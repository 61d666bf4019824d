-- What the runs passed so far come to: the search goes over a list's runs with this.
use Rattle.std.specs.Prelude.{ℕ, pred, ◌+◌, Bool, cond, not, List, [], ◌∷◌, eqb, Option, Some, None}
use Rattle.operations.specs.declared.search.Run.{Run}
use Rattle.operations.specs.declared.search.Tally.{Tally}
use Rattle.operations.specs.Operations.{is_read}
use Rattle.operations.specs.Runs.{Span, is_empty, written_in, read_in}

abbrev pub found_with : Tally → Span → Bool → Option Run
found_with t s more =
    cond (eqb t.ahead 1)
    (Some (record { direction = s.direction; length = s.length; before = cond (is_read s.direction) t.read t.written; more = more }))
    t.found

-- a run is passed, and another follows or not
abbrev pub passed : Tally → Span → Bool → Tally
passed t s more = record { written = t.written + written_in s; read = t.read + read_in s; ahead = pred t.ahead; found = found_with t s more }

unfoldable pub passed_all : Tally → List Span → Tally
passed_all t [] = t
passed_all t (s ∷ ss) = passed_all (passed t s (not (is_empty ss))) ss

-- nothing is passed, and the run of number k is asked for
abbrev pub none_passed : ℕ → Tally
none_passed k = record { written = 0; read = 0; ahead = k + 1; found = None }
