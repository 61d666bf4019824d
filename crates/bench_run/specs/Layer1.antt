-- The text that layer 1 gives: what is to be printed of what is seen of a call.
use Rattle.std.specs.Prelude.{List, [], ◌∷◌, ◌++◌, map, ℕ, ◌+◌}
use Rattle.std.proofs.Math.Option.{Option, none, some}
use Rattle.access.specs.Endings.{Ending, ending_error}
use Rattle.access.specs.Program.{Access, read, write, send, clock}
use Rattle.access.specs.Record.{Event, Arrival, Shown}
use Rattle.ch32_i2c.specs.Fed.{next_of}
use Rattle.bench_text.specs.Shown.{arrived_text, end_text, open_text}
use Rattle.bench_run.specs.Play.{access_text, flags_of}

-- an access with its answer; a read or a question that has none yet is not printed
abbrev pub line_at : Access → Option ℕ → List ℕ
line_at x (some a) = access_text (next_of x) a
line_at (read r) none = []
line_at (write r v) none = access_text (next_of (write r v)) 0
line_at (send b) none = access_text (next_of (send b)) 0
line_at clock none = []

abbrev pub lines_of : List Event → List ℕ
lines_of [] = []
lines_of (e ∷ es) = line_at e.what e.answer ++ lines_of es

-- how many answers were used
abbrev pub count_of : Option ℕ → ℕ
count_of none = 0
count_of (some a) = 1

abbrev pub used_in : List Event → ℕ
used_in [] = 0
used_in (e ∷ es) = count_of e.answer + used_in es

abbrev pub bytes_in : List Arrival → List ℕ
bytes_in xs = map (λ (x : Arrival). x.byte) xs

-- a call without an end is open
abbrev pub end_line : Option Ending → ℕ → List ℕ
end_line none used = open_text used
end_line (some e) used = end_text (ending_error e) used (flags_of e)

abbrev pub text_of : Shown → List ℕ
text_of s = lines_of s.events ++ (arrived_text (bytes_in s.arrivals) ++ end_line s.end (used_in s.events))
