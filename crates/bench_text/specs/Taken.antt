-- What the code keeps of the lines: numbers, and the bytes in three buffers.
use Rattle.std.specs.Prelude.{ℕ, ◌+◌, ◌≤◌, ◌≡◌, true, false, cond, List, ltb, length, Option, None, Some, Result, Ok, Err}
use Rattle.std.proofs.lemmas.List.Edits.{sets}
use Rattle.bench_text.specs.declared.input.Parts.{Parts}
use Rattle.bench_text.specs.declared.input.Call.{Call}
use Rattle.bench_text.specs.declared.input.BadLine.{BadLine}
use Rattle.bench_text.specs.Input.{Line, bad, writes, reads, answers, operation_bytes, room_with, Said, Input, bad_line, call}

abbrev pub parts_of : Said → Parts
parts_of s = record { listed = length s.list; written = length s.written; room = s.room; answers = length s.answers; answered = s.answered }

unfoldable pub taken_with : Parts → Line → Option Parts
taken_with p bad = None
taken_with p (writes bs) =
    cond p.answered None
    (Some (record { listed = p.listed + 3; written = p.written + length bs; room = p.room; answers = p.answers; answered = false }))
taken_with p (reads n) =
    cond p.answered None
    (Some (record { listed = p.listed + 3; written = p.written; room = room_with p.room n; answers = p.answers; answered = false }))
taken_with p (answers ws) =
    cond (ltb 4096 (p.answers + length ws)) None
    (Some (record { listed = p.listed; written = p.written; room = p.room; answers = p.answers + length ws; answered = true }))

-- the buffers behind a line
unfoldable pub list_with : Parts → Line → List ℕ → List ℕ
list_with p bad l = l
list_with p (writes bs) l = cond p.answered l (sets l p.listed (operation_bytes 0 (length bs)))
list_with p (reads n) l = cond p.answered l (sets l p.listed (operation_bytes 1 n))
list_with p (answers ws) l = l

unfoldable pub written_with : Parts → Line → List ℕ → List ℕ
written_with p bad l = l
written_with p (writes bs) l = cond p.answered l (sets l p.written bs)
written_with p (reads n) l = l
written_with p (answers ws) l = l

unfoldable pub answers_with : Parts → Line → List ℕ → List ℕ
answers_with p bad l = l
answers_with p (writes bs) l = l
answers_with p (reads n) l = l
answers_with p (answers ws) l = cond (ltb 4096 (p.answers + length ws)) l (sets l p.answers ws)

-- the numbers grow by no more than the line is long
abbrev pub Grows : Parts → ℕ → Option Parts → Type 0
Grows p n None = Unit {0}
Grows p n (Some q) = (q.listed ≤ p.listed + n) × (q.written ≤ p.written + n) × (q.room ≤ 65535) × (q.answers ≤ 4096)

-- numbers that are within their bounds, with a line that is still to come
pub record Room (p : Parts) (line : List ℕ) : Type 0 where
  pub listed : p.listed + length line ≤ 65536
  pub written : p.written + length line ≤ 65536
  pub room : p.room ≤ 65535
  pub answers : p.answers ≤ 4096

-- the call in the code's numbers, and its bytes in the buffers
abbrev pub parsed_of : Input → Result Call BadLine
parsed_of (bad_line k) = Err (record { number = k })
parsed_of (call chip address s) = Ok (record { header = record { chip = chip; address = address }; parts = parts_of s })

-- what the buffers were, and are now: the call's bytes and answers stand at their starts
abbrev pub FilledWith : Input → List ℕ → List ℕ → List ℕ → List ℕ → List ℕ → List ℕ → Type 0
FilledWith (bad_line k) list list' written written' words words' = Unit {0}
FilledWith (call chip address s) list list' written written' words words' =
    (list' ≡ sets list 0 s.list) × (written' ≡ sets written 0 s.written) × (words' ≡ sets words 0 s.answers)

-- the numbers of a call are within the buffers' bounds
abbrev pub Within : Result Call BadLine → Type 0
Within (Err b) = Unit {0}
Within (Ok c) = (c.parts.listed ≤ 65536) × (c.parts.written ≤ 65536) × (c.parts.room ≤ 65535) × (c.parts.answers ≤ 4096)
