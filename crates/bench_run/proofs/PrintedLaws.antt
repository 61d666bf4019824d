-- What is printed, by what the parser answers and leaves in the buffers.
-- Assumes nothing.
use Prim.Native.Nat.{ℕ, ◌+◌, ◌≤◌}
use mathlib.Core.Path.{◌≡◌, sym, ap, ◌∙◌}
use mathlib.Core.List.{List}
use native.Mathlib.Omega.{arith}
use lib.ListN.{length, take, drop}
use lib.Seq.{sets, sets-eq, take-append_seam}
use Rattle.bench_text.specs.declared.input.Parts.{Parts}
use Rattle.std.specs.Prelude.{Result, Ok, Err}
use Rattle.bench_text.specs.declared.input.BadLine.{BadLine}
use Rattle.bench_text.specs.declared.input.Call.{Call}
use Rattle.bench_text.specs.Shown.{bad_text}
use Rattle.bench_text.specs.Input.{Input, bad_line, call}
use Rattle.bench_text.specs.Taken.{parts_of, parsed_of, FilledWith}
use Rattle.bench_run.specs.Printed.{call_text, printed_of}

-- what stands at the start of a buffer
at_start : (b xs : List ℕ) → length xs ≤ length b → take (length xs) (sets b 0 xs) ≡ xs
at_start b xs h = ap (λ (l : List ℕ). take (length xs) l) (sets-eq xs b 0 (omega arith)) ∙ take-append_seam xs (drop (0 + length xs) b)

-- the bad line's number, and the call, where the parser answers it
abbrev number_in : Result Call BadLine → ℕ
number_in (Ok c) = 0
number_in (Err b) = b.number

abbrev call_in : Call → Result Call BadLine → Call
call_in d (Ok c) = c
call_in d (Err b) = d

pub bad_printed : (i : Input) (k : ℕ) (read : List ℕ) → parsed_of i ≡ Err (record { number = k }) → printed_of i read ≡ bad_text k
bad_printed (bad_line j) k read e = let q : j ≡ k = ap number_in e in rw q
bad_printed (call c a s) k read e = let z : ◌≡◌ {A = ℕ} 0 1 = cc in absurd (omega arith)

pub call_printed : (i : Input) (chip address : ℕ) (p : Parts) (list list' written written' words words' read : List ℕ) → parsed_of i ≡ Ok (record { header = record { chip = chip; address = address }; parts = p })
    → FilledWith i list list' written written' words words' → p.listed ≤ length list → p.written ≤ length written → p.answers ≤ length words
    → printed_of i read ≡ call_text chip address (take p.listed list') (take p.written written') (take p.answers words') (take p.room read)
call_printed (bad_line j) chip address p list list' written written' words words' read e f hl hw ha = let z : ◌≡◌ {A = ℕ} 0 1 = cc in absurd (omega arith)
call_printed (call c a s) chip address p list list' written written' words words' read e f hl hw ha =
    let w = ap (call_in (record { header = record { chip = c; address = a }; parts = parts_of s })) e in
    let q : p ≡ parts_of s = sym (ap (λ (x : Call). x.parts) w) in
    let t1 : take p.listed list' ≡ s.list = rw (q, f.0) (at_start list s.list (rw q at hl)) in
    let t2 : take p.written written' ≡ s.written = rw (q, f.1) (at_start written s.written (rw q at hw)) in
    let t3 : take p.answers words' ≡ s.answers = rw (q, f.2) (at_start words s.answers (rw q at ha)) in
    let r : p.room ≡ s.room = ap (λ (x : Parts). x.room) q in
    let c1 : chip ≡ c = sym (ap (λ (x : Call). x.header.chip) w) in
    let c2 : address ≡ a = sym (ap (λ (x : Call). x.header.address) w) in
    rw (t1, t2, t3, r, c1, c2)
