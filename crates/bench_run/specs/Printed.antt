-- What the bench program prints for an input.
use Rattle.std.specs.Prelude.{ℕ, List, take, replicate}
use Rattle.ch32_i2c.specs.Transfer.{transaction_begin}
use Rattle.bench_text.specs.Shown.{bad_text}
use Rattle.bench_text.specs.Input.{Input, bad_line, call}
use Rattle.bench_run.specs.Play.{play_from, most_turns}

-- the transaction of a chip's number and an address, on a fresh block, with these bytes lent to read
abbrev pub call_text : ℕ → ℕ → List ℕ → List ℕ → List ℕ → List ℕ → List ℕ
call_text chip address list written answers read = play_from most_turns list written answers (transaction_begin (replicate 32 0) chip address list written read) 0 0

-- `read` is what lies where bytes are read to
abbrev pub printed_of : Input → List ℕ → List ℕ
printed_of (bad_line k) read = bad_text k
printed_of (call chip address s) read = call_text chip address s.list s.written s.answers (take s.room read)
