-- Inputs that say a call, and what the bench prints for them, by layer 1: a byte read from address 0x50, whole, and with answers for its START
-- alone; and a call that is refused.
-- Assumes nothing.
use mathlib.Core.Path.{◌≡◌, refl, ◌∙◌}
use mathlib.Core.Bool.{true}
use mathlib.Core.List.{List, [], ◌∷◌, ◌++◌}
use mathlib.Core.Option.{none, some}
use Prim.Native.Nat.{ℕ, ◌≤◌}
use native.Mathlib.Omega.{arith}
use lib.ListN.{length}
use Rattle.registers.specs.declared.register.Register.TheVariants.{Ctlr1, Ctlr2, Datar, Star1, Star2}
use Rattle.registers.specs.Word.{has_bit, put_bit, field_of, put_field}
use Rattle.registers.specs.Flags.{error_flags, clear_error}
use Rattle.registers.specs.Addresses.{address_word}
use Rattle.access.specs.declared.ending.Error.TheVariants.{InvalidAddress}
use Rattle.access.specs.Endings.{failed}
use Rattle.access.specs.Program.{check_timeout, late}
use Rattle.access.specs.Record.{no_more}
use Rattle.operations.specs.Operations.{operations_of, shaped}
use Rattle.operations.specs.Runs.{runs_of, runs_from}
use Rattle.operations.specs.Search.{fault_from}
use Rattle.errors.specs.Classes.{error_of}
use Rattle.errors.specs.Check.{check_errors}
use Rattle.master.specs.Calls.{refusal, ours_with}
use Rattle.master.specs.Rust as rust
use Rattle.master.specs.Ours as ours
use Rattle.bench_text.specs.Digits.{digit_of, pair_of, word_of, glyph, word_text}
use Rattle.bench_text.specs.Lines.{lines_from}
use Rattle.bench_text.specs.Forms.{pairs_then_end, bytes_of, words_then_end, words_of, is_header, header_of, read_length_of}
use Rattle.bench_text.specs.Shown.{read_text, write_text, arrived_text, end_text, open_text}
use Rattle.bench_text.specs.Input.{Said, said_nothing, writes_in, reads_in, answers_in, line_of, said_with, call, input_from, input_of}
use Rattle.bench_run.specs.Printed.{printed_of}
use Rattle.bench_run.specs.Layer1.{text_of}
use Rattle.bench_run.specs.Claims.{cause_of, our_play, rust_play}
use Rattle.bench_run.proofs.PrintsLayer1.{bench_prints}

-- words, commas between them, and the line feed
abbrev words_line : List ℕ → List ℕ
words_line [] = 10 ∷ []
words_line (v ∷ []) = word_text v ++ (10 ∷ [])
words_line (v ∷ w ∷ vs) = word_text v ++ (44 ∷ words_line (w ∷ vs))

-- `T,0,50`, `R,0001`, and `A,` with these answers
abbrev input : List ℕ → List ℕ
input answers = (84 ∷ 44 ∷ 48 ∷ 44 ∷ 53 ∷ 48 ∷ 10 ∷ []) ++ ((82 ∷ 44 ∷ []) ++ (words_line (1 ∷ []) ++ ((65 ∷ 44 ∷ []) ++ words_line answers)))

abbrev said : List ℕ → Said
said answers = record { list = 1 ∷ 1 ∷ 0 ∷ []; written = []; room = 1; answers = answers; answered = true }

-- up to the answer of the first wait, and all
abbrev begun : List ℕ
begun = 0 ∷ 0 ∷ 0 ∷ 0 ∷ 0 ∷ []

abbrev all : List ℕ
all = 0 ∷ 0 ∷ 0 ∷ 0 ∷ 0 ∷ 1 ∷ 0 ∷ 1 ∷ 2 ∷ 0 ∷ 0 ∷ 0 ∷ 0x40 ∷ 0x40 ∷ 0x1a5 ∷ 0 ∷ 0 ∷ []

begun_said : input_of (input begun) ≡ call 0 0x50 (said begun)
unfolding input_of lines_from input_from header_of is_header line_of reads_in answers_in said_with read_length_of words_then_end words_of word_of pair_of digit_of glyph
begun_said = refl

all_said : input_of (input all) ≡ call 0 0x50 (said all)
unfolding input_of lines_from input_from header_of is_header line_of reads_in answers_in said_with read_length_of words_then_end words_of word_of pair_of digit_of glyph
all_said = refl

accepted : (answers : List ℕ) → cause_of 0 0x50 (said answers) ≡ none
unfolding refusal shaped fault_from operations_of runs_of runs_from
accepted answers = refl

-- the lines of the START
abbrev start : List ℕ → List ℕ
start rest =
    read_text Ctlr1 0 ++ (write_text Ctlr1 0 ++ (read_text Ctlr1 0 ++ (read_text Ctlr1 0 ++ (read_text Star1 0 ++ (read_text Ctlr1 0 ++ (write_text Ctlr1 0x500 ++ rest))))))

begun_text : text_of (our_play 16 0 0x50 (said begun)) ≡ start (arrived_text [] ++ open_text 5)
unfolding ours_with operations_of rust.blocking_transaction rust.validate_address rust.validate_operations rust.validate_from rust.checked_add rust.transact rust.blocking_read_iter rust.start_and_address rust.launch_start rust.wait_stop_finished rust.wait_flag ours.check_and_clear_error_flags check_errors error_of rust.abort_transfer rust.finish_transfer rust.generate_stop rust.recv_next rust.recv_byte has_bit put_bit field_of put_field error_flags clear_error address_word check_timeout late
begun_text = refl

abbrev whole : List ℕ
whole =
    start
    (read_text Star1 1 ++ (read_text Ctlr1 0 ++ (read_text Star2 1 ++ (write_text Datar 0xa1 ++ (read_text Star1 2 ++ (read_text Ctlr1 0 ++ (write_text Ctlr1 0 ++ (read_text Star2 0
    ++ (read_text Ctlr1 0 ++ (write_text Ctlr1 0x200 ++ (read_text Star1 0x40 ++ (read_text Star1 0x40 ++ (read_text Datar 0x1a5 ++ (read_text Ctlr1 0 ++ (read_text Ctlr1 0 ++ (write_text Ctlr1 0
    ++ (arrived_text (0xa5 ∷ []) ++ end_text 0 17 0)))))))))))))))))

all_text : text_of (our_play 52 0 0x50 (said all)) ≡ whole
unfolding ours_with operations_of rust.blocking_transaction rust.validate_address rust.validate_operations rust.validate_from rust.checked_add rust.transact rust.blocking_read_iter rust.start_and_address rust.launch_start rust.wait_stop_finished rust.wait_flag ours.check_and_clear_error_flags check_errors error_of rust.abort_transfer rust.finish_transfer rust.generate_stop rust.recv_next rust.recv_byte has_bit put_bit field_of put_field error_flags clear_error address_word check_timeout late
all_text = refl

-- the program prints this, whatever lies where bytes are read to
module _ (read : List ℕ) (long : 65535 ≤ length read) where
  begun_printed : printed_of (input_of (input begun)) read ≡ start (arrived_text [] ++ open_text 5)
  begun_printed = bench_prints.accepted (input begun) read long 0 0x50 (said begun) begun_said (accepted begun) 16 (omega arith) ∙ begun_text

  all_printed : printed_of (input_of (input all)) read ≡ whole
  all_printed = bench_prints.accepted (input all) read long 0 0x50 (said all) all_said (accepted all) 52 (omega arith) ∙ all_text

-- ---- document 01's example, an empty write that nobody acknowledges: behind the end stand the flags

abbrev nobody : List ℕ
nobody = 1 ∷ 1 ∷ 0 ∷ 1 ∷ 1 ∷ 1 ∷ 3 ∷ 0x400 ∷ 8 ∷ 1 ∷ 3 ∷ 1 ∷ []

-- `T,0,21`, `W,`, and `A,` with these answers
abbrev to_nobody : List ℕ
to_nobody = (84 ∷ 44 ∷ 48 ∷ 44 ∷ 50 ∷ 49 ∷ 10 ∷ []) ++ ((87 ∷ 44 ∷ 10 ∷ []) ++ ((65 ∷ 44 ∷ []) ++ words_line nobody))

abbrev said_to_nobody : Said
said_to_nobody = record { list = 0 ∷ 0 ∷ 0 ∷ []; written = []; room = 0; answers = nobody; answered = true }

nobody_said : input_of to_nobody ≡ call 0 0x21 said_to_nobody
unfolding input_of lines_from input_from header_of is_header line_of writes_in answers_in said_with pairs_then_end bytes_of words_then_end words_of word_of pair_of digit_of glyph
nobody_said = refl

nobody_accepted : cause_of 0 0x21 said_to_nobody ≡ none
unfolding refusal shaped fault_from operations_of runs_of runs_from
nobody_accepted = refl

abbrev nobody_text : List ℕ
nobody_text =
    read_text Ctlr1 1 ++ (read_text Ctlr1 1 ++ (read_text Star1 0 ++ (read_text Ctlr1 1 ++ (write_text Ctlr1 0x101 ++ (read_text Star1 1 ++ (read_text Ctlr1 1 ++ (read_text Star2 3
    ++ (write_text Datar 0x42 ++ (read_text Star1 0x400 ++ (write_text Star1 0xfbff ++ (read_text Ctlr2 8 ++ (write_text Ctlr2 8 ++ (read_text Ctlr1 1 ++ (read_text Star2 3
    ++ (read_text Ctlr1 1 ++ (write_text Ctlr1 0x201 ++ (arrived_text [] ++ end_text 3 12 0x400)))))))))))))))))

nobody_text_lem : text_of (our_play 37 0 0x21 said_to_nobody) ≡ nobody_text
unfolding ours_with operations_of rust.blocking_transaction rust.validate_address rust.validate_operations rust.validate_from rust.checked_add rust.transact rust.write_group rust.write_bytes rust.start_and_address rust.launch_start rust.wait_stop_finished rust.wait_flag ours.check_and_clear_error_flags check_errors error_of rust.abort_transfer rust.finish_transfer rust.generate_stop has_bit put_bit field_of put_field error_flags clear_error address_word check_timeout late
nobody_text_lem = refl

nobody_printed : (read : List ℕ) → 65535 ≤ length read → printed_of (input_of to_nobody) read ≡ nobody_text
nobody_printed read long = bench_prints.accepted to_nobody read long 0 0x21 said_to_nobody nobody_said nobody_accepted 37 (omega arith) ∙ nobody_text_lem

-- ---- a refused call: address 0x80, which the Rust refuses too

-- `T,0,80`
abbrev to80 : List ℕ
to80 = 84 ∷ 44 ∷ 48 ∷ 44 ∷ 56 ∷ 48 ∷ 10 ∷ []

to80_said : input_of to80 ≡ call 0 0x80 said_nothing
unfolding input_of lines_from input_from header_of is_header pair_of digit_of
to80_said = refl

to80_refused : cause_of 0 0x80 said_nothing ≡ some InvalidAddress
unfolding refusal shaped
to80_refused = refl

to80_printed : (read : List ℕ) → 65535 ≤ length read → printed_of (input_of to80) read ≡ arrived_text [] ++ end_text 9 0 0
to80_printed read long = bench_prints.refused to80 read long 0 0x80 said_nothing to80_said InvalidAddress to80_refused

to80_rust : rust_play 1 0 0x80 said_nothing ≡ no_more (some (failed InvalidAddress))
to80_rust = bench_prints.rust_refuses 0 0x80 said_nothing InvalidAddress to80_refused refl 1 (omega arith)
