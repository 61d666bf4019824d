-- `bench_text::input::take` meets its contract.
use mathlib.Core.Path.{sym, ◌∙◌}
use Rattle.bench_text.specs.Taken.{taken_with, list_with, written_with, answers_with}
use Rattle.bench_text.proofs.TakeLaws.{line_short, line_unparted, line_writes, line_reads, line_answers, line_unknown, write_leaves_answers, read_leaves_written, read_leaves_answers, answers_leave_list, answers_leave_written}
use Rattle.bench_text.proofs.input.take.Goals as goal

pub returns-then-line-lt3 : goal.returns-then-line-lt3
unfolding taken_with list_with written_with answers_with
returns-then-line-lt3 c =
    let e = line_short c.args.line.now c.if-line-lt3.true in record {
      value = rw e;
      list_after = rw e;
      written_after = rw e;
      answers_after = rw e;
      grows = tt;
    }

pub returns-then-byte_at-ne44 : goal.returns-then-byte_at-ne44
unfolding taken_with list_with written_with answers_with
returns-then-byte_at-ne44 c =
    let e = line_unparted c.args.line.now c.if-line-lt3.false (λ q. c.if-byte_at-ne44.true (c.byte_at.ensures ∙ q)) in record {
      value = rw e;
      list_after = rw e;
      written_after = rw e;
      answers_after = rw e;
      grows = tt;
    }

pub returns-then-letter-eq87 : goal.returns-then-letter-eq87
returns-then-letter-eq87 c =
    let e = line_writes c.args.line.now c.if-line-lt3.false (sym c.byte_at.ensures ∙ c.if-byte_at-ne44.false) (sym c.byte_at-letter.ensures ∙ c.if-letter-eq87.true) in record {
      value = rw e c.take_write.ensures.value;
      list_after = rw e c.take_write.ensures.list_after;
      written_after = rw e c.take_write.ensures.written_after;
      answers_after = rw (e, write_leaves_answers c.args.parts c.args.line.now c.args.answers.now);
      grows = c.take_write.ensures.grows;
    }

pub returns-then-letter-eq82 : goal.returns-then-letter-eq82
returns-then-letter-eq82 c =
    let e = line_reads c.args.line.now c.if-line-lt3.false (sym c.byte_at.ensures ∙ c.if-byte_at-ne44.false) (λ q. c.if-letter-eq87.false (c.byte_at-letter.ensures ∙ q)) (sym c.byte_at-letter.ensures ∙ c.if-letter-eq82.true) in record {
      value = rw e c.take_read.ensures.value;
      list_after = rw e c.take_read.ensures.list_after;
      written_after = rw (e, read_leaves_written c.args.parts c.args.line.now c.args.written.now);
      answers_after = rw (e, read_leaves_answers c.args.parts c.args.line.now c.args.answers.now);
      grows = c.take_read.ensures.grows;
    }

pub returns-then-letter-eq65 : goal.returns-then-letter-eq65
returns-then-letter-eq65 c =
    let e = line_answers c.args.line.now c.if-line-lt3.false (sym c.byte_at.ensures ∙ c.if-byte_at-ne44.false) (λ q. c.if-letter-eq87.false (c.byte_at-letter.ensures ∙ q)) (λ q. c.if-letter-eq82.false (c.byte_at-letter.ensures ∙ q)) (sym c.byte_at-letter.ensures ∙ c.if-letter-eq65.true) in record {
      value = rw e c.take_answers.ensures.value;
      list_after = rw (e, answers_leave_list c.args.parts c.args.line.now c.args.list.now);
      written_after = rw (e, answers_leave_written c.args.parts c.args.line.now c.args.written.now);
      answers_after = rw e c.take_answers.ensures.answers_after;
      grows = c.take_answers.ensures.grows;
    }

pub returns : goal.returns
unfolding taken_with list_with written_with answers_with
returns c =
    let e = line_unknown c.args.line.now c.if-line-lt3.false (sym c.byte_at.ensures ∙ c.if-byte_at-ne44.false) (λ q. c.if-letter-eq87.false (c.byte_at-letter.ensures ∙ q)) (λ q. c.if-letter-eq82.false (c.byte_at-letter.ensures ∙ q)) (λ q. c.if-letter-eq65.false (c.byte_at-letter.ensures ∙ q)) in record {
      value = rw e;
      list_after = rw e;
      written_after = rw e;
      answers_after = rw e;
      grows = tt;
    }
