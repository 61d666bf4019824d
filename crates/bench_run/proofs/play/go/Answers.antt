-- `bench_run::play::go` meets its contract.
use Rattle.std.proofs.Common.{◌≡◌, ◌+◌, ◌-◌, ◌<◌, ◌≤◌, sym, ◌∙◌, arith}
use Rattle.bench_text.proofs.PutLaws.{same_length}
use Rattle.bench_run.proofs.PlayLaws.{going_ends, going_on, play_over, play_ended, play_open}
use Rattle.bench_run.proofs.play.go.Goals as goal

pub returns-then-is_end-clause-puts : goal.returns-then-is_end-clause-puts
returns-then-is_end-clause-puts c =
    let more : 0 < 16384 - c.loop-turn._turn = omega arith in
    going_ends _ _ _ c.loop-turn.invariant.going (play_ended _ _ _ _ _ _ _ more (sym c.is_end.ensures ∙ c.if-is_end.true)) c.finish.ensures.puts

pub returns-then-answers-used-clause-puts : goal.returns-then-answers-used-clause-puts
returns-then-answers-used-clause-puts c =
    let more : 0 < 16384 - c.loop-turn._turn = omega arith in
    going_ends _ _ _ c.loop-turn.invariant.going (play_open _ _ _ _ _ _ _ more (sym c.is_end.ensures ∙ c.if-is_end.false) (rw c.asked-taken.ensures.value at c.if-answers-used.true)) c.finish-then-answers-used.ensures.puts

pub loop-turn-preserved : goal.loop-turn-preserved
loop-turn-preserved c =
    let i = c.loop-turn.invariant in
    let e = c.step-next.ensures in
    let more : 0 < 16384 - c.loop-turn._turn = omega arith in
    let next : 16384 - (c.loop-turn._turn + 1) ≡ 16384 - c.loop-turn._turn - 1 = omega arith in
    record {
      stays = record {
        list = e.stays.list ∙ i.stays.list;
        written = e.stays.written ∙ i.stays.written;
        block = e.stays.block ∙ i.stays.block;
        read = e.stays.read ∙ i.stays.read;
        block_length = e.stays.block_length ∙ i.stays.block_length;
        read_length = e.stays.read_length ∙ i.stays.read_length;
      };
      same_reference = c.put_access.ensures.same_reference ∙ i.same_reference;
      going =
          rw next
          (going_on _ _ _ i.going more (sym c.is_end.ensures ∙ c.if-is_end.false) c.asked-taken.ensures.value c.if-answers-used.false c.arriving-arrived.ensures.value c.arriving-arrived.ensures.upper_bound c.answer_at-answer.ensures c.put_access.ensures.puts c.put_access.ensures.upper_bound (same_length c.put_access.ensures.puts)
          (rw (i.stays.list, i.stays.written) at e.value) (rw (i.stays.list, i.stays.written) at e.block_after) (rw (i.stays.list, i.stays.written) at e.read_after));
    }

pub returns-clause-puts : goal.returns-clause-puts
returns-clause-puts c =
    let none : 16384 - c.loop-turn._turn ≤ 0 = omega arith in
    going_ends _ _ _ c.loop-turn.invariant.going (play_over _ _ _ _ _ _ _ none) c.finish-2.ensures.puts
