-- `bench_run::answer::answer` meets its contract.
use Rattle.std.proofs.Common.{sym, ◌∙◌, le_trans}
use Rattle.bench_text.specs.Input.{input_of}
use Rattle.bench_text.proofs.PutLaws.{same_length}
use Rattle.bench_run.proofs.PrintedLaws.{call_printed}
use Rattle.bench_run.proofs.answer.answer.Goals as goal

pub returns-clause-puts : goal.returns-clause-puts
returns-clause-puts c =
    let w = c.in-Ok.ensures.within in
    let e = call_printed (input_of c.args.input.now) _ _ _ _ _ _ _ _ _ c.args.room.read.now (sym c.parse.ensures.value ∙ c.in-Ok.is) c.parse.ensures.filled_with (le_trans w.0 c.requires.in_bounds) (le_trans w.1 c.requires.in_bounds_2) (le_trans w.3 c.requires.in_bounds_3) in
    rw e c.play.ensures.puts

pub returns-clause-same_length : goal.returns-clause-same_length
returns-clause-same_length c = same_length c.play.ensures.puts

pub returns-in-Err-clause-same_length : goal.returns-in-Err-clause-same_length
returns-in-Err-clause-same_length c = same_length c.put_bad.ensures.puts
