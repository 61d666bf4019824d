-- `bench_text::line::put_words` meets its contract: what is left to store leads to the whole.
use mathlib.Core.Path.{sym, ap, ◌∙◌}
use mathlib.Core.List.{List, map}
use Prim.Native.Nat.{ℕ}
use lib.ListN.{length, length-map}
use lib.Seq.{sets}
use Rattle.bench_text.proofs.LineLaws.{number_in, words_mapped}
use Rattle.bench_text.proofs.PutLaws.{each_all}
use Rattle.bench_text.proofs.line.put_words.Goals as goal

pub returns-clause-value : goal.returns-clause-value
returns-clause-value c = sym (length-map c.as_chunks.result.0.now number_in) ∙ ap (λ (l : List (List ℕ)). length (map number_in l)) c.as_chunks.ensures.front ∙ ap length (words_mapped c.args.text.now)

pub returns-clause-out_after : goal.returns-clause-out_after
returns-clause-out_after c =
    (each_all number_in c.as_chunks.result.0.now c.args.to c.loop-i.i c.loop-i-test.false c.loop-i.invariant.leads).1
    ∙ ap (λ (l : List (List ℕ)). sets c.args.out.now c.args.to (map number_in l)) c.as_chunks.ensures.front ∙ ap (sets c.args.out.now c.args.to) (words_mapped c.args.text.now)
