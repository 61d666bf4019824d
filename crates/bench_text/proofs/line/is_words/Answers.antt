-- `bench_text::line::is_words` meets its contract.
use mathlib.Core.Path.{sym, ◌∙◌}
use Rattle.bench_text.proofs.LineLaws.{words_all, no_words_at_all}
use Rattle.bench_text.proofs.line.is_words.Goals as goal

pub returns-in-Some : goal.returns-in-Some
returns-in-Some c =
    rw (c.is_empty.ensures, c.are_words.ensures, c.is_word.ensures, c.as_chunks.ensures.back)
    (words_all c.args.text.now c.in-Some.before.now c.in-Some.last.now (sym c.as_chunks.ensures.front ∙ c.in-Some.ensures.cases.0))

pub returns-in-None : goal.returns-in-None
returns-in-None c = no_words_at_all c.args.text.now (sym c.as_chunks.ensures.front_len ∙ c.in-None.ensures.cases)
