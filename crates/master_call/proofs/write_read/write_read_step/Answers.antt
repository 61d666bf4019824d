-- `master_call::write_read::write_read_step` meets its contract.
use borrow.Author.Rules.{rules}
use mathlib.Core.Path.{◌≡◌, refl, sym, ◌∙◌}
use mathlib.Core.Bool.{true, false}
use Rattle.master_call.proofs.RunLaws.{both, written_steps, read_back_steps, both_refused}
use Rattle.master_call.proofs.write_read.write_read_step.Goals as goal

pub returns-then-run-eq0 : goal.returns-then-run-eq0
returns-then-run-eq0 c =
    λ all.
    let e : both c.args.block.now c.args.written c.args.room ≡ true = rw (← c.is_call_of.ensures, ← c.word-address.ensures, ← c.word-run.ensures, ← c.few_enough.ensures) c.if-is_call_of-address.true in
    written_steps c.args.block.now _ _ _ _ _ (search rules) all e (sym c.word-run.ensures ∙ c.if-run-eq0.true) _ c.here_by-here.ensures c.step_in.ensures

pub returns-then-is_call_of-address : goal.returns-then-is_call_of-address
returns-then-is_call_of-address c =
    λ all.
    let e : both c.args.block.now c.args.written c.args.room ≡ true = rw (← c.is_call_of.ensures, ← c.word-address.ensures, ← c.word-run.ensures, ← c.few_enough.ensures) c.if-is_call_of-address.true in
    read_back_steps c.args.block.now _ _ _ _ _ (search rules) all e (λ z. c.if-run-eq0.false (c.word-run.ensures ∙ z)) _ c.here_by-here-then-is_call_of-address.ensures c.step_in-then-is_call_of-address.ensures

pub returns : goal.returns
returns c =
    λ all.
    let e : both c.args.block.now c.args.written c.args.room ≡ false = rw (← c.is_call_of.ensures, ← c.word-address.ensures, ← c.word-run.ensures, ← c.few_enough.ensures) c.if-is_call_of-address.false in
    both_refused c.args.block.now _ _ _ _ _ e (record { block = refl; ended = c.refused.ensures })
