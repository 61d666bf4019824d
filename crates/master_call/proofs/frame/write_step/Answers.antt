-- `master_call::frame::write_step` meets its contract.
use borrow.Author.Rules.{rules}
use mathlib.Core.Path.{◌≡◌, refl}
use mathlib.Core.Bool.{true, false}
use Rattle.master_call.proofs.RunLaws.{writing, write_steps, write_refused}
use Rattle.master_call.proofs.frame.write_step.Goals as goal

pub returns-then-is_call_of-address : goal.returns-then-is_call_of-address
returns-then-is_call_of-address c =
    λ all.
    let e : writing c.args.block.now c.args.written ≡ true = rw (← c.is_call_of.ensures, ← c.word-address.ensures, ← c.word-run.ensures) c.if-is_call_of-address.true in
    write_steps c.args.block.now _ _ _ _ (search rules) all e _ c.here_by-here.ensures c.step_in.ensures

pub returns : goal.returns
returns c =
    λ all.
    let e : writing c.args.block.now c.args.written ≡ false = rw (← c.is_call_of.ensures, ← c.word-address.ensures, ← c.word-run.ensures) c.if-is_call_of-address.false in
    write_refused c.args.block.now _ _ _ _ e (record { block = refl; ended = c.refused.ensures })
