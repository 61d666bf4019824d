-- `master_call::frame::read_step` meets its contract.
use borrow.Author.Rules.{rules}
use mathlib.Core.Path.{◌≡◌, refl}
use mathlib.Core.Bool.{true, false}
use Rattle.master_call.proofs.RunLaws.{reading, read_steps, read_refused}
use Rattle.master_call.proofs.frame.read_step.Goals as goal

pub returns-then-is_call_of-address : goal.returns-then-is_call_of-address
returns-then-is_call_of-address c =
    λ all.
    let e : reading c.args.block.now c.args.room ≡ true = rw (← c.is_call_of.ensures, ← c.word-address.ensures, ← c.word-run.ensures) c.if-is_call_of-address.true in
    read_steps c.args.block.now _ _ _ _ (search rules) all e _ c.here_by-here.ensures c.step_in.ensures

pub returns : goal.returns
returns c =
    λ all.
    let e : reading c.args.block.now c.args.room ≡ false = rw (← c.is_call_of.ensures, ← c.word-address.ensures, ← c.word-run.ensures) c.if-is_call_of-address.false in
    read_refused c.args.block.now _ _ _ _ e (record { block = refl; ended = c.refused.ensures })
