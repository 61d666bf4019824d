-- `master_call::transaction::transaction_step` meets its contract.
use borrow.Author.Rules.{rules}
use mathlib.Core.Path.{◌≡◌, refl}
use mathlib.Core.Bool.{true, false}
use Rattle.master_call.proofs.ListLaws.{calling, call_refused, list_refused, list_steps}
use Rattle.master_call.proofs.transaction.transaction_step.Goals as goal

pub returns-in_default : goal.returns-in_default
returns-in_default c =
    λ all.
    let e : calling c.args.block.now ≡ true = rw (← c.is_call_of.ensures, ← c.word-address.ensures) c.if-is_call_of-address.true in
    list_refused c.args.block.now c.args.list.now c.args.written c.args.room _ _ _ all e c.find.result (rw (← c.word-run.ensures) c.find.ensures) c.in_default.is (record { block = refl; ended = c.refused.ensures })

pub returns-then-is_call_of-address : goal.returns-then-is_call_of-address
returns-then-is_call_of-address c =
    λ all.
    let e : calling c.args.block.now ≡ true = rw (← c.is_call_of.ensures, ← c.word-address.ensures) c.if-is_call_of-address.true in
    list_steps c.args.block.now c.args.list.now c.args.written c.args.room _ _ _ all e c.find.result (rw (← c.word-run.ensures) c.find.ensures) (search rules) c.in-Some.found c.in-Some.is _ c.here_by-here.ensures c.step_in.ensures

pub returns : goal.returns
returns c =
    λ all.
    let e : calling c.args.block.now ≡ false = rw (← c.is_call_of.ensures, ← c.word-address.ensures) c.if-is_call_of-address.false in
    call_refused c.args.block.now _ _ _ _ _ _ e (record { block = refl; ended = c.refused-2.ensures })
