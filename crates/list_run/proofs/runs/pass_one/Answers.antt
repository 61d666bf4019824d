-- `list_run::runs::pass_one` meets its contract.
use mathlib.Core.Path.{refl, sym, ap}
use native.Mathlib.Omega.{arith}
use borrow.Author.Tests.{eq-eqb, ne_eqb}
use Rattle.operations.specs.declared.operation.Direction.TheVariants.{Write, Read}
use Rattle.operations.specs.Operations.{direction_of}
use Rattle.list_run.proofs.PassLaws.{one_unknown, one_flawed, one_passed}
use Rattle.list_run.proofs.runs.pass_one.Goals as goal

pub returns-in-0 : goal.returns-in-0
returns-in-0 c =
    one_passed _ _ _ c.requires Write _ (omega (arith, c.in-0.is)) (ap direction_of (sym c.in-0.is)) c.word_of-length.ensures refl (omega (arith, c.word_of-length.type_inv)) _ (omega arith) _ c.behind.ensures

pub returns-in-1 : goal.returns-in-1
returns-in-1 c =
    one_passed _ _ _ c.requires Read _ (omega (arith, c.in-1.is)) (ap direction_of (sym c.in-1.is)) c.word_of-length.ensures (ne_eqb _ 0 c.if-length-ne0.true) (omega (arith, c.word_of-length.type_inv)) _ (omega arith) _ c.behind-in-1.ensures

pub returns-in_default : goal.returns-in_default
returns-in_default c =
    one_flawed _ _ _ c.requires Read _ (omega (arith, c.in-1.is)) (ap direction_of (sym c.in-1.is)) c.word_of-length.ensures (eq-eqb _ 0 c.if-length-ne0.false)

pub returns-in_default-2 : goal.returns-in_default-2
returns-in_default-2 c = one_unknown _ _ _ c.requires (omega (arith, c.in_default))
