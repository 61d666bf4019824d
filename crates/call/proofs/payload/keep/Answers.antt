-- `call::payload::keep` meets its contract.
use Rattle.std.proofs.Common.{rules}
use Prim.Native.Nat.{ℕ, ◌<◌}
use mathlib.Core.Path.{sym, subst}
use Rattle.registers.specs.Fields.{DATA}
use Rattle.registers.proofs.WordLaws.{field_bound}
use Rattle.call.proofs.payload.keep.Goals as goal

pub overflow_cast-field_of : goal.overflow_cast-field_of
overflow_cast-field_of c =
    let h : c.field_of.result < 256 = subst (λ (n : ℕ). n < 256) (sym c.field_of.ensures) (field_bound DATA c.args.answer) in search rules
