-- `operation_bytes::byte_list::ByteList::push` meets its contract.
use Rattle.std.proofs.Common.{rules}
use native.Mathlib.Omega.{arith}
use Rattle.operation_bytes.proofs.FilledLaws.{pushed}
use Rattle.operation_bytes.proofs.byte_list.ByteList.push.Goals as goal

pub invariant_of-self : goal.invariant_of-self
invariant_of-self c = pushed c.self.inside.count c.self.inside.bytes c.self.invariant _ _ (search rules) (search rules) (search rules)
