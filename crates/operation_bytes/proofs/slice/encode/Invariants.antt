-- `operation_bytes::slice::encode`: so many operations are encoded.
use Rattle.std.proofs.Common.{◌≡◌, take}
use Rattle.operation_bytes.specs.Encoded.{encoded}
use Rattle.operation_bytes.proofs.slice.encode.Given as goal

abbrev pub invariant-loop-operation : goal.invariant-loop-operation
invariant-loop-operation l = l.list ≡ encoded (take l.operation-index l.few)
