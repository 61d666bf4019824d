-- `operations::search::validate_operations`: at each operation, what is left leads to the whole's answer.
use Rattle.operations.proofs.SearchLaws.{Holds}
use Rattle.operations.proofs.search.validate_operations.Given as goal

abbrev pub invariant-loop-bytes : goal.invariant-loop-bytes
invariant-loop-bytes l = Holds l.operations l.end l.number l.bytes-index l.total l.seen
