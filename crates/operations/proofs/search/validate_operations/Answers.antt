-- `operations::search::validate_operations` meets its contract.
use mathlib.Core.Path.{refl, sym, ◌∙◌}
use Rattle.operations.proofs.SearchLaws.{no_direction, read_of_none, too_long, passes, no_whole, sums_up}
use Rattle.operations.proofs.search.validate_operations.Goals as goal

pub returns-then-bytes-gt1 : goal.returns-then-bytes-gt1
returns-then-bytes-gt1 c =
    let a = c.as_chunks.ensures in
    no_direction c.args.list.now a.front a.back c.loop-bytes.invariant c.loop-bytes-test.true refl c.if-bytes-gt1.true

pub returns-then-is_empty_read : goal.returns-then-is_empty_read
returns-then-is_empty_read c =
    let a = c.as_chunks.ensures in
    read_of_none c.args.list.now a.front a.back c.loop-bytes.invariant c.loop-bytes-test.true refl c.if-bytes-gt1.false c.operation_at-operation.ensures
    (sym c.is_empty_read.ensures ∙ c.if-is_empty_read.true)

pub returns-then-total-gt65535 : goal.returns-then-total-gt65535
returns-then-total-gt65535 c =
    let a = c.as_chunks.ensures in
    too_long c.args.list.now a.front a.back c.loop-bytes.invariant c.loop-bytes-test.true refl c.if-bytes-gt1.false c.operation_at-operation.ensures
    (sym c.is_empty_read.ensures ∙ c.if-is_empty_read.false) c.if-total-gt65535.true

pub loop-bytes-preserved : goal.loop-bytes-preserved
loop-bytes-preserved c =
    let a = c.as_chunks.ensures in
    passes c.args.list.now a.front a.back c.loop-bytes.invariant c.loop-bytes-test.true refl c.if-bytes-gt1.false c.operation_at-operation.ensures
    (sym c.is_empty_read.ensures ∙ c.if-is_empty_read.false) c.if-total-gt65535.false c.added-seen.ensures

pub returns-then-not-is_empty : goal.returns-then-not-is_empty
returns-then-not-is_empty c =
    let a = c.as_chunks.ensures in
    no_whole c.args.list.now a.front a.back c.loop-bytes.invariant c.loop-bytes-test.false (sym c.is_empty.ensures ∙ c.if-not-is_empty.true)

pub returns : goal.returns
returns c =
    let a = c.as_chunks.ensures in
    sums_up c.args.list.now a.front a.back c.loop-bytes.invariant c.loop-bytes-test.false (sym c.is_empty.ensures ∙ c.if-not-is_empty.false) c.ended-written.ensures
