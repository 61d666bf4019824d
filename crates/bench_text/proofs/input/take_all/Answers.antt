-- `bench_text::input::take_all` meets its contract: what the lines that are left say leads to what the whole input says.
use Prim.Native.Nat.{◌<◌}
use lib.ListN.{length}
use mathlib.Core.Path.{◌≡◌, sym, ◌∙◌}
use Rattle.std.proofs.lemmas.Grind.{common_steps}
use Rattle.bench_text.proofs.InputLaws.{first_of, at_start, all_said, has_room, bad_line_lem, good_line, handed_on}
use native.Mathlib.Omega.{arith}
use Rattle.bench_text.proofs.input.take_all.Goals as goal

pub loop-left-init : goal.loop-left-init
loop-left-init c = at_start _ _ _ _ _ _

pub take-requires : goal.take-requires
take-requires c =
    let s = c.split_at.ensures in
    let h : 0 < length c.loop-left.left.now = grind (arith, common_steps) in
    let f = first_of _ c.line_end.ensures.value s.front s.back h c.line_end.ensures.upper_bound in
    has_room _ _ _ _ _ _ c.loop-left.invariant f c.requires

pub returns-in_err-parts-clause-value : goal.returns-in_err-parts-clause-value
returns-in_err-parts-clause-value c =
    let s = c.split_at.ensures in
    let h : 0 < length c.loop-left.left.now = grind (arith, common_steps) in
    let f = first_of _ c.line_end.ensures.value s.front s.back h c.line_end.ensures.upper_bound in
    let v = rw c.in_err-parts.ensures.ok_part at c.in_err-parts.ensures.value in
    rw (bad_line_lem _ _ _ _ _ _ c.loop-left.invariant f (sym c.take.ensures.value ∙ c.in_err-parts.ensures.ok_part)) (handed_on _ c.from_residual.ensures.1 v)

pub returns-in_err-parts-clause-filled_with : goal.returns-in_err-parts-clause-filled_with
returns-in_err-parts-clause-filled_with c =
    let s = c.split_at.ensures in
    let h : 0 < length c.loop-left.left.now = grind (arith, common_steps) in
    let f = first_of _ c.line_end.ensures.value s.front s.back h c.line_end.ensures.upper_bound in
    rw (bad_line_lem _ _ _ _ _ _ c.loop-left.invariant f (sym c.take.ensures.value ∙ c.in_err-parts.ensures.ok_part)) tt

pub loop-left-smaller : goal.loop-left-smaller
loop-left-smaller c =
    let s = c.split_at.ensures in
    let h : 0 < length c.loop-left.left.now = grind (arith, common_steps) in
    let f = first_of _ c.line_end.ensures.value s.front s.back h c.line_end.ensures.upper_bound in
    omega (arith, f.whole, f.positive)

pub loop-left-preserved : goal.loop-left-preserved
loop-left-preserved c =
    let s = c.split_at.ensures in
    let h : 0 < length c.loop-left.left.now = grind (arith, common_steps) in
    let f = first_of _ c.line_end.ensures.value s.front s.back h c.line_end.ensures.upper_bound in
    good_line _ _ _ _ _ _ c.loop-left.invariant f (sym c.take.ensures.value ∙ c.in_ok-parts.ensures.ok_part) c.take.ensures.list_after c.take.ensures.written_after c.take.ensures.answers_after (rw c.in_ok-parts.ensures.ok_part at c.take.ensures.grows)

pub returns-clause-value : goal.returns-clause-value
returns-clause-value c =
    let z : length c.loop-left.left.now ≡ 0 = grind (arith, common_steps) in
    rw (← all_said _ _ _ _ _ _ c.loop-left.invariant z, c.loop-left.invariant.parts)

pub returns-clause-filled_with : goal.returns-clause-filled_with
returns-clause-filled_with c =
    let z : length c.loop-left.left.now ≡ 0 = grind (arith, common_steps) in
    let k = c.loop-left.invariant in
    rw (← all_said _ _ _ _ _ _ c.loop-left.invariant z) (k.in_list, k.in_written, k.in_words)
