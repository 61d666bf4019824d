-- `slave_step::step::step_of` meets its contract.
use borrow.Author.Rules.{rules}
use Prim.Native.Nat.{ℕ, ◌<◌}
use mathlib.Core.Path.{refl, sym}
use lib.ListN.{get_or}
use Rattle.block.proofs.Codec.{all_bytes, bytes_back}
use Rattle.block.specs.Bytes32.{fields_of}
use Rattle.images.specs.SlaveImage.{slave_of}
use Rattle.slave_step.specs.Held.{held_in}
use Rattle.slave_step.proofs.HeldLaws.{unlent, unheld, held, seen, stepped}
use Rattle.slave_step.proofs.step.step_of.Goals as goal

pub returns-then-size-gt65535 : goal.returns-then-size-gt65535
unfolding held_in
returns-then-size-gt65535 c = unlent c.args.size c.args.answer c.args.block.now _ _ (held_in c.args.entry c.args.block.now) c.if-size-gt65535.true (record { block = refl; ended = c.refused.ensures })

pub returns-then-not-is_call-is_plain : goal.returns-then-not-is_call-is_plain
unfolding held_in fields_of
returns-then-not-is_call-is_plain c =
    let ready = rw (sym c.requires) at c.is_ready.ensures c.args.entry c.kind_of.ensures in
    unheld c.args.size c.args.answer c.args.block.now _ _ (fields_of c.args.block.now) c.args.entry c.is_call.ensures c.is_plain.ensures ready c.if-not-is_call-is_plain.true (record { block = refl; ended = c.refused-then-not-is_call-is_plain.ensures })

pub step_at-requires : goal.step_at-requires
unfolding fields_of slave_of
step_at-requires c =
    let b = c.args.block.now in
    let bytes : (i : ℕ) → get_or b i 0 < 256 = λ i. search rules in
    let ready = rw (sym c.requires) at c.is_ready.ensures c.args.entry c.kind_of.ensures in
    let fit = c.if-not-is_call-is_plain.false in
    record {
      held = rw (c.kind_of.ensures, sym c.requires) (held c.args.entry c.args.size (fields_of b) c.is_call.ensures c.is_plain.ensures ready fit (bytes 7) (bytes_back b (search rules) (all_bytes b bytes)));
      seen = rw (c.kind_of.ensures, sym c.requires) (seen c.args.entry c.args.size (fields_of b) c.is_call.ensures c.is_plain.ensures ready fit);
      kind = refl;
      lent = refl;
      counted = sym c.long.ensures;
    }

pub returns : goal.returns
unfolding held_in fields_of
returns c =
    let b = c.args.block.now in
    let bytes : (i : ℕ) → get_or b i 0 < 256 = λ i. search rules in
    let ready = rw (sym c.requires) at c.is_ready.ensures c.args.entry c.kind_of.ensures in
    stepped c.args.size c.args.answer b _ _ (fields_of b) c.args.entry c.is_call.ensures c.is_plain.ensures ready c.if-not-is_call-is_plain.false (bytes 7) c.if-size-gt65535.false (rw (c.kind_of.ensures, sym c.requires) at c.step_at.ensures)
