-- `input_bytes::read_full`: what was read before and what this turn read stand one behind the other.
use Rattle.std.proofs.Common.{◌≡◌, ℕ, ◌+◌, ◌-◌, ◌≤◌, List, ◌++◌, length, take, sym, ap, ◌∙◌, subst, arith}
use Rattle.std.proofs.lemmas.List.{take-append-le, length-take, length-take-le, length-drop}
use Rattle.std.proofs.Math.Seq.{take-append-add}
use Rattle.std.proofs.KnownBytes.{Consumes-trans}
use Rattle.std.specs.Io.KnownBytes.{Consumes}
use borrow.Rule.Slice.PartMut.{put_mid, post_of, same_len_mid}
use Rattle.input_bytes.proofs.read_full.Goals as goal

front_more : (done n k : ℕ) (xs ys : List ℕ) → done ≤ length xs → n ≤ length ys → take (done + n) (put_mid done k xs ys) ≡ take done xs ++ take n ys
front_more done n k xs ys h q =
    ap (λ (m : ℕ). take (m + n) (put_mid done k xs ys)) (sym (length-take-le done xs h)) ∙ take-append-add (take done xs) (ys ++ post_of done k xs) n ∙ ap (λ (l : List ℕ). take done xs ++ l) (take-append-le n ys (post_of done k xs) q)

pub loop-done-preserved : goal.loop-done-preserved
loop-done-preserved g c =
    let i = c.loop-done.invariant in
    let few : c.in_ok-n.n ≤ length c.read.new.buf = c.in_ok-n.ensures.bound.0 in
    let front = front_more c.loop-done.done c.in_ok-n.n (length c.loop-done.buffer - c.loop-done.done) c.loop-done.buffer c.read.new.buf i.inside few in
    let same = same_len_mid c.loop-done.done (length c.loop-done.buffer - c.loop-done.done) c.loop-done.buffer c.read.new.buf c.read.auto.buf in
    record {
      inside = omega (arith, few, same, c.read.auto.buf, length-take {A = ℕ}, length-drop {A = ℕ});
      same = same ∙ i.same;
      got = subst (Consumes (g.R.Read.remaining c.args.input.now) (g.R.Read.remaining c.read.new.self)) (sym front) (Consumes-trans _ _ _ _ _ i.got c.in_ok-n.ensures.bytes.0);
    }
