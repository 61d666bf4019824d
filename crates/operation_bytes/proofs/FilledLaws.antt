-- Three bytes put behind a list in 771.
-- Assumes nothing.
use mathlib.Core.Path.{◌≡◌, refl, sym, ap, ◌∙◌}
use mathlib.Core.List.{List, ◌++◌}
use Prim.Native.Nat.{ℕ, ◌+◌, ◌-◌, ◌≤◌}
use native.Mathlib.Omega.{arith}
use lib.ListN.{length, take, drop, replicate}
use borrow.Rule.Slice.PartMut.{put_mid}
use Rattle.std.proofs.lemmas.List.{length-append, length-replicate, take-append-drop, drop-replicate}
use Rattle.std.proofs.lemmas.Slice.{take-put_mid, drop-put_mid}
use Rattle.std.proofs.Math.Seq.{drop-append-add}
use Rattle.operation_bytes.specs.Filled.{filled, IsFilled}

abbrev zeros : ℕ → List ℕ
zeros m = replicate m 0

zeros_counted : (m : ℕ) → length (zeros m) ≡ m
zeros_counted m = length-replicate m 0

module _ (n : ℕ) (bytes : List ℕ) (h : IsFilled n bytes) where
  abbrev list : List ℕ
  list = take n bytes

  -- the bytes are 771
  all : length bytes ≡ 771
  all =
      let e : length (list ++ zeros (771 - length list)) ≡ length list + length (zeros (771 - length list)) = length-append list (zeros (771 - length list)) in
      let s : length (list ++ zeros (771 - length list)) ≡ length bytes = ap length h.2 in
      omega (arith, e, zeros_counted (771 - length list), s, h.0, h.1)

  -- behind three more of them are zeros
  behind : drop (n + 3) bytes ≡ zeros (771 - length list - 3)
  behind =
      ap (λ (l : List ℕ). drop (n + 3) l) (sym h.2)
      ∙ ap (λ (m : ℕ). drop (m + 3) (list ++ zeros (771 - length list))) (sym h.1)
      ∙ drop-append-add list (zeros (771 - length list)) 3
      ∙ drop-replicate 3 (771 - length list) 0

  module _ (k : ℕ) (more : List ℕ) (room : n + 3 ≤ 771) (three : length more ≡ 3) (part : k ≡ 3) where
    abbrev after : List ℕ
    after = put_mid n k bytes more

    front : take (n + 3) after ≡ list ++ more
    front = take-put_mid n k bytes more (n + 3) (omega (arith, three)) (omega (arith, all, room))

    long : length (take (n + 3) after) ≡ n + 3
    long =
        let size : length (list ++ more) ≡ length list + length more = length-append list more in
        ap length front ∙ omega (arith, size, h.1, three)

    tail : drop (n + 3) after ≡ zeros (771 - length (take (n + 3) after))
    tail =
        drop-put_mid n k bytes more (n + 3) (omega (arith, part)) (omega (arith, all, room)) (omega (arith, three, part))
        ∙ behind
        ∙ ap zeros (omega (arith, long, h.1, room))

    pub pushed : IsFilled (n + 3) (put_mid n k bytes more)
    pushed = (room, long, ap (λ (l : List ℕ). take (n + 3) after ++ l) (sym tail) ∙ take-append-drop (n + 3) after)
