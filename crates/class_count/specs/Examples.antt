-- An order that is no chip's, bits 3, 0 and 15: what each takes, and what is left.
use Rattle.std.specs.Prelude.{ℕ, ◌≡◌, List, [], ◌∷◌, map, ◌++◌}
use Rattle.class_count.specs.Counting.{count_words}
use Rattle.class_count.specs.Order.{first_at, is_at, is_none}

abbrev pub other_order : List ℕ
other_order = 3 ∷ 0 ∷ 15 ∷ []

abbrev pub OtherOrderHalves : Type 0
OtherOrderHalves =
    map (λ k. count_words (λ w. is_at k (first_at other_order w))) (0 ∷ 1 ∷ 2 ∷ []) ++ count_words (λ w. is_none (first_at other_order w)) ∷ []
    ≡ 32768 ∷ 16384 ∷ 8192 ∷ 8192 ∷ []
