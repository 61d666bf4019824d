-- The words of an ending in a block tell it.
-- Assumes nothing.
use Prim.Native.Nat.{ℕ, ◌+◌, ◌*◌, ◌%◌, ◌/◌}
use mathlib.Core.Path.{◌≡◌, refl, ap, ◌∙◌}
use mathlib.Core.List.{List}
use native.Mathlib.Omega.{arith}
use lib.ListN.{get_or}
use Rattle.access.specs.Endings.{Ending, ending_of, ending_error, ending_value, ending_extra}
use Rattle.access.proofs.EndingLaws.{ending_back}
use Rattle.block.specs.declared.fields.Fields.{Fields}
use Rattle.block.specs.Bytes32.{bytes_of, word_at}
use Rattle.images.specs.EndImage.{ending_at, KeepsEnd, with_end, with_ending}

-- what is said of the words that were read
pub by_words : {A : Type 0} (b : List ℕ) (f : ℕ → ℕ → ℕ → A) {v x : ℕ} → v ≡ word_at b 22 → x ≡ word_at b 30 → f (get_or b 7 0) v x ≡ f (get_or b 7 0) (word_at b 22) (word_at b 30)
by_words b f {v} {x} p q = ap (λ (m : ℕ). f (get_or b 7 0) m x) p ∙ ap (f (get_or b 7 0) (word_at b 22)) q

pub end_told : {b : List ℕ} {e : Ending} → KeepsEnd b e → ending_at b ≡ e
end_told {b} {e} k =
    ap (λ (n : ℕ). ending_of n (word_at b 22) (word_at b 30)) k.error
    ∙ ap (λ (v : ℕ). ending_of (ending_error e) v (word_at b 30)) k.value
    ∙ ap (ending_of (ending_error e) (ending_value e)) k.extra
    ∙ ending_back e

word_back : (n : ℕ) → n % 256 + n / 256 * 256 ≡ n
word_back n = omega arith

pub keeps_end : (f : Fields) (e : Ending) → f.error ≡ ending_error e → f.value ≡ ending_value e → f.extra ≡ ending_extra e → KeepsEnd (bytes_of f) e
unfolding bytes_of
keeps_end f e p q r = record { error = p; value = word_back f.value ∙ q; extra = word_back f.extra ∙ r }

-- a block in which an ending is put says what it said, with this ending
pub put_says : (e : Ending) (f : Fields) → with_ending e (bytes_of f) ≡ bytes_of (with_end e f)
unfolding bytes_of
put_says e f = refl
