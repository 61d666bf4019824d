-- The number of an end, by the words that a block keeps.
-- Assumes nothing.
use Prim.Native.Nat.{ℕ, ◌<◌}
use mathlib.Core.Path.{◌≡◌, refl, sym, ap, subst, ◌∙◌}
use mathlib.Core.Bool.{true, ◌&&◌}
use lib.Dec.{eqb}
use borrow.Author.Tests.{eqb-true}
use mathlib.Core.List.{List}
use lib.ListN.{get_or}
use Rattle.access.specs.Endings.{Ending, ending_number, words_number, ending_of, ending_error, ending_value, ending_extra, is_ending}
use Rattle.access.proofs.Choice.{first_true, second_true}
use Rattle.access.proofs.Compared.{itself}
use Rattle.access.proofs.EndingLaws.{words_hold, ending_back, end_kind, number_in}
use Rattle.access.specs.declared.need.Need.TheVariants.{End}
use Rattle.block.specs.Bytes32.{word_at}
use Rattle.images.specs.EndImage.{KeepsEnd, is_ending_at}
use Rattle.asked.specs.Asked.{Asks, need_of, need_number}

-- a number that asks for an end is that of what it says
asks_kept : (n : ℕ) (e : Ending) → Asks n (End e) → need_number (need_of n) ≡ n
asks_kept n e a =
    let back : need_of (ending_number e) ≡ End e = rw (end_kind e a.words) (ap End (number_in e a.words)) in
    ap need_number (ap need_of a.number ∙ back) ∙ sym a.number

-- words that are an end's are a number that asks for it
pub words_ask : (n v x : ℕ) → v < 65536 → x < 65536 → is_ending n v x ≡ true → Asks (words_number n v x) (End (ending_of n v x))
unfolding is_ending
words_ask n v x h k e =
    let rest = second_true (eqb (ending_error (ending_of n v x)) n) (eqb (ending_value (ending_of n v x)) v && eqb (ending_extra (ending_of n v x)) x) e in
    let error : ending_error (ending_of n v x) ≡ n = eqb-true _ _ (first_true (eqb (ending_error (ending_of n v x)) n) (eqb (ending_value (ending_of n v x)) v && eqb (ending_extra (ending_of n v x)) x) e) in
    let value : ending_value (ending_of n v x) ≡ v = eqb-true _ _ (first_true (eqb (ending_value (ending_of n v x)) v) (eqb (ending_extra (ending_of n v x)) x) rest) in
    let extra : ending_extra (ending_of n v x) ≡ x = eqb-true _ _ (second_true (eqb (ending_value (ending_of n v x)) v) (eqb (ending_extra (ending_of n v x)) x) rest) in
    record { number = λ i. words_number (sym error i) (sym value i) (sym extra i); words = words_hold (ending_of n v x) (subst (λ (m : ℕ). m < 65536) (sym value) h) (subst (λ (m : ℕ). m < 65536) (sym extra) k) }

-- a block that keeps an end has the words of one
pub keeps_words : (b : List ℕ) (e : Ending) → KeepsEnd b e → is_ending_at b ≡ true
unfolding is_ending
keeps_words b e w =
    let back : ending_of (get_or b 7 0) (word_at b 22) (word_at b 30) ≡ e = (λ i. ending_of (w.error i) (w.value i) (w.extra i)) ∙ ending_back e in
    rw (back, sym w.error, sym w.value, sym w.extra, itself (get_or b 7 0), itself (word_at b 22), itself (word_at b 30)) refl

-- the number of an end's words is that of what it says
pub words_kept : (n v x : ℕ) → v < 65536 → x < 65536 → is_ending n v x ≡ true → need_number (need_of (words_number n v x)) ≡ words_number n v x
words_kept n v x h k e = asks_kept (words_number n v x) (ending_of n v x) (words_ask n v x h k e)
