-- What the proofs of the groups share: a step is refused, what a block's bytes spell, and when a stage of a group fits.
-- Assumes nothing.
use mathlib.Core.Path.{◌≡◌, refl, sym, subst, ◌∙◌}
use mathlib.Core.Bool.{Bool, true, false, ◌&&◌, true≢false}
use mathlib.Core.List.{List}
use Prim.Native.Nat.{ℕ, ◌+◌, ◌*◌, ◌%◌, ◌/◌}
use native.Mathlib.Omega.{arith}
use Rattle.access.specs.declared.need.Need.{Need}
use Rattle.access.specs.Endings.{is_done}
use Rattle.access.proofs.Choice.{first_true, second_true}
use Rattle.block.specs.Bytes32.{bytes_of, word_at}
use Rattle.images.specs.EndImage.{KeepsEnd}
use Rattle.images.proofs.EndImageLaws.{keeps_end}
use Rattle.slave.specs.declared.state.Move.{Move}
use Rattle.slave.specs.declared.state.Progress.{Progress}
use Rattle.slave.specs.declared.state.Setting.{Setting}
use Rattle.slave.specs.Fits.{counts, returns, runs, closes}
use Rattle.slave_step.specs.Held.{fields_at, block_at, Refuses, Steps}

pub refuses : {t : Bool} {g : Setting} {m : Move} {before after : List ℕ} {asked : Need} → t ≡ false → Refuses before after asked → Steps t g m before after asked
refuses e n = record { taken = λ k. absurd (true≢false (sym k ∙ e)); refused = λ _. n }

-- ---- the numbers that a block's bytes spell

word_back : (n : ℕ) → n % 256 + n / 256 * 256 ≡ n
word_back n = omega arith

module _ (g : Setting) (d : Progress) (n w p : ℕ) where
  pub word_at_lem : word_at (block_at g d n w p) 16 ≡ d.word
  unfolding block_at bytes_of fields_at
  word_at_lem = word_back d.word

-- how the call is to end
module _ (g : Setting) (d : Progress) (n w p : ℕ) {b : List ℕ} (held : block_at g d n w p ≡ b) where
  pub end_at : KeepsEnd b d.ending
  unfolding block_at fields_at
  end_at = subst (λ (x : List ℕ). KeepsEnd x d.ending) held (keeps_end (fields_at g d n w p) d.ending refl refl refl)

-- ---- with the count and the ending seen, the group's own test decides

pub running : (g : Setting) (d : Progress) (b : Bool) → counts g d && is_done d.ending ≡ true → runs g b d ≡ b
running g d b e = rw (first_true (counts g d) (is_done d.ending) e, second_true (counts g d) (is_done d.ending) e)

pub ending : (g : Setting) (d : Progress) (b : Bool) → counts g d && returns g d ≡ true → closes g b d ≡ b
ending g d b e = rw (first_true (counts g d) (returns g d) e, second_true (counts g d) (returns g d) e)
