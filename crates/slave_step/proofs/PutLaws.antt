-- What a store of bytes makes of the block of a slave call: the stage, the word or the count is another.
-- Assumes nothing.
use Prim.Native.Nat.{ℕ, ◌+◌, ◌%◌, ◌/◌}
use mathlib.Core.Path.{◌≡◌, refl, ◌∙◌}
use mathlib.Core.List.{List}
use lib.ListN.{length, set, length-set}
use Rattle.block.specs.Bytes32.{bytes_of, block_size, with_word, with_long, at_phase, at_stage}
use Rattle.slave.specs.declared.state.Progress.{Progress}
use Rattle.slave.specs.Machine.{saves, counted}
use Rattle.slave_step.specs.Held.{fields_at, block_at, Puts, kept}

word_length : (b : List ℕ) (at n : ℕ) → length (with_word b at n) ≡ length b
word_length b at n = length-set (set b at (n % 256)) (at + 1) (n / 256) ∙ length-set b at (n % 256)

module _ (b : List ℕ) (long : length b ≡ block_size) where
  pub to_stage : (group what phase : ℕ) → Puts b (at_stage group what phase b) (λ (d : Progress). d) (λ (_ : ℕ). group) (λ (_ : ℕ). what) (λ (_ : ℕ). phase)
  unfolding block_at bytes_of fields_at
  to_stage group what phase =
      record {
        size = length-set (set (set b 3 group) 4 what) 5 phase ∙ length-set (set b 3 group) 4 what ∙ length-set b 3 group ∙ long;
        block = λ g d n w p e. rw e refl;
      }

  pub to_phase : (phase : ℕ) → Puts b (at_phase phase b) (λ (d : Progress). d) kept kept (λ (_ : ℕ). phase)
  unfolding block_at bytes_of fields_at
  to_phase phase = record { size = length-set b 5 phase ∙ long; block = λ g d n w p e. rw e refl }

  pub saved : (word : ℕ) → Puts b (with_word b 16 word) (saves word) kept kept kept
  unfolding block_at bytes_of fields_at
  saved word = record { size = word_length b 16 word ∙ long; block = λ g d n w p e. rw e refl }

  pub count_put : (n : ℕ) → Puts b (with_long b 24 n) (counted n) kept kept kept
  unfolding block_at bytes_of fields_at
  count_put n =
      record {
        size = word_length (with_word b 24 (n % 65536)) 26 (n / 65536) ∙ word_length b 24 (n % 65536) ∙ long;
        block = λ g d m w p e. rw e refl;
      }

  -- both at once, as where a register is changed
  pub modified : (phase word : ℕ) → Puts b (at_phase phase (with_word b 16 word)) (saves word) kept kept (λ (_ : ℕ). phase)
  unfolding block_at bytes_of fields_at
  modified phase word = record { size = length-set (with_word b 16 word) 5 phase ∙ word_length b 16 word ∙ long; block = λ g d n w p e. rw e refl }
