-- The speed window as C asks for it, and what the demands are for it. Which pairs are right and best: speed_window/specs/Pairs.antt.
use Rattle.std.specs.Prelude.{◌≡◌, true, cond, List, [], ◌∷◌, ◌++◌, ℕ, ◌<◌, ◌≤◌, eqb, length, Option, Some, None}
use Rattle.std.proofs.Math.Option.{some}
use Rattle.registers.specs.declared.register.Register.{Register}
use Rattle.registers.specs.declared.register.Register.TheVariants.{Ckcfgr}
use Rattle.registers.specs.Numbers.{register_number}
use Rattle.registers.specs.Bits.{DUTY, F_S}
use Rattle.registers.specs.Fields.{CCR}
use Rattle.registers.specs.Word.{put_bit, put_field}
use Rattle.access.specs.declared.ending.Error.{Error}
use Rattle.access.specs.declared.ending.Error.TheVariants.{NoSuchSpeed}
use Rattle.access.specs.declared.next.Next.{Next}
use Rattle.access.specs.declared.next.Next.TheVariants as next
use Rattle.access.specs.Endings.{Ending, returned_both, failed}
use Rattle.access.specs.Numbers.{next_number}
use Rattle.block.specs.Bytes32.{block_size}
use Rattle.timing.specs.Rust.{timing}
use Rattle.speed_window.specs.declared.pair.Pair.{Pair}
use Rattle.speed_window.specs.Pairs.{Right, Best, Finds}
use Rattle.speed_window.specs.Formula.{pair, window}
use Rattle.speed_window.specs.Setting.{frequency_of, is_fast, is16_9, duty_of, Sets, EnoughFor, PairsAreSet}
use Rattle.images.specs.Numbers.{chip_of}
use Rattle.ch32_i2c.specs.Fed.{Seen}
use Rattle.ch32_i2c.specs.Demands.{Call, init, refusal_of, Accepted, record_after}
use Rattle.std.specs.Prelude.{Err}

-- the end: 0 with the divider and the factor, or 20
abbrev pub end_of : Option Pair → Ending
end_of (Some p) = returned_both p.divider p.factor
end_of None = failed NoSuchSpeed

abbrev pub end_number : Ending → ℕ
end_number e = next_number (next.End e)

-- what `ch32_i2c_speed_window` is held to: the number is that of the best pair, or of 20 where no pair is right
pub record Answers (input lowest highest n : ℕ) : Type 0 where
  pub answer : Option Pair
  pub finds : Finds input (Right input lowest highest) answer
  pub number : n ≡ end_number (end_of answer)

-- ---- the call of `init` that sets a pair

abbrev pub duty_number : Pair → ℕ
duty_number p = cond (is16_9 p) 1 0

abbrev pub setting : ℕ → ℕ → Pair → Call
setting chip input p = init chip input (frequency_of input p) (duty_number p)

-- CKCFGR with this divider, and the factor by F_S and DUTY
abbrev pub pair_word : Pair → ℕ
pair_word p = put_field CCR p.divider (put_bit DUTY (is16_9 p) (put_bit F_S (is_fast p) 0))

-- the words that a record has for a register, in order
abbrev pub word_to : Register → Next → List ℕ
word_to r (next.Read x) = []
word_to r (next.Write x v) = cond (eqb (register_number r) (register_number x)) (v ∷ []) []
word_to r next.Clock = []
word_to r (next.End e) = []

abbrev pub words_to : Register → List Seen → List ℕ
words_to r [] = []
words_to r (x ∷ xs) = word_to r x.next ++ words_to r xs

-- it is accepted, and once nine answers came it has written one word to CKCFGR: this
pub record InitWrites (chip input : ℕ) (p : Pair) (block : List ℕ) : Type 0 where
  pub accepted : Accepted (setting chip input p) block []
  pub written : (answers : List ℕ) → 9 ≤ length answers → words_to Ckcfgr (record_after (setting chip input p) block [] answers) ≡ pair_word p ∷ []

-- ---- the demands

pub record SpeedWindow : Type 0 where
  -- Demand 1: one answer for any three numbers. No byte is lent, so none can change
  pub answered : (input lowest highest : ℕ) → Answers input lowest highest (end_number (end_of (window input lowest highest)))
  pub one_answer : (input lowest highest m n : ℕ) → Answers input lowest highest m → Answers input lowest highest n → m ≡ n
  -- 20 exactly if no pair is right; so also in a window that is upside down
  pub refuses : (input lowest highest n : ℕ) → Answers input lowest highest n → ((p : Pair) → Right input lowest highest p → ⊥) → n ≡ end_number (failed NoSuchSpeed)
  pub refused : (input lowest highest n : ℕ) → Answers input lowest highest n → n ≡ end_number (failed NoSuchSpeed) → (p : Pair) → Right input lowest highest p → ⊥
  pub upside_down : (input lowest highest n : ℕ) → highest < lowest → Answers input lowest highest n → n ≡ end_number (failed NoSuchSpeed)
  -- any other number tells the best pair
  pub tells : (input lowest highest n divider factor : ℕ) → divider < 65536 → factor < 65536 → Answers input lowest highest n → n ≡ end_number (returned_both divider factor)
      → Best input (Right input lowest highest) (pair factor divider)
  -- Demand 2: there is no access, and no such function in the Rust. But what is found the Rust's `timing` chooses, with this frequency and duty,
  -- and `init` writes it; or `init` is refused as `timing` says, below 4 MHz on ch32v4 with 12, and at 0 with 10
  pub pairs : PairsAreSet
  pub writes : (chip input : ℕ) (p : Pair) (block : List ℕ) → chip < 4 → length block ≡ block_size → Sets (chip_of chip) input p → InitWrites chip input p block
  pub no_writes : (chip input : ℕ) (p : Pair) (block : List ℕ) (e : Error) → chip < 4 → length block ≡ block_size → timing (chip_of chip) input (frequency_of input p) (duty_of p) ≡ Err e
      → refusal_of (setting chip input p) (length block) 0 ≡ some e
  -- together: every right pair of factor 3 or 25 is written, and every pair that is answered
  pub fast_written : (chip input lowest highest : ℕ) (p : Pair) (block : List ℕ) → chip < 4 → length block ≡ block_size → Right input lowest highest p → is_fast p ≡ true
      → EnoughFor (chip_of chip) input → InitWrites chip input p block
  pub answer_written : (chip input lowest highest n divider factor : ℕ) (block : List ℕ) → chip < 4 → length block ≡ block_size → divider < 65536 → factor < 65536
      → Answers input lowest highest n → n ≡ end_number (returned_both divider factor) → 0 < input → EnoughFor (chip_of chip) input → InitWrites chip input (pair factor divider) block
  -- Demand 3: there is no access and no payload, so nothing to be struck out
