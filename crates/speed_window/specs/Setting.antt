-- HOW A PAIR IS SET: with which frequency and duty `timing` chooses its divider, and `init` then writes it.
use Rattle.std.specs.Prelude.{ℕ, ◌<◌, ◌≤◌, ◌≡◌, Bool, true, cond, not, eqb, Result, Ok, Err}
use Rattle.registers.specs.declared.chip.Chip.{Chip}
use Rattle.access.specs.declared.ending.Error.{Error}
use Rattle.access.specs.declared.ending.Error.TheVariants.{InvalidFrequency, InputTooSlow}
use Rattle.timing.specs.declared.settings.Duty.{Duty}
use Rattle.timing.specs.declared.settings.Duty.TheVariants.{Duty2_1, Duty16_9}
use Rattle.timing.specs.declared.settings.Timing.{Timing}
use Rattle.timing.specs.Rust.{div_ceil, timing}
use Rattle.speed_window.specs.declared.pair.Pair.{Pair}
use Rattle.speed_window.specs.Pairs.{clocks, Right, Best}

-- input / (factor × divider), rounded up
abbrev pub frequency_of : ℕ → Pair → ℕ
frequency_of input p = div_ceil input (clocks p)

-- factors 3 and 25 are fast; 25 is that of 16:9
abbrev pub is_fast : Pair → Bool
is_fast p = not (eqb p.factor 2)

abbrev pub is16_9 : Pair → Bool
is16_9 p = eqb p.factor 25

abbrev pub duty_of : Pair → Duty
duty_of p = cond (is16_9 p) Duty16_9 Duty2_1

-- settings are a pair's: its divider, and its factor by mode and duty
pub data AreOf (p : Pair) : Result Timing Error → Type 0 where
  are_of : {t : Timing} → t.divider ≡ p.divider → t.fast ≡ is_fast p → t.duty ≡ is16_9 p → AreOf p (Ok t)

-- with that frequency and duty `timing` chooses the pair
abbrev pub Sets : Chip → ℕ → Pair → Type 0
Sets chip input p = AreOf p (timing chip input (frequency_of input p) (duty_of p))

-- ch32v4 has an input clock of 4 MHz or more
abbrev pub EnoughFor : Chip → ℕ → Type 0
EnoughFor chip input = chip.ch32v4 ≡ true → 4_000_000 ≤ input

pub record PairsAreSet : Type 0 where
  -- every right pair of factor 3 or 25
  pub fast : (chip : Chip) (input lowest highest : ℕ) (p : Pair) → Right input lowest highest p → is_fast p ≡ true → EnoughFor chip input → Sets chip input p
  -- and the best pair, so every one that the function finds, factor 2 included
  pub best : (chip : Chip) (input lowest highest : ℕ) (p : Pair) → Best input (Right input lowest highest) p → 0 < input → EnoughFor chip input → Sets chip input p
  -- of factor 2 not every right pair is set, and some no frequency sets. Set are those whose divider is not above that frequency,
  pub not_above : (chip : Chip) (input lowest highest : ℕ) (p : Pair) → Right input lowest highest p → p.divider ≤ frequency_of input p → 0 < input → EnoughFor chip input → Sets chip input p
  -- and all that any frequency sets
  pub if_any : (chip : Chip) (input lowest highest : ℕ) (p : Pair) → Right input lowest highest p → (frequency : ℕ) (duty : Duty) → AreOf p (timing chip input frequency duty) → 0 < input → Sets chip input p
  -- below 4 MHz ch32v4 refuses with 12; an input clock of 0 every chip with 10
  pub too_slow : (chip : Chip) (input lowest highest : ℕ) (p : Pair) → Right input lowest highest p → 0 < input → chip.ch32v4 ≡ true → input < 4_000_000
      → timing chip input (frequency_of input p) (duty_of p) ≡ Err InputTooSlow
  pub no_input : (chip : Chip) (lowest highest : ℕ) (p : Pair) → Right 0 lowest highest p → timing chip 0 (frequency_of 0 p) (duty_of p) ≡ Err InvalidFrequency

-- one that no frequency sets: at 8 MHz divider 3999 is right for 1,000 to 1,001 Hz, but 1,001 Hz, its speed rounded up, chooses 3997
abbrev pub unset : Pair
unset = record { factor = 2; divider = 3999 }

abbrev pub NoFrequencySets : Type 0
NoFrequencySets = Right 8_000_000 1000 1001 unset × ((chip : Chip) (frequency : ℕ) (duty : Duty) → AreOf unset (timing chip 8_000_000 frequency duty) → ⊥)
