-- The claims of the speed window speak of something: answers and settings, by computation.
-- Assumes nothing.
use mathlib.Core.Path.{◌≡◌, refl}
use mathlib.Core.List.{[], ◌∷◌}
use mathlib.Core.Option.{some}
use lib.Dec.{lit<, lit≤}
use lib.ListN.{replicate}
use Rattle.std.specs.Prelude.{Some, None}
use Rattle.registers.specs.Word.{put_bit, put_field}
use Rattle.access.specs.declared.ending.Error.TheVariants.{InputTooSlow}
use Rattle.timing.specs.Rust.{timing}
use Rattle.speed_window.specs.Formula.{pair, fastest_of, window}
use Rattle.speed_window.specs.Setting.{are_of, Sets}
use Rattle.speed_window.proofs.WindowLaws.{window_finds}
use Rattle.images.specs.Numbers.{chip_of}
use Rattle.ch32_i2c.specs.Demands.{refusal_of}
use Rattle.ch32_i2c.specs.SpeedWindow.{Answers, setting, pair_word, InitWrites}
use Rattle.ch32_i2c.proofs.SpeedWindow.{speed_window}

-- 36 MHz: 95,000 to 100,000 Hz is factor 2 with divider 180, 360,000 Hz is factor 25 with divider 4, and upside down there is none
standard_answer : Answers 36_000_000 95_000 100_000 0x200b40000
unfolding window fastest_of
standard_answer = record { answer = Some (pair 2 180); finds = window_finds 36_000_000 95_000 100_000; number = refl }

fast_answer : Answers 36_000_000 360_000 360_000 0x1900040000
unfolding window fastest_of
fast_answer = record { answer = Some (pair 25 4); finds = window_finds 36_000_000 360_000 360_000; number = refl }

no_answer : Answers 36_000_000 100_000 95_000 0x1400
unfolding window fastest_of
no_answer = record { answer = None; finds = window_finds 36_000_000 100_000 95_000; number = refl }

-- what sets them
standard_sets : Sets (chip_of 1) 36_000_000 (pair 2 180)
unfolding timing
standard_sets = are_of refl refl refl

fast_sets : Sets (chip_of 1) 36_000_000 (pair 25 4)
unfolding timing
fast_sets = are_of refl refl refl

standard_written : InitWrites 1 36_000_000 (pair 2 180) (replicate 32 255)
standard_written = speed_window.writes 1 36_000_000 (pair 2 180) (replicate 32 255) (lit< tt) refl standard_sets

-- from the answer alone, on ch32v4
fast_written : InitWrites 3 36_000_000 (pair 25 4) (replicate 32 255)
fast_written = speed_window.answer_written 3 36_000_000 360_000 360_000 0x1900040000 4 25 (replicate 32 255) (lit< tt) refl (lit< tt) (lit< tt) fast_answer refl (lit< tt) (λ v. lit≤ tt)

-- and the words
words_are : pair_word (pair 2 180) ∷ pair_word (pair 3 30) ∷ pair_word (pair 25 4) ∷ [] ≡ 0x00b4 ∷ 0x801e ∷ 0xc004 ∷ []
unfolding put_field put_bit
words_are = refl

-- on ch32v4 not below 4 MHz
slow_refused : refusal_of (setting 2 3_999_999 (pair 2 20)) 32 0 ≡ some InputTooSlow
unfolding timing
slow_refused = refl
