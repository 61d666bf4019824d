-- The speed window: what the demands are for it.
-- Assumes nothing.
use mathlib.Core.Path.{◌≡◌, refl, sym, ap, subst, ◌∙◌}
use mathlib.Core.Bool.{Bool, true, false, cond}
use mathlib.Core.List.{List, [], ◌∷◌}
use mathlib.Core.Logic.{⊎_elim}
use Prim.Native.Nat.{ℕ, suc, ◌<◌, ◌≤◌}
use native.Mathlib.Omega.{arith}
use lib.Dec.{ltb}
use lib.ListN.{length}
use borrow.Author.Tests.{le-ltb, eq-eqb}
use Rattle.registers.specs.declared.chip.Chip.{Chip}
use Rattle.registers.specs.declared.register.Register.TheVariants.{Ctlr1, Ckcfgr, Rtr}
use Rattle.registers.specs.Bits.{PE}
use Rattle.registers.specs.Fields.{TRISE}
use Rattle.registers.specs.Word.{put_bit, put_field}
use Rattle.access.specs.declared.ending.Error.TheVariants.{NoSuchSpeed}
use Rattle.access.specs.declared.next.Next.TheVariants as next
use Rattle.access.specs.Endings.{Ending, ending_value, ending_extra, returned_both, failed, done}
use Rattle.access.specs.Program.{Program, finish, access, read, write}
use Rattle.access.specs.Record.{shown_of}
use Rattle.access.specs.Numbers.{EndHoldsWords}
use Rattle.access.proofs.NumberLaws.{number_injective}
use Rattle.speed_window.specs.declared.pair.Pair.{Pair}
use Rattle.speed_window.specs.Pairs.{Allowed, standard, fast, Right, Best, Finds, found, nothing}
use Rattle.speed_window.specs.Formula.{pair, window}
use Rattle.speed_window.specs.Setting.{frequency_of, is16_9, duty_of, AreOf, are_of, Sets}
use Rattle.speed_window.proofs.PreferredLaws as preferred
use Rattle.speed_window.proofs.WindowLaws.{window_finds}
use Rattle.speed_window.proofs.Answers.{nothing_inside}
use Rattle.speed_window.proofs.PairsAreSet.{pairs_are_set}
use Rattle.block.specs.Bytes32.{block_size}
use Rattle.timing.specs.declared.settings.Duty.TheVariants.{Duty2_1, Duty16_9}
use Rattle.timing.specs.declared.settings.Timing.{Timing}
use Rattle.timing.specs.Rust as timing
use Rattle.timing.specs.Claims.{rust_init}
use Rattle.timing.specs.Machine as init_machine
use Rattle.images.specs.Numbers.{chip_of}
use Rattle.ch32_i2c.specs.Fed.{record_in}
use Rattle.ch32_i2c.specs.Init as cInit
use Rattle.ch32_i2c.specs.Demands.{timed_refusal, timed_shown, refusal_of, Accepted, record_after}
use Rattle.ch32_i2c.specs.SpeedWindow.{end_of, end_number, Answers, duty_number, setting, pair_word, words_to, InitWrites, SpeedWindow}
use Rattle.ch32_i2c.proofs.Demands.{demand_2}
use Rattle.std.specs.Prelude.{Result, Ok, Err, Option, Some, None}
use Rattle.access.specs.declared.ending.Error.{Error}

-- ---- the number

-- an end that is found holds 16-bit words
found_words : {input lowest highest : ℕ} (x : Option Pair) → Finds input (Right input lowest highest) x → EndHoldsWords (end_of x)
found_words (Some p) (found b) = small b.holds.allowed
  where
    small : {input : ℕ} → Allowed input p → (p.divider < 65536) × (p.factor < 65536)
    small (standard e a b c) = (omega arith, omega arith)
    small (fast e a b c d) = (omega arith, ⊎_elim (λ h. omega arith) (λ h. omega arith) e)
found_words None (nothing a) = omega arith

end_told : (d e : Ending) → EndHoldsWords d → EndHoldsWords e → end_number d ≡ end_number e → d ≡ e
end_told d e a b q = let z : next.End d ≡ next.End e = number_injective (next.End d) (next.End e) a b q in cc

module _ (input lowest highest n : ℕ) (a : Answers input lowest highest n) where
  -- the answer is the one that is found
  is_answer : (x : Option Pair) → Finds input (Right input lowest highest) x → n ≡ end_number (end_of x)
  is_answer x h = a.number ∙ ap (λ (y : Option Pair). end_number (end_of y)) (preferred.one_answer a.answer x a.finds h)

  -- and it is what the number says
  told : (e : Ending) → EndHoldsWords e → n ≡ end_number e → end_of a.answer ≡ e
  told e w q = end_told (end_of a.answer) e (found_words a.answer a.finds) w (sym a.number ∙ q)

-- ---- `init` with a pair's settings

-- what is written to CKCFGR behind its write: nothing
abbrev last_part : Program
last_part = access (read Ctlr1) (λ c. access (write Ctlr1 (put_bit PE true c)) (λ _. finish done))

abbrev clock_part : ℕ → Program
clock_part w = access (write Ckcfgr w) (λ _. last_part)

abbrev rise_then : Bool → ℕ → Program → Program
rise_then v3 w rest = cond v3 (access (write Rtr w) (λ _. rest)) rest

abbrev words_of : Program → List ℕ → List ℕ
words_of p answers = words_to Ckcfgr (record_in (shown_of 0 p answers))

no_more_words : (answers : List ℕ) → words_of last_part answers ≡ []
no_more_words [] = refl
no_more_words (a ∷ []) = refl
no_more_words (a ∷ b ∷ rest) = refl

clock_word_lem : (w : ℕ) (answers : List ℕ) → words_of (clock_part w) answers ≡ w ∷ []
clock_word_lem w [] = refl
clock_word_lem w (a ∷ answers) = ap (λ (l : List ℕ). w ∷ l) (no_more_words answers)

rise_and_clock : (v3 : Bool) (r w : ℕ) (answers : List ℕ) → 1 ≤ length answers → words_of (rise_then v3 r (clock_part w)) answers ≡ w ∷ []
rise_and_clock true r w [] h = absurd (omega arith)
rise_and_clock true r w (a ∷ answers) h = clock_word_lem w answers
rise_and_clock false r w answers h = clock_word_lem w answers

init_word : (chip : Chip) (t : Timing) (turns : ℕ) (answers : List ℕ) → 9 ≤ length answers → words_to Ckcfgr (record_in (rust_init chip t turns answers)) ≡ init_machine.clock_word t ∷ []
unfolding timing.init
init_word chip t turns [] h = absurd (omega arith)
init_word chip t turns (a ∷ []) h = absurd (omega arith)
init_word chip t turns (a ∷ b ∷ []) h = absurd (omega arith)
init_word chip t turns (a ∷ b ∷ c ∷ []) h = absurd (omega arith)
init_word chip t turns (a ∷ b ∷ c ∷ d ∷ []) h = absurd (omega arith)
init_word chip t turns (a ∷ b ∷ c ∷ d ∷ e ∷ []) h = absurd (omega arith)
init_word chip t turns (a ∷ b ∷ c ∷ d ∷ e ∷ f ∷ []) h = absurd (omega arith)
init_word chip t turns (a ∷ b ∷ c ∷ d ∷ e ∷ f ∷ g ∷ []) h = absurd (omega arith)
init_word chip t turns (a ∷ b ∷ c ∷ d ∷ e ∷ f ∷ g ∷ k ∷ rest) h = rise_and_clock chip.i2c_v3 (put_field TRISE t.rise 0) (init_machine.clock_word t) rest (omega arith)

module _ (chip input : ℕ) (p : Pair) (block : List ℕ) (known : chip < 4) (size : length block ≡ block_size) where
  abbrev duty : ℕ
  duty = duty_number p

  duty_known : ltb 1 duty ≡ false
  duty_known = go (is16_9 p)
    where
      go : (b : Bool) → ltb 1 (cond b 1 0) ≡ false
      go true = refl
      go false = refl

  -- the duty as C passes it
  duty_passed : cInit.duty_of duty ≡ duty_of p
  duty_passed = go (is16_9 p)
    where
      go : (b : Bool) → cInit.duty_of (cond b 1 0) ≡ cond b Duty16_9 Duty2_1
      go true = refl
      go false = refl

  -- neither 15 nor 16: what is left is `timing`'s own
  own_cause : (x : Result Timing Error) → timing.timing (chip_of chip) input (frequency_of input p) (duty_of p) ≡ x → refusal_of (setting chip input p) (length block) 0 ≡ timed_refusal x
  own_cause x e = rw (eq-eqb (length block) block_size size, le-ltb 3 chip (omega arith), duty_known, duty_passed, e)

  -- settings that are the pair's
  writes_at : (x : Result Timing Error) → timing.timing (chip_of chip) input (frequency_of input p) (duty_of p) ≡ x → AreOf p x → InitWrites chip input p block
  writes_at (Err r) e h = elim h [ ]
  writes_at (Ok t) e (are_of divider quick duty_bit) = record { accepted = accepted; written = written }
    where
      accepted : Accepted (setting chip input p) block []
      accepted = own_cause (Ok t) e

      word : init_machine.clock_word t ≡ pair_word p
      word = rw (divider, quick, duty_bit)

      written : (answers : List ℕ) → 9 ≤ length answers → words_to Ckcfgr (record_after (setting chip input p) block [] answers) ≡ pair_word p ∷ []
      written answers h =
          let turns = suc (length answers) in
          ap (words_to Ckcfgr) (demand_2.records (setting chip input p) block [] refl accepted turns answers (omega arith)).record_is
          ∙ ap (λ (y : Result Timing Error). words_to Ckcfgr (record_in (timed_shown chip turns y answers))) (ap (timing.timing (chip_of chip) input (frequency_of input p)) duty_passed ∙ e)
          ∙ init_word (chip_of chip) t turns answers h
          ∙ ap (λ (w : ℕ). w ∷ []) word

  init_writes : Sets (chip_of chip) input p → InitWrites chip input p block
  init_writes s = writes_at _ refl s

pub speed_window : SpeedWindow
speed_window = record {
  answered = λ input lowest highest. record { answer = window input lowest highest; finds = window_finds input lowest highest; number = refl };
  one_answer = λ input lowest highest m n a b. is_answer input lowest highest m a b.answer b.finds ∙ sym b.number;
  refuses = λ input lowest highest n a h. is_answer input lowest highest n a None (nothing h);
  refused = λ input lowest highest n a q. none_right a.answer a.finds (told input lowest highest n a (failed NoSuchSpeed) (omega arith) q);
  upside_down = λ input lowest highest n h a. is_answer input lowest highest n a None (nothing (nothing_inside input lowest highest h));
  tells = tells;
  pairs = pairs_are_set;
  writes = λ chip input p block known size s. init_writes chip input p block known size s;
  no_writes = λ chip input p block e known size q. own_cause chip input p block known size (Err e) q;
  fast_written = λ chip input lowest highest p block known size r h enough. init_writes chip input p block known size (pairs_are_set.fast (chip_of chip) input lowest highest p r h enough);
  answer_written = λ chip input lowest highest n divider factor block known size d f a q pos enough.
      init_writes chip input (pair factor divider) block known size (pairs_are_set.best (chip_of chip) input lowest highest (pair factor divider) (tells input lowest highest n divider factor d f a q) pos enough);
}
  where
    none_right : {input lowest highest : ℕ} (x : Option Pair) → Finds input (Right input lowest highest) x → end_of x ≡ failed NoSuchSpeed → (p : Pair) → Right input lowest highest p → ⊥
    none_right (Some p) h q = let z : ◌≡◌ {A = ℕ} 0 1 = cc in absurd (omega arith)
    none_right None (nothing h) q = h

    best_told : {input lowest highest divider factor : ℕ} (x : Option Pair) → Finds input (Right input lowest highest) x → end_of x ≡ returned_both divider factor → Best input (Right input lowest highest) (pair factor divider)
    best_told {input} {lowest} {highest} (Some p) (found b) q = subst (Best input (Right input lowest highest)) (λ i. record { factor = ap ending_extra q i; divider = ap ending_value q i }) b
    best_told None h q = let z : ◌≡◌ {A = ℕ} 0 1 = cc in absurd (omega arith)

    tells : (input lowest highest n divider factor : ℕ) → divider < 65536 → factor < 65536 → Answers input lowest highest n → n ≡ end_number (returned_both divider factor) → Best input (Right input lowest highest) (pair factor divider)
    tells input lowest highest n divider factor d f a q = best_told a.answer a.finds (told input lowest highest n a (returned_both divider factor) (d, f) q)
