-- How a pair is set.
-- Assumes nothing.
use Prim.Native.Nat.{ℕ, ◌+◌, ◌*◌, ◌-◌, ◌/◌, ◌<◌, ◌≤◌}
use mathlib.Core.Path.{◌≡◌, refl, sym, ap, subst, ◌∙◌}
use mathlib.Core.Bool.{Bool, true, false, not, ◌&&◌, ◌||◌, true≢false}
use native.Mathlib.Nat.{le_trans, mul-le-mul_left, mul-le-mul_right}
use native.Mathlib.Decide.{dec_le}
use native.Mathlib.Omega.{arith}
use lib.Dec.{eqb, ltb, leb}
use borrow.Author.Tests.{ltb-true, lt-ltb, le-leb, lt-leb}
use Rattle.std.specs.Prelude.{Result, Ok, Err}
use Rattle.registers.specs.declared.chip.Chip.{Chip}
use Rattle.access.specs.declared.ending.Error.{Error}
use Rattle.access.specs.declared.ending.Error.TheVariants.{InputTooSlow}
use Rattle.access.proofs.Choice.{both_true}
use Rattle.timing.specs.declared.settings.Timing.{Timing}
use Rattle.timing.specs.declared.settings.Duty.{Duty}
use Rattle.timing.specs.Document.{Least, Enough}
use Rattle.timing.specs.Document as document
use Rattle.timing.specs.Rust.{div_ceil, timing}
use Rattle.timing.proofs.TimingLaws as timingLaws
use Rattle.timing.proofs.Documented.{documented}
use Rattle.speed_window.specs.declared.pair.Pair.{Pair}
use Rattle.speed_window.specs.Pairs.{Right, Preferred, faster, smaller_factor, smaller_divider, Best}
use Rattle.speed_window.specs.Formula.{pair}
use Rattle.speed_window.specs.Setting.{duty_of, AreOf, are_of, Sets, EnoughFor}
use Rattle.speed_window.proofs.PairLaws.{clocks_pos}
use Rattle.speed_window.proofs.LimitLaws.{fewer_kind}
use Rattle.speed_window.proofs.ModeLaws.{Mode, LimitsOf}
use Rattle.speed_window.proofs.CeilingLaws.{ceil_reaches, ceil_least, ceil_short, ceil_above}

-- the chip takes this input clock
enough_passes : (chip : Chip) (input : ℕ) → EnoughFor chip input → (not chip.ch32v4 || leb 4 (input / 1_000_000)) ≡ true
enough_passes chip input h = go chip.ch32v4 h
  where
    go : (b : Bool) → (b ≡ true → 4_000_000 ≤ input) → (not b || leb 4 (input / 1_000_000)) ≡ true
    go true h = let l = h refl in le-leb 4 (input / 1_000_000) (omega arith)
    go false h = refl

-- below 4 MHz ch32v4 takes none
slow_fails : (chip : Chip) (input : ℕ) → chip.ch32v4 ≡ true → input < 4_000_000 → (not chip.ch32v4 || leb 4 (input / 1_000_000)) ≡ false
slow_fails chip input v h = rw v (lt-leb 4 (input / 1_000_000) (omega arith))

-- settings that are a pair's are no refusal
is_settled : Result Timing Error → Bool
is_settled (Ok t) = true
is_settled (Err e) = false

no_refusal : {p : Pair} {e : Error} (x : Result Timing Error) → AreOf p x → Err e ≡ x → ⊥
unfolding is_settled
no_refusal x h q = true≢false (sym (go x h) ∙ ap is_settled (sym q))
  where
    go : {p : Pair} (x : Result Timing Error) → AreOf p x → is_settled x ≡ true
    go (Ok t) (are_of a b c) = refl
    go (Err e) h = elim h [ ]

taken_enough : (chip : Chip) (input n : ℕ) (duty : Duty) (p : Pair) → AreOf p (timing chip input n duty) → EnoughFor chip input
taken_enough chip input n duty p h v = go (dec_le 4_000_000 input)
  where
    by_frequency : (b : Bool) → timingLaws.allowed chip input n duty ≡ b → input < 4_000_000 → ⊥
    by_frequency false a i = no_refusal (timing chip input n duty) h (timingLaws.bad_frequency chip input n duty a)
    by_frequency true a i = no_refusal (timing chip input n duty) h (timingLaws.too_slow chip input n duty a (slow_fails chip input v i))

    go : Dec (4_000_000 ≤ input) → 4_000_000 ≤ input
    go (yes g) = g
    go (no g) = absurd (by_frequency (timingLaws.allowed chip input n duty) refl (omega arith))

module _ (m : Mode) (chip : Chip) (input d : ℕ) (l : LimitsOf m input d) (pos : 0 < input) where
  abbrev frequency : ℕ
  frequency = div_ceil input (m.factor * d)

  some_clocks : 0 < m.factor * d
  some_clocks = clocks_pos (pair m.factor d) (m.limits.met input d l)

  frequency_pos : 0 < frequency
  frequency_pos = ceil_above input (m.factor * d) some_clocks 0 (omega arith)

  frequency_small : frequency ≤ m.top
  frequency_small = ceil_least input (m.factor * d) some_clocks m.top l.slow

  of_kind : (eqb m.factor 2 || ltb 100_000 frequency) ≡ true
  of_kind = go (eqb m.factor 2) l.kind
    where
      go : (b : Bool) → (b || ltb (100_000 * (m.factor * d)) input) ≡ true → (b || ltb 100_000 frequency) ≡ true
      go true k = refl
      go false k = lt-ltb 100_000 frequency (ceil_above input (m.factor * d) some_clocks 100_000 (ltb-true _ _ k))

  mode : ltb 100_000 frequency ≡ m.quick
  mode = m.of_mode frequency frequency_small of_kind

  is_allowed : (ltb 0 frequency && leb frequency 400_000) ≡ true
  is_allowed = both_true (lt-ltb 0 frequency frequency_pos) (le-leb frequency 400_000 (le_trans frequency_small m.top_small))

  -- it is, if no smaller divider would do
  sets_by : EnoughFor chip input → ((e : ℕ) → Enough input (frequency * m.factor) m.floor e → d ≤ e) → Sets chip input (pair m.factor d)
  sets_by enough least =
      rw m.duty_told
      (subst (AreOf (pair m.factor d))
      (timingLaws.settled chip input frequency m.duty is_allowed (enough_passes chip input enough) d (rw (mode, m.factor_is, m.floor_is) chosen) l.high)
      (are_of refl (mode ∙ sym m.mode_is) (rw mode m.duty_is)))
    where
      reached : input ≤ frequency * (m.factor * d)
      reached = ceil_reaches input (m.factor * d) some_clocks

      chosen : Least (Enough input (frequency * m.factor) m.floor) d
      chosen = record { holds = record { reaches = omega (arith, reached); allowed = l.low }; least = least }

  -- where the divider is not above the frequency, one less would not reach
  pub large_sets : d ≤ frequency → EnoughFor chip input → Sets chip input (pair m.factor d)
  large_sets above enough = sets_by enough (λ e h. go e h (dec_le d e))
    where
      short : (frequency - 1) * (m.factor * d) < input
      short = ceil_short input (m.factor * d) some_clocks (frequency - 1) (omega (arith, frequency_pos))

      go : (e : ℕ) → Enough input (frequency * m.factor) m.floor e → Dec (d ≤ e) → d ≤ e
      go e h (yes g) = g
      go e h (no g) =
          let one : frequency * (m.factor * d) ≤ (frequency - 1 + 1) * (m.factor * d) = mul-le-mul_right (m.factor * d) (omega (arith, frequency_pos)) in
          let next : (e + 1) * (frequency * m.factor) ≤ d * (frequency * m.factor) = mul-le-mul_right (frequency * m.factor) (omega arith) in
          let large : m.factor * d ≤ m.factor * frequency = mul-le-mul_left m.factor above in
          let reached = h.reaches in
          absurd (omega (arith, short))

  -- at more than 100,000 it never is
  pub fast_sets : m.quick ≡ true → EnoughFor chip input → Sets chip input (pair m.factor d)
  fast_sets q enough = let f : 100_000 < frequency = ltb-true _ _ (mode ∙ q) in large_sets (le_trans l.high (omega arith)) enough

  module _ (lowest highest : ℕ) (b : Best input (Right input lowest highest) (pair m.factor d)) where
    slow_enough : frequency ≤ highest
    slow_enough = ceil_least input (m.factor * d) some_clocks highest b.holds.not_faster

    -- beside the best pair no smaller divider would do: it would be right, and faster
    module _ (e : ℕ) (h : Enough input (frequency * m.factor) m.floor e) (less : e < d) where
      fewer : m.factor * e ≤ m.factor * d
      fewer = mul-le-mul_left m.factor (omega arith)

      up_to : (n : ℕ) → frequency ≤ n → input ≤ n * (m.factor * e)
      up_to n g = let t : frequency * (m.factor * e) ≤ n * (m.factor * e) = mul-le-mul_right (m.factor * e) g in let r = h.reaches in omega arith

      right : Right input lowest highest (pair m.factor e)
      right = record {
        not_slower = le_trans (mul-le-mul_left lowest fewer) b.holds.not_slower;
        not_faster = up_to highest slow_enough;
        allowed = m.limits.met input e (record { low = h.allowed; high = le_trans (omega arith) l.high; slow = up_to m.top frequency_small; kind = fewer_kind m.factor input fewer l.kind });
      }

      never : Preferred input (pair m.factor d) (pair m.factor e) → ⊥
      never (faster a) = let s : input * (m.factor * e) ≤ input * (m.factor * d) = mul-le-mul_left input fewer in omega arith
      never (smaller_factor a c) = omega arith
      never (smaller_divider a c f) = omega arith

    pub best_sets : EnoughFor chip input → Sets chip input (pair m.factor d)
    best_sets enough = sets_by enough (λ e h. go e h (dec_le d e))
      where
        go : (e : ℕ) → Enough input (frequency * m.factor) m.floor e → Dec (d ≤ e) → d ≤ e
        go e h (yes g) = g
        go e h (no g) = absurd (never e h (omega arith) (b.best (pair m.factor e) (right e h (omega arith))))

  -- where a frequency chose the divider, a lower one has no smaller one
  no_smaller : (n : ℕ) (other : Duty) (x : Result Timing Error) → document.AsDocumented chip input n other x → AreOf (pair m.factor d) x → (e : ℕ) → Enough input (frequency * m.factor) m.floor e → d ≤ e
  no_smaller n other (Ok t) (document.settled none-failed doc) (are_of a b c) e h =
      subst (λ (k : ℕ). k ≤ e) a (doc.divider.least e (record { reaches = rw factor_was reaches; allowed = rw (quick_is, m.floor_is) h.allowed }))
    where
      quick_is : ltb 100_000 n ≡ m.quick
      quick_is = sym doc.speed ∙ b ∙ m.mode_is

      factor_was : document.factor (ltb 100_000 n) other ≡ m.factor
      factor_was = rw quick_is (m.told other (rw (← quick_is) (sym doc.duty_bit ∙ c)))

      lower : frequency ≤ n
      lower = let r : input ≤ d * m.factor * n = rw (a, factor_was) at doc.divider.holds.reaches in ceil_least input (m.factor * d) some_clocks n (omega arith)

      reaches : input ≤ e * m.factor * n
      reaches = let more : frequency * (e * m.factor) ≤ n * (e * m.factor) = mul-le-mul_right (e * m.factor) lower in let r = h.reaches in omega arith
  no_smaller n other (Err r) _ x e h = elim x [ ]

  pub any_sets : (n : ℕ) (other : Duty) → AreOf (pair m.factor d) (timing chip input n other) → Sets chip input (pair m.factor d)
  any_sets n other h = sets_by (taken_enough chip input n other (pair m.factor d) h) (no_smaller n other (timing chip input n other) (documented chip input n other) h)

  pub slow_refused : chip.ch32v4 ≡ true → input < 4_000_000 → timing chip input frequency (duty_of (pair m.factor d)) ≡ Err InputTooSlow
  slow_refused v h = rw m.duty_told (sym (timingLaws.too_slow chip input frequency m.duty is_allowed (slow_fails chip input v h)))
