-- Where our order of flags finds another class than the Rust's, and that both find one or both find none.
-- Assumes nothing.
use Prim.Native.Nat.{ℕ}
use mathlib.Core.Path.{◌≡◌, refl, sym, ap, ◌∙◌, subst}
use mathlib.Core.Bool.{Bool, true, false, cond, not, ◌&&◌, ◌||◌, true≢false, and-false}
use lib.Dec.{eqb}
use borrow.Author.Tests.{eqb-true}
use Rattle.std.specs.Prelude.{Option, Some, None, Err}
use Rattle.registers.specs.declared.chip.Chip.{Chip}
use Rattle.registers.specs.Bits.{BERR, ARLO, AF, OVR, PECERR, TIMEOUT}
use Rattle.registers.specs.Word.{has_bit}
use Rattle.registers.specs.Flags.{error_flags}
use Rattle.access.specs.declared.ending.Error.{Error}
use Rattle.access.specs.declared.ending.Error.TheVariants.{Bus, Arbitration, Nack, Timeout, Crc, Overrun}
use Rattle.access.specs.declared.ending.Failure.{Failure}
use Rattle.access.specs.Endings.{Ending, error_number, ending_error, ending_of, flagged, failure_of, failed}
use Rattle.access.proofs.Choice.{first_true}
use Rattle.access.proofs.EndingLaws.{ending_back}
use Rattle.errors.specs.Classes.{error_of, decided}
use Rattle.errors.specs.Met.{same_error, same_failure, unchecked, is_met}
use Rattle.errors.specs.AsTheRust.{rust_chain, rust_of, end_as_the_rusts}
use Rattle.errors.specs.Departs.{bus_flag, between_flag, departs, unflagged, same_class, ClassIsTheRusts, EndIsTheRusts}
use Rattle.errors.proofs.ClassLaws.{decided_if, chain, as_ifs}

-- what follows the Rust's chain goes by what it finds
pub by_rust {ℓ} : {X : Type ℓ} (chip : Chip) (nack : Bool) (w : ℕ) (h : Failure → X) (p : X) → decided (rust_of chip nack w) h p ≡ rust_chain chip nack w h p
by_rust chip nack w h p = simp decided_if

-- ---- both orders over the six tests: ARLO, BERR, TIMEOUT, PECERR, OVR, AF, each where it is an error

abbrev ours : ℕ → (a b t c o n : Bool) → Option Failure
ours fs a b t c o n = chain a b t c o n (λ e. Some (flagged e fs)) None

abbrev rusts : (a b t c o n : Bool) → Option Failure
rusts a b t c o n =
    cond a (Some (failure_of Arbitration))
    (cond t (Some (failure_of Timeout))
    (cond c (Some (failure_of Crc))
    (cond o (Some (failure_of Overrun))
    (cond n (Some (failure_of Nack))
    (cond b (Some (failure_of Bus)) None)))))

abbrev differs : (a b t c o n : Bool) → Bool
differs a b t c o n = b && (not a && (t || (c || (o || n))))

-- how the two stand to each other, whatever the tests are
record Ordered (fs : ℕ) (c d : Option Failure) (differ : Bool) : Type 0 where
  exactly : same_class c d ≡ not differ
  bus : differ ≡ true → c ≡ Some (flagged Bus fs)
  elsewhere : differ ≡ false → unflagged c ≡ d
  both : decided c (λ f. true) false ≡ decided d (λ f. true) false

-- one class, and two
agree : {fs : ℕ} {c d : Option Failure} → same_class c d ≡ true → unflagged c ≡ d → decided c (λ f. true) false ≡ decided d (λ f. true) false → Ordered fs c d false
agree s u b = record { exactly = s; bus = λ e. absurd (true≢false (sym e)); elsewhere = λ e. u; both = b }

differ : {fs : ℕ} {d : Option Failure} → same_class (Some (flagged Bus fs)) d ≡ false → true ≡ decided d (λ f. true) false → Ordered fs (Some (flagged Bus fs)) d true
differ s b = record { exactly = s; bus = λ e. refl; elsewhere = λ e. absurd (true≢false e); both = b }

ordered : (fs : ℕ) (a b t c o n : Bool) → Ordered fs (ours fs a b t c o n) (rusts a b t c o n) (differs a b t c o n)
ordered fs true true t c o n = agree refl refl refl
ordered fs true false t c o n = agree refl refl refl
ordered fs false false true c o n = agree refl refl refl
ordered fs false false false true o n = agree refl refl refl
ordered fs false false false false true n = agree refl refl refl
ordered fs false false false false false true = agree refl refl refl
ordered fs false false false false false false = agree refl refl refl
ordered fs false true true c o n = differ refl refl
ordered fs false true false true o n = differ refl refl
ordered fs false true false false true n = differ refl refl
ordered fs false true false false false true = differ refl refl
ordered fs false true false false false false = agree refl refl refl

-- of a word
at_word : (chip : Chip) (nack : Bool) (w : ℕ) → Ordered (error_flags w) (error_of chip nack w) (rust_of chip nack w) (departs chip nack w)
at_word chip nack w =
    subst (λ (c : Option Failure). Ordered (error_flags w) c (rust_of chip nack w) (departs chip nack w)) (as_ifs chip nack w)
    (ordered (error_flags w) (has_bit ARLO w) (bus_flag chip w) (chip.i2c_v3 && has_bit TIMEOUT w) (has_bit PECERR w) (has_bit OVR w) (nack && has_bit AF w))

-- both find an error, or both none
pub both_find : (chip : Chip) (nack : Bool) (w : ℕ) → decided (error_of chip nack w) (λ f. true) false ≡ decided (rust_of chip nack w) (λ f. true) false
both_find chip nack w = (at_word chip nack w).both

-- without BERR, or where it is no error, the class is the Rust's
pub no_bus : (chip : Chip) (nack : Bool) (w : ℕ) → bus_flag chip w ≡ false → unflagged (error_of chip nack w) ≡ rust_of chip nack w
no_bus chip nack w e = (at_word chip nack w).elsewhere (ap (λ (b : Bool). b && (not (has_bit ARLO w) && between_flag chip nack w)) e)

pub class_is_the_rusts : ClassIsTheRusts
class_is_the_rusts = record {
  exactly = λ chip nack w. (at_word chip nack w).exactly;
  bus = λ chip nack w. (at_word chip nack w).bus;
  elsewhere = λ chip nack w. (at_word chip nack w).elsewhere;
  without_berr = λ chip nack w e. no_bus chip nack w (ap (λ (b : Bool). chip.ch32v4 && b) e ∙ and-false chip.ch32v4);
  without_ch32v4 = λ chip nack w e. no_bus chip nack w (ap (λ (b : Bool). b && has_bit BERR w) e);
}

-- ---- of ends

-- an error by its number
same_failed : (e f : Error) → same_error e f ≡ true → failed e ≡ failed f
same_failed e f q = sym (ending_back (failed e)) ∙ ap (λ (n : ℕ). ending_of n 0 0) (eqb-true (error_number e) (error_number f) q) ∙ ending_back (failed f)

-- the flags of an error as a word of their own
same_end : (chip : Chip) (nack : Bool) (f : Failure) → is_met chip nack f ≡ true → departs chip nack f.flags ≡ false → end_as_the_rusts chip nack (Err f) ≡ failed f.error
unfolding is_met end_as_the_rusts
same_end chip nack f met q =
    sym (by_rust chip nack f.flags Err (failed f.error))
    ∙ ap (λ (c : Option Failure). decided c Err (failed f.error)) (sym (class_is_the_rusts.elsewhere chip nack f.flags q))
    ∙ go (error_of chip nack f.flags) met
  where
    go : (c : Option Failure) → decided c (λ found. same_failure found f) (eqb f.flags 0 && unchecked nack f.error) ≡ true → decided (unflagged c) Err (failed f.error) ≡ failed f.error
    go None m = refl
    go (Some g) m = same_failed g.error f.error (first_true (same_error g.error f.error) (eqb g.flags f.flags) m)

bus_end : (chip : Chip) (nack : Bool) (f : Failure) → is_met chip nack f ≡ true → departs chip nack f.flags ≡ true → failed f.error ≡ failed Bus
unfolding is_met
bus_end chip nack f met q = go (error_of chip nack f.flags) (class_is_the_rusts.bus chip nack f.flags q) met
  where
    go : (c : Option Failure) → c ≡ Some (flagged Bus (error_flags f.flags)) → decided c (λ found. same_failure found f) (eqb f.flags 0 && unchecked nack f.error) ≡ true → failed f.error ≡ failed Bus
    go c e m =
        let n : same_failure (flagged Bus (error_flags f.flags)) f ≡ true = subst (λ (d : Option Failure). decided d (λ found. same_failure found f) (eqb f.flags 0 && unchecked nack f.error) ≡ true) e m in
        sym (same_failed Bus f.error (first_true (same_error Bus f.error) (eqb (error_flags f.flags) f.flags) n))

other_end : (chip : Chip) (nack : Bool) (f : Failure) → departs chip nack f.flags ≡ true → (end_as_the_rusts chip nack (Err f) ≡ failed Bus) → ⊥
unfolding end_as_the_rusts
other_end chip nack f q e =
    go (rust_of chip nack f.flags)
    (subst (λ (c : Option Failure). same_class c (rust_of chip nack f.flags) ≡ false) (class_is_the_rusts.bus chip nack f.flags q) (class_is_the_rusts.exactly chip nack f.flags ∙ ap not q))
    (subst (λ (c : Option Failure). decided c (λ f. true) false ≡ decided (rust_of chip nack f.flags) (λ f. true) false) (class_is_the_rusts.bus chip nack f.flags q) (both_find chip nack f.flags))
    (by_rust chip nack f.flags Err (failed f.error) ∙ e)
  where
    go : (d : Option Failure) → same_class (Some (flagged Bus (error_flags f.flags))) d ≡ false → true ≡ decided d (λ f. true) false → decided d Err (failed f.error) ≡ failed Bus → ⊥
    go None s b e = true≢false b
    go (Some g) s b e = true≢false (sym (ap (λ (x : Ending). eqb 1 (ending_error x)) e) ∙ s)

pub end_is_the_rusts : EndIsTheRusts
end_is_the_rusts = record { same = same_end; bus = bus_end; other = other_end }
