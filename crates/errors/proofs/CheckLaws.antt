-- Our error check is the Rust's, its end read as the Rust's.
-- Assumes nothing.
use mathlib.Core.Path.{◌≡◌, refl, sym, ap, ◌∙◌, subst}
use mathlib.Core.Bool.{Bool, true, false, cond, not, ◌&&◌, true≢false}
use Prim.Native.Nat.{ℕ}
use lib.Dec.{eqb}
use Rattle.std.specs.Prelude.{Option, Some, None, Err}
use Rattle.registers.specs.declared.chip.Chip.{Chip}
use Rattle.registers.specs.Word.{has_bit}
use Rattle.registers.specs.declared.register.Register.TheVariants.{Star1}
use Rattle.registers.specs.Bits.{BERR}
use Rattle.registers.specs.Flags.{error_flags, clear_error}
use Rattle.registers.proofs.FlagLaws.{same_flags}
use Rattle.access.specs.declared.ending.Error.{Error}
use Rattle.access.specs.declared.ending.Error.TheVariants.{Bus, Nack, Timeout}
use Rattle.access.specs.declared.ending.Failure.{Failure}
use Rattle.access.specs.Endings.{flagged, failure_of, failed}
use Rattle.access.specs.Program.{Access, read, Program, Blocking, cut, write_register, only_if, ◌>>◌}
use Rattle.alike.specs.Like.{any_answer, Like, Handles, Alike}
use Rattle.alike.proofs.LikeLaws.{accesses, cases, cut_like}
use Rattle.errors.specs.Classes.{error_of, decided}
use Rattle.errors.specs.Check.{check_errors, check_until_berr, has_no_berr}
use Rattle.errors.specs.AsTheRust.{rust_chain, rust_of, end_as_the_rusts, added_forgotten, SecondForgotten, FlagsDecide, OthersStay}
use Rattle.errors.specs.Departs.{unflagged}
use Rattle.errors.proofs.MetLaws.{Finds, finds}
use Rattle.errors.proofs.DepartLaws.{by_rust, both_find, class_is_the_rusts}

pub second_forgotten : SecondForgotten
unfolding end_as_the_rusts
second_forgotten chip nack v x = refl

pub flags_decide : FlagsDecide
unfolding end_as_the_rusts
flags_decide chip nack e w = let s = same_flags w in rw (s.arlo, s.timeout, s.pecerr, s.ovr, s.af, s.berr) refl

no_class : (chip : Chip) (nack : Bool) (e : Error) → end_as_the_rusts chip nack (failed e) ≡ failed e
unfolding end_as_the_rusts has_bit
no_class chip nack e = go chip.i2c_v3 nack chip.ch32v4
  where
    go : (a b c : Bool) → cond (a && false) (failed Timeout) (cond (b && false) (failed Nack) (cond (c && false) (failed Bus) (failed e))) ≡ failed e
    go true true true = refl
    go true true false = refl
    go true false true = refl
    go true false false = refl
    go false true true = refl
    go false true false = refl
    go false false true = refl
    go false false false = refl

pub others_stay : OthersStay
unfolding end_as_the_rusts
others_stay = record { done = λ chip nack v. refl; failures = no_class }

-- what our check finds in a word is, read as the Rust's, what the Rust's chain of ifs finds in it
pub chain_alike : (chip : Chip) (nack : Bool) (w : ℕ) {h h' : Failure → Program} {p p' : Program} → Handles (end_as_the_rusts chip nack) any_answer h h' → Like (end_as_the_rusts chip nack) any_answer p p'
    → Like (end_as_the_rusts chip nack) any_answer (decided (error_of chip nack w) h p) (rust_chain chip nack w h' p')
chain_alike chip nack w {h} {h'} {p} {p'} H K =
    subst (Like (end_as_the_rusts chip nack) any_answer (decided (error_of chip nack w) h p)) (by_rust chip nack w h' p')
    (go (error_of chip nack w) (rust_of chip nack w) refl (finds chip nack w) (both_find chip nack w))
  where
    -- the flags of a found error are the word's, so the Rust finds in them what it finds in the word
    found : (f g : Failure) → rust_of chip nack w ≡ Some g → Finds w f → end_as_the_rusts chip nack (Err f) ≡ Err g
    found f g q u =
        ap (λ (x : ℕ). end_as_the_rusts chip nack (Err (flagged f.error x))) u.flags
        ∙ flags_decide chip nack f.error w
        ∙ sym (by_rust chip nack w Err (failed f.error))
        ∙ ap (λ (c : Option Failure). decided c Err (failed f.error)) q

    go : (c d : Option Failure) → rust_of chip nack w ≡ d → decided c (Finds w) (Unit {0}) → decided c (λ f. true) false ≡ decided d (λ f. true) false → Like (end_as_the_rusts chip nack) any_answer (decided c h p) (decided d h' p')
    go None None q u b = K
    go (Some f) (Some g) q u b = H.after f g (found f g q u)
    go None (Some g) q u b = absurd (true≢false (sym b))
    go (Some f) None q u b = absurd (true≢false b)

-- without BERR in the word it is enough to forget the flags
chain_same : (chip : Chip) (nack : Bool) (w : ℕ) → has_bit BERR w ≡ false → {h h' : Failure → Program} {p p' : Program} → Handles added_forgotten any_answer h h' → Like added_forgotten any_answer p p'
    → Like added_forgotten any_answer (decided (error_of chip nack w) h p) (rust_chain chip nack w h' p')
chain_same chip nack w e {h} {h'} {p} {p'} H K =
    subst (Like added_forgotten any_answer (decided (error_of chip nack w) h p)) (ap (λ (c : Option Failure). decided c h' p') (class_is_the_rusts.without_berr chip nack w e) ∙ by_rust chip nack w h' p') (go (error_of chip nack w))
  where
    go : (c : Option Failure) → Like added_forgotten any_answer (decided c h p) (decided (unflagged c) h' p')
    go None = K
    go (Some f) = H.after f (failure_of f.error) refl

-- ---- both checks up to a word with BERR

-- the Rust's check, going no further there
abbrev pub rust_until_berr : Chip → Bool → ℕ → Blocking (Unit {0})
rust_until_berr chip nack w = λ n h k. cond (has_bit BERR w) cut ((only_if (not (eqb (error_flags w) 0)) (write_register Star1 (clear_error (error_flags w))) >> λ n h k. rust_chain chip nack w h (k tt)) n h k)

pub until_alike : (chip : Chip) (nack : Bool) (w : ℕ) → Alike (end_as_the_rusts chip nack) any_answer (check_until_berr chip nack w) (rust_until_berr chip nack w)
unfolding check_errors
until_alike chip nack w =
    record {
      like = λ n H K. cases (has_bit BERR w) cut_like (cases (not (eqb (error_flags w) 0)) (accesses (λ _. chain_alike chip nack w H (K tt))) (chain_alike chip nack w H (K tt)));
    }

pub until_same : (chip : Chip) (nack : Bool) (w : ℕ) → Alike added_forgotten any_answer (check_until_berr chip nack w) (rust_until_berr chip nack w)
unfolding check_errors
until_same chip nack w = record { like = λ n {h} {h'} {k} {k'} H K. go n h h' k k' H K (has_bit BERR w) refl }
  where
    go : (n : ℕ) (h h' : Failure → Program) (k k' : Unit {0} → Program) → Handles added_forgotten any_answer h h' → ((u : Unit {0}) → Like added_forgotten any_answer (k u) (k' u)) → (b : Bool) → has_bit BERR w ≡ b
        → Like added_forgotten any_answer (cond b cut (check_errors chip nack w n h k))
        (cond b cut ((only_if (not (eqb (error_flags w) 0)) (write_register Star1 (clear_error (error_flags w))) >> λ n h k. rust_chain chip nack w h (k tt)) n h' k'))
    go n h h' k k' H K true e = cut_like
    go n h h' k k' H K false e = cases (not (eqb (error_flags w) 0)) (accesses (λ _. chain_same chip nack w e H (K tt))) (chain_same chip nack w e H (K tt))

-- ---- where no word of STAR1 has BERR, our check goes no further nowhere

pub no_berr : (w : ℕ) → has_no_berr (read Star1) w ≡ true → has_bit BERR w ≡ false
no_berr w = go (has_bit BERR w)
  where
    go : (b : Bool) → not b ≡ true → b ≡ false
    go false e = refl
    go true e = absurd (true≢false (sym e))

pub until_itself : {allowed : Access → ℕ → Bool} (chip : Chip) (nack : Bool) (w : ℕ) → has_bit BERR w ≡ false → Alike (λ e. e) allowed (check_errors chip nack w) (check_until_berr chip nack w)
unfolding check_errors
until_itself {allowed} chip nack w e = record {
  like = λ n {h} {h'} {k} {k'} H K. subst (λ (b : Bool). Like (λ e. e) allowed (check_errors chip nack w n h k) (cond b cut (check_errors chip nack w n h' k'))) (sym e)
      (cases (not (eqb (error_flags w) 0)) (accesses (λ _. go (error_of chip nack w) h h' (k tt) (k' tt) H (K tt))) (go (error_of chip nack w) h h' (k tt) (k' tt) H (K tt)));
}
  where
    go : (c : Option Failure) (h h' : Failure → Program) (p p' : Program) → Handles (λ e. e) allowed h h' → Like (λ e. e) allowed p p' → Like (λ e. e) allowed (decided c h p) (decided c h' p')
    go None h h' p p' H K = K
    go (Some f) h h' p p' H K = H.after f f refl
