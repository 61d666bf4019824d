-- Where the Rust's error is another than ours, by the flags of an end that a call can have.
-- Assumes nothing.
use Rattle.std.specs.Prelude.{Ok, Err}
use mathlib.Core.Path.{◌≡◌, refl, sym, ap}
use mathlib.Core.Bool.{Bool, true, false, not, ◌&&◌, true≢false}
use mathlib.Core.Option.{Option, none, some}
use borrow.Author.Tests.{eqb-true}
use Rattle.registers.specs.Bits.{BERR, ARLO}
use Rattle.registers.specs.Word.{has_bit}
use Rattle.access.specs.declared.ending.Error.TheVariants.{Bus}
use Rattle.access.specs.Endings.{Ending, failed}
use Rattle.access.proofs.EndingLaws.{both_same}
use Rattle.alike.specs.Like.{forget_end}
use Rattle.errors.specs.AsTheRust.{end_as_the_rusts, added_forgotten}
use Rattle.errors.specs.Departs.{between_flag}
use Rattle.errors.specs.Met.{is_met}
use Rattle.errors.proofs.CheckLaws.{second_forgotten}
use Rattle.errors.proofs.DepartLaws.{end_is_the_rusts}
use Rattle.ch32_i2c.specs.Demands.{Call, Checks, unchecked, checked, checks_of, check_as_the_rust, checks_berr, check_departs, EndsMoved, ends_by, can_end, IsMet, init, transaction, write_read, write, read, init_slave, listen, respond_to_write, respond_to_read}

-- the failures that a call can end with, by its error check; only the check's chip and side matter, not how many numbers are returned
abbrev Fitting : Checks → Ending → Type 0
Fitting unchecked e = ends_by false (λ f. false) e ≡ true
Fitting (checked chip nack) e = ends_by true (is_met chip nack) e ≡ true

fitting : (c : Call) (e : Ending) → can_end c e ≡ true → Fitting (checks_of c) e
fitting (init chip input frequency duty) e q = q
fitting (transaction chip address list written) (Ok o) q = refl
fitting (transaction chip address list written) (Err f) q = q
fitting (write_read chip address written) (Ok o) q = refl
fitting (write_read chip address written) (Err f) q = q
fitting (write chip address option written) (Ok o) q = refl
fitting (write chip address option written) (Err f) q = q
fitting (read chip address option) (Ok o) q = refl
fitting (read chip address option) (Err f) q = q
fitting (init_slave ten address has second general stretching) e q = q
fitting (listen chip) (Ok o) q = refl
fitting (listen chip) (Err f) q = q
fitting (respond_to_write chip) (Ok o) q = refl
fitting (respond_to_write chip) (Err f) q = q
fitting (respond_to_read chip reply) e q = q

-- nothing but what is added is forgotten, unless the flags are such a word
same_end : (k : Checks) (e : Ending) → Fitting k e → check_departs k (some e) ≡ false → check_as_the_rust k e ≡ added_forgotten e
same_end unchecked (Ok o) q d = both_same refl (eqb-true o.second 0 q)
same_end unchecked (Err f) q d = absurd (true≢false (sym q))
same_end (checked chip nack) (Ok o) q d = second_forgotten chip nack o.value o.second
same_end (checked chip nack) (Err f) q d = end_is_the_rusts.same chip nack f q d

pub unmoved_end : (c : Call) (e : Option Ending) → IsMet (can_end c) e → check_departs (checks_of c) e ≡ false → forget_end (check_as_the_rust (checks_of c)) e ≡ forget_end added_forgotten e
unmoved_end c none m d = refl
unmoved_end c (some e) m d = ap some (same_end (checks_of c) e (fitting c e m) d)

-- there ours is Bus, and the Rust's another
moved : (k : Checks) (e : Ending) → Fitting k e → check_departs k (some e) ≡ true → EndsMoved (some e) (forget_end (check_as_the_rust k) (some e))
moved unchecked e q d = absurd (true≢false (sym d))
moved (checked chip nack) (Ok o) q d = absurd (true≢false (sym d))
moved (checked chip nack) (Err f) q d = record { bus = ap some (end_is_the_rusts.bus chip nack f q d); other = λ r. end_is_the_rusts.other chip nack f d (inside r) }
  where
    inside : some (end_as_the_rusts chip nack (Err f)) ≡ some (failed Bus) → end_as_the_rusts chip nack (Err f) ≡ failed Bus
    inside r = ap held r
      where
        held : Option Ending → Ending
        held none = failed Bus
        held (some x) = x

nowhere : (k : Checks) → check_departs k none ≡ true → ⊥
nowhere unchecked d = true≢false (sym d)
nowhere (checked chip nack) d = true≢false (sym d)

pub moved_end : (c : Call) (e : Option Ending) → IsMet (can_end c) e → check_departs (checks_of c) e ≡ true → EndsMoved e (forget_end (check_as_the_rust (checks_of c)) e)
moved_end c none m d = absurd (nowhere (checks_of c) d)
moved_end c (some e) m d = moved (checks_of c) e (fitting c e m) d

-- where BERR decides nothing both orders agree
pub berr_undecided : (k : Checks) (e : Option Ending) → checks_berr k ≡ false → check_departs k e ≡ false
berr_undecided unchecked e q = refl
berr_undecided (checked chip nack) none q = refl
berr_undecided (checked chip nack) (some (Ok o)) q = refl
berr_undecided (checked chip nack) (some (Err f)) q = ap (λ (b : Bool). (b && has_bit BERR f.flags) && (not (has_bit ARLO f.flags) && between_flag chip nack f.flags)) q
