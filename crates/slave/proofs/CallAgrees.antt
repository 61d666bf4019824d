-- The calls of the slave show what our text shows, and `init_slave` what the Rust shows.
-- Assumes nothing.
use mathlib.Core.Path.{◌≡◌, refl, sym, ap, ◌∙◌}
use mathlib.Core.Bool.{Bool, true, false, cond, ◌||◌, or-true, or-false}
use mathlib.Core.List.{List, []}
use mathlib.Core.Option.{none, some}
use Prim.Native.Nat.{ℕ, ◌<◌}
use native.Mathlib.Omega.{arith}
use borrow.Author.Tests.{le-ltb}
use lib.Dec.{ltb}
use lib.ListN.{length}
use Rattle.std.specs.Prelude.{Option, Some, None, Err}
use Rattle.registers.specs.declared.chip.Chip.{Chip}
use Rattle.registers.specs.declared.register.Register.TheVariants.{Oaddr1, Oaddr2}
use Rattle.registers.specs.Bits.{ENDUAL}
use Rattle.registers.proofs.WordLaws.{cleared_none}
use Rattle.registers.proofs.AddressLaws.{seven_fields, ten_fields, second_fields}
use Rattle.access.specs.declared.ending.Error.TheVariants.{InvalidAddress, BufferTooLong, ReservedAddress}
use Rattle.access.specs.declared.ending.Failure.{Failure}
use Rattle.access.specs.declared.need.Need.TheVariants as need
use Rattle.access.specs.Endings.{done, failure_of}
use Rattle.access.specs.Program.{Program, finish}
use Rattle.access.specs.Record.{shown_of}
use Rattle.access.specs.Machine.{shown_from}
use Rattle.access.proofs.Agreement.{Agree, ends, reads, writes}
use Rattle.slave.specs.declared.config.SlaveAddress.{SlaveAddress}
use Rattle.slave.specs.declared.config.SlaveAddress.TheVariants.{SevenBit, TenBit}
use Rattle.slave.specs.declared.config.SlaveConfig.{SlaveConfig}
use Rattle.slave.specs.declared.state.Kind.{Kind}
use Rattle.slave.specs.declared.state.Kind.TheVariants.{Listen, RespondToWrite, RespondToRead}
use Rattle.slave.specs.Rust as rust
use Rattle.slave.specs.Reserved.{config_reserved}
use Rattle.slave.specs.Init.{own_fault, second_fault, config_fault, init_refusal, own_word_of, second_word_of, owed, advance, init_machine, started}
use Rattle.slave.specs.Machine.{fresh, slave, start}
use Rattle.slave.specs.Calls.{seen_after, init_shown, rust_init, SlaveLent, size_of, setting_of, bytes_of, slave_shown, ours_program, ours_slave, Accepted}
use Rattle.slave.specs.Claims.{SlaveIsOurs}
use Rattle.slave.proofs.SlaveAgrees.{blocking_listen_agrees, blocking_respond_to_write_agrees, blocking_respond_to_read_agrees}

-- ---- init_slave

-- 9 for the own address, or for the second
both_faults : (a b : Bool) (p q : Program) → cond a p (cond b p q) ≡ cond (a || b) p q
both_faults true b p q = refl
both_faults false b p q = refl

module _ (c : SlaveConfig) (n : ℕ) (h : Failure → Program) (k : Unit {0} → Program) where
  own_is : (own : SlaveAddress) (general : Bool) (m : Unit {0} → Program) → rust.validate_own own general n h m ≡ cond (own_fault own general) (h (failure_of InvalidAddress)) (m tt)
  own_is (SevenBit a) general m = refl
  own_is (TenBit a) general m = refl

  second_is : (own : SlaveAddress) (second : Option ℕ) → rust.validate_second own second n h k ≡ cond (second_fault own second) (h (failure_of InvalidAddress)) (k tt)
  second_is (SevenBit a) None = refl
  second_is (TenBit a) None = refl
  second_is (SevenBit a) (Some b) = ap (λ (x : Bool). cond x (h (failure_of InvalidAddress)) (k tt)) (or-false (ltb 127 b))
  second_is (TenBit a) (Some b) = ap (λ (x : Bool). cond x (h (failure_of InvalidAddress)) (k tt)) (or-true (ltb 127 b))

  pub validate_agrees : rust.validate c n h k ≡ cond (config_fault c) (h (failure_of InvalidAddress)) (k tt)
  unfolding rust.validate config_fault
  validate_agrees =
      own_is c.address c.general_call _
      ∙ ap (λ (p : Program). cond (own_fault c.address c.general_call) (h (failure_of InvalidAddress)) p) (second_is c.address c.second_address)
      ∙ both_faults (own_fault c.address c.general_call) (second_fault c.address c.second_address) (h (failure_of InvalidAddress)) (k tt)

own_word_is : (a : SlaveAddress) → rust.own_word a ≡ own_word_of a
own_word_is (SevenBit a) = seven_fields a
own_word_is (TenBit a) = ten_fields a

second_word_is : (s : Option ℕ) → rust.second_word s ≡ second_word_of s
second_word_is None = cleared_none ENDUAL
second_word_is (Some a) = second_fields a

pub init_slave_agrees : (c : SlaveConfig) (n at : ℕ) (h : Failure → Program) → Agree init_machine [] n at (rust.init_slave c n h (λ _. finish done)) (started c)
unfolding rust.init_slave owed advance
init_slave_agrees c n at h =
    reads refl (λ a. writes refl (λ _. reads refl (λ b. writes refl (λ _.
    writes (ap (need.Write Oaddr1) (sym (own_word_is c.address))) (λ _.
    writes (ap (need.Write Oaddr2) (sym (second_word_is c.second_address))) (λ _.
    reads refl (λ w. writes refl (λ _. ends done refl))))))))

-- the Rust: 9 for a fault, and else the machine
rust_is : (c : SlaveConfig) (turns : ℕ) (answers : List ℕ) → length answers < turns
    → rust_init turns c answers ≡ seen_after (cond (config_fault c) (some InvalidAddress) none) (shown_from init_machine [] (started c) answers)
unfolding rust_init rust.into_slave
rust_is c turns answers q =
    ap (λ (p : Program). shown_of 0 p answers) (validate_agrees c turns (λ f. finish (Err f)) (λ _. rust.init_slave c turns (λ f. finish (Err f)) (λ _. finish done))) ∙ go (config_fault c)
  where
    go : (b : Bool) → shown_of 0 (cond b (finish (Err (failure_of InvalidAddress))) (rust.init_slave c turns (λ f. finish (Err f)) (λ _. finish done))) answers
        ≡ seen_after (cond b (some InvalidAddress) none) (shown_from init_machine [] (started c) answers)
    go true = refl
    go false = sym ((init_slave_agrees c turns 0 (λ f. finish (Err f))).same answers q)

init_same : (c : SlaveConfig) → config_reserved c ≡ false → (turns : ℕ) (answers : List ℕ) → length answers < turns → init_shown c answers ≡ rust_init turns c answers
unfolding init_shown
init_same c r turns answers q = rw r (sym (rust_is c turns answers q))

init_refused : (c : SlaveConfig) → config_fault c ≡ true → (turns : ℕ) (answers : List ℕ) → length answers < turns → init_shown c answers ≡ rust_init turns c answers
unfolding init_shown
init_refused c f turns answers q = rw f (sym (rw f at (rust_is c turns answers q)))

init_departs : (c : SlaveConfig) → init_refusal c ≡ some ReservedAddress → (turns : ℕ) (answers : List ℕ) → length answers < turns
    → rust_init turns c answers ≡ shown_from init_machine [] (started c) answers
init_departs c e turns answers q = rust_is c turns answers q ∙ go (config_fault c) e
  where
    go : (b : Bool) → cond b (some InvalidAddress) (cond (config_reserved c) (some ReservedAddress) none) ≡ some ReservedAddress
        → seen_after (cond b (some InvalidAddress) none) (shown_from init_machine [] (started c) answers) ≡ shown_from init_machine [] (started c) answers
    go true e = let z : ◌≡◌ {A = ℕ} 0 1 = cc in absurd (omega arith)
    go false e = refl

-- ---- listen and the two responders

program_same : (chip : Chip) (x : Kind) (l : SlaveLent) (turns : ℕ) (answers : List ℕ) → length answers < turns
    → shown_from (slave (setting_of chip x l)) (bytes_of x l) (start x) answers ≡ shown_of 0 (ours_program turns chip x l) answers
program_same chip Listen l turns answers q = (blocking_listen_agrees (setting_of chip Listen l) [] refl turns 0 fresh).same answers q
program_same chip RespondToWrite l turns answers q = (blocking_respond_to_write_agrees (setting_of chip RespondToWrite l) [] refl turns fresh refl).same answers q
program_same chip RespondToRead l turns answers q = (blocking_respond_to_read_agrees (setting_of chip RespondToRead l) l.reply refl refl turns 0 fresh refl).same answers q

-- what is seen of an accepted call is the machine's
pub accepted_shown : (chip : Chip) (x : Kind) (l : SlaveLent) → Accepted x l → (answers : List ℕ)
    → slave_shown chip x l answers ≡ shown_from (slave (setting_of chip x l)) (bytes_of x l) (start x) answers
unfolding slave_shown
accepted_shown chip x l a answers = ap (λ (b : Bool). seen_after (cond b (some BufferTooLong) none) (shown_from (slave (setting_of chip x l)) (bytes_of x l) (start x) answers)) (le-ltb 65535 (size_of x l) a)

same : (chip : Chip) (x : Kind) (l : SlaveLent) → Accepted x l → (turns : ℕ) (answers : List ℕ) → length answers < turns → slave_shown chip x l answers ≡ ours_slave turns chip x l answers
unfolding ours_slave
same chip x l a turns answers q = accepted_shown chip x l a answers ∙ program_same chip x l turns answers q

pub slave_is_ours : SlaveIsOurs
slave_is_ours = record { init = init_same; init_refused = init_refused; init_departs = init_departs; same = same }
