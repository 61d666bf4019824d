-- Ours is the Rust: our error check is alike the Rust's, and so is all of the text.
-- Assumes nothing.
use Rattle.std.specs.Prelude.{Err}
use mathlib.Core.Path.{◌≡◌, refl, sym, ap, subst, ◌∙◌}
use mathlib.Core.List.{List}
use mathlib.Core.Bool.{Bool, true, false, not}
use Prim.Native.Nat.{ℕ}
use lib.Dec.{eqb}
use Rattle.registers.specs.declared.chip.Chip.{Chip}
use Rattle.registers.specs.declared.register.Register.TheVariants.{Star1}
use Rattle.registers.specs.Flags.{error_flags}
use Rattle.access.specs.declared.ending.Error.{Error}
use Rattle.access.specs.Endings.{Ending, failed, returned, returned_both}
use Rattle.access.specs.Program.{Access, read, finish, Blocking}
use Rattle.alike.specs.Like.{forgetting, any_answer, Like, Alike}
use Rattle.alike.proofs.LikeLaws.{accesses, cases, calls, always, nothing_forgotten, forget_alike}
use Rattle.errors.specs.Check.{check_errors, check_until_berr, has_no_berr}
use Rattle.errors.specs.AsTheRust.{end_as_the_rusts, added_forgotten}
use Rattle.errors.proofs.CheckLaws.{others_stay, second_forgotten, chain_alike, rust_until_berr, until_alike, until_same, until_itself, no_berr}
use Rattle.slave.specs.declared.state.Kind.{Kind}
use Rattle.slave.specs.declared.state.Kind.TheVariants.{Listen, RespondToWrite, RespondToRead}
use Rattle.slave.specs.Rust as rust
use Rattle.slave.specs.Ours as our
use Rattle.slave.specs.Numbers.{command_number, status_number}
use Rattle.slave.specs.Calls.{SlaveLent, program_with, rust_program_with, both_left, ours_program_with, rust_slave, ours_slave, until_slave}
use Rattle.slave.specs.Claims.{CountsAsTheRust, OursIsTheRust, SameWithoutBerr, UnreadWithoutBerr}
use Rattle.slave.proofs.TextAlike as text

pub counts_as_the_rust : CountsAsTheRust
unfolding rust.blocking_respond_to_read
counts_as_the_rust chip check bytes turns h k = refl

-- what a way to forget does to ends that no check decided
record Plain (forget : Ending → Ending) : Type 0 where
  failures : (e : Error) → forget (failed e) ≡ failed e
  done : (v : ℕ) → forget (returned v) ≡ returned v
  second : (v x : ℕ) → forget (returned_both v x) ≡ returned v

module _ (chip : Chip) where
  -- the text with one check and with another, which is alike
  program_like : (forget : Ending → Ending) (allowed : Access → ℕ → Bool) → ((e : Error) → forget (failed e) ≡ failed e) → ((v : ℕ) → forget (returned v) ≡ returned v)
      → (check check' : ℕ → Blocking (Unit {0})) → ((status : ℕ) → allowed (read Star1) status ≡ true → Alike forget allowed (check status) (check' status))
      → (left left' : our.Counts → Ending) → ((c : our.Counts) → forget (left c) ≡ left' c) → (turns : ℕ) (x : Kind) (l : SlaveLent)
      → Like forget allowed (program_with check our.Counts (our.counts chip) left turns chip x l) (program_with check' our.Counts (our.counts chip) left' turns chip x l)
  program_like forget allowed fixed done check check' a left left' e turns Listen l = calls turns (text.blocking_listen_alike forget allowed fixed chip _ _ a) (λ c. done (command_number c))
  program_like forget allowed fixed done check check' a left left' e turns RespondToWrite l = calls turns (text.blocking_respond_to_write_alike forget allowed fixed chip _ _ a l.room) done
  program_like forget allowed fixed done check check' a left left' e turns RespondToRead l =
      calls turns (text.blocking_respond_to_read_alike forget allowed fixed chip _ _ a our.Counts (our.counts chip) l.reply) e

  -- without the second count
  counted_once : (check : ℕ → Blocking (Unit {0})) (turns : ℕ) (x : Kind) (l : SlaveLent)
      → program_with check our.Counts (our.counts chip) (λ c. returned (status_number c.status)) turns chip x l ≡ rust_program_with check turns chip x l
  counted_once check turns Listen l = refl
  counted_once check turns RespondToWrite l = refl
  counted_once check turns RespondToRead l = counts_as_the_rust chip check l.reply turns (λ f. finish (Err f)) (λ s. finish (returned (status_number s)))

  -- ours with one check is like the Rust's with another
  rust_like : (forget : Ending → Ending) → Plain forget → (check check' : ℕ → Blocking (Unit {0})) → ((status : ℕ) → Alike forget any_answer (check status) (check' status)) → (turns : ℕ) (x : Kind) (l : SlaveLent)
      → Like forget any_answer (ours_program_with check turns chip x l) (rust_program_with check' turns chip x l)
  rust_like forget plain check check' a turns x l =
      subst (Like forget any_answer (ours_program_with check turns chip x l)) (counted_once check' turns x l)
      (program_like forget any_answer plain.failures plain.done check check' (λ w q. a w) both_left _ (λ c. plain.second (status_number c.status) (status_number c.second)) turns x l)

  as_the_rust_plain : Plain (end_as_the_rusts chip false)
  as_the_rust_plain = record { failures = others_stay.failures chip false; done = others_stay.done chip false; second = second_forgotten chip false }

  check_alike : (status : ℕ) → Alike (end_as_the_rusts chip false) any_answer (our.slave_handle_errors chip status) (rust.slave_handle_errors chip status)
  unfolding check_errors rust.slave_handle_errors
  check_alike w = record { like = λ n H K. cases (not (eqb (error_flags w) 0)) (accesses (λ _. chain_alike chip false w H (K tt))) (chain_alike chip false w H (K tt)) }

added_plain : Plain added_forgotten
added_plain = record { failures = λ e. refl; done = λ v. refl; second = λ v x. refl }

pub ours_is_the_rust : OursIsTheRust
unfolding rust_slave ours_slave
ours_is_the_rust chip x l turns answers = always (rust_like chip (end_as_the_rusts chip false) (as_the_rust_plain chip) _ _ (check_alike chip) turns x l) 0 answers

-- up to a word with BERR it makes no difference what is forgotten
until_forgets : (chip : Chip) (x : Kind) (l : SlaveLent) (turns : ℕ) (answers : List ℕ) → forgetting (end_as_the_rusts chip false) (until_slave turns chip x l answers) ≡ forgetting added_forgotten (until_slave turns chip x l answers)
unfolding until_slave
until_forgets chip x l turns answers =
    forget_alike
    (rust_like chip (end_as_the_rusts chip false) (as_the_rust_plain chip) _ (rust_until_berr chip false) (until_alike chip false) turns x l)
    (rust_like chip added_forgotten added_plain _ (rust_until_berr chip false) (until_same chip false) turns x l) 0 answers

pub same_without_berr : SameWithoutBerr
same_without_berr chip x l turns answers e =
    ours_is_the_rust chip x l turns answers
    ∙ ap (forgetting (end_as_the_rusts chip false)) (sym e)
    ∙ until_forgets chip x l turns answers
    ∙ ap (forgetting added_forgotten) e

-- without a word of STAR1 that has BERR none is read by an error check
pub unread_without_berr : UnreadWithoutBerr
unfolding until_slave ours_slave
unread_without_berr chip x l turns answers ok =
    (program_like chip (λ e. e) has_no_berr (λ e. refl) (λ v. refl) (our.slave_handle_errors chip) (check_until_berr chip false) (λ w q. until_itself chip false w (no_berr w q)) both_left both_left (λ c. refl) turns x l).same 0 answers ok
    ∙ sym (nothing_forgotten (ours_slave turns chip x l answers))
