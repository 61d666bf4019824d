-- Ours is the Rust: our parts are alike the Rust's, and so is all of the text.
-- Assumes nothing.
use mathlib.Core.Path.{◌≡◌, refl, sym, ap, ◌∙◌}
use mathlib.Core.Bool.{Bool, true, not}
use mathlib.Core.List.{List}
use Prim.Native.Nat.{ℕ}
use lib.Dec.{eqb}
use Rattle.registers.specs.declared.chip.Chip.{Chip}
use Rattle.registers.specs.declared.register.Register.TheVariants.{Star1}
use Rattle.registers.specs.Flags.{error_flags}
use Rattle.access.specs.declared.ending.Error.{Error}
use Rattle.access.specs.Endings.{Ending, failed}
use Rattle.access.specs.Program.{Access, Blocking, pure, read_register, ◌>>◌, ◌>>=◌}
use Rattle.alike.specs.Like.{forgetting, any_answer, Alike}
use Rattle.alike.proofs.LikeLaws.{accesses, cases, calls, pure_alike, read_alike, read_then, ◌>>=-alike◌, ◌>>-alike◌, always, nothing_forgotten, forget_alike}
use Rattle.errors.specs.Check.{check_errors, has_no_berr}
use Rattle.errors.specs.AsTheRust.{end_as_the_rusts, added_forgotten}
use Rattle.errors.proofs.CheckLaws.{others_stay, chain_alike, rust_until_berr, until_alike, until_same, until_itself, no_berr}
use Rattle.master.specs.declared.call.Call.{Call}
use Rattle.master.specs.declared.call.Kind.{Kind}
use Rattle.master.specs.declared.call.Kind.TheVariants as kind
use Rattle.master.specs.Rust as rust
use Rattle.master.specs.Ours as our
use Rattle.master.specs.Ours.{with_check}
use Rattle.master.specs.Calls.{Lent, function, rust_with, ours_with, until_with}
use Rattle.master.specs.Claims.{OursIsTheRust, SameWithoutBerr, UnreadWithoutBerr}
use Rattle.master.proofs.TextAlike as text

module _ (chip : Chip) where
  -- the text with one check and with another, which is alike
  function_alike : (forget : Ending → Ending) (allowed : Access → ℕ → Bool) → ((e : Error) → forget (failed e) ≡ failed e) → (check check' : Blocking ℕ) → Alike forget allowed check check' → (address : ℕ) (x : Kind) (l : Lent)
      → Alike forget allowed (function (with_check chip check) chip address x l) (function (with_check chip check') chip address x l)
  function_alike forget allowed fixed check check' a address kind.Transaction l =
      text.blocking_transaction_alike forget allowed fixed chip _ _ a _ _ (text.validate_address_alike forget allowed fixed chip) _ _ (text.start_and_address_alike forget allowed fixed chip _ _ a) address _
  function_alike forget allowed fixed check check' a address kind.WriteRead l =
      text.blocking_write_read_alike forget allowed fixed chip _ _ a _ _ (text.validate_address_alike forget allowed fixed chip) _ _ (text.start_and_address_alike forget allowed fixed chip _ _ a) address l.written l.room
  function_alike forget allowed fixed check check' a address (kind.Write o) l =
      text.write_bytes_alike forget allowed fixed chip _ _ a _ _ (text.validate_address_alike forget allowed fixed chip) _ _ (text.start_and_address_alike forget allowed fixed chip _ _ a) address l.written _
  function_alike forget allowed fixed check check' a address (kind.Read o) l =
      text.blocking_read_timeout_alike forget allowed fixed chip _ _ a _ _ (text.validate_address_alike forget allowed fixed chip) _ _ (text.start_and_address_alike forget allowed fixed chip _ _ a) address l.room _

  check_alike : Alike (end_as_the_rusts chip true) any_answer (our.check_and_clear_error_flags chip) (rust.check_and_clear_error_flags chip)
  unfolding our.check_and_clear_error_flags rust.check_and_clear_error_flags check_errors
  check_alike = record { like = λ n H K. accesses (λ w. cases (not (eqb (error_flags w) 0)) (accesses (λ _. chain_alike chip true w H (K w))) (chain_alike chip true w H (K w))) }

  -- the Rust's check, up to a word with BERR
  abbrev rust_until : Blocking ℕ
  rust_until = do
    status ← read_register Star1
    rust_until_berr chip true status
    pure status

pub ours_is_the_rust : OursIsTheRust
unfolding rust_with ours_with
ours_is_the_rust c l turns answers =
    always (calls turns (function_alike c.chip (end_as_the_rusts c.chip true) any_answer (others_stay.failures c.chip true) _ _ (check_alike c.chip) c.address c.kind l) (λ _. others_stay.done c.chip true 0)) 0 answers

-- up to a word with BERR it makes no difference what is forgotten
until_forgets : (c : Call) (l : Lent) (turns : ℕ) (answers : List ℕ) → forgetting (end_as_the_rusts c.chip true) (until_with turns c l answers) ≡ forgetting added_forgotten (until_with turns c l answers)
unfolding until_with
until_forgets c l turns answers =
    forget_alike
    (calls turns
    (function_alike c.chip (end_as_the_rusts c.chip true) any_answer (others_stay.failures c.chip true) _ (rust_until c.chip)
    (read_alike Star1 >>=-alike (λ w. until_alike c.chip true w >>-alike pure_alike w)) c.address c.kind l)
    (λ _. others_stay.done c.chip true 0))
    (calls turns
    (function_alike c.chip added_forgotten any_answer (λ e. refl) _ (rust_until c.chip)
    (read_alike Star1 >>=-alike (λ w. until_same c.chip true w >>-alike pure_alike w)) c.address c.kind l)
    (λ _. refl)) 0 answers

pub same_without_berr : SameWithoutBerr
same_without_berr c l turns answers e =
    ours_is_the_rust c l turns answers
    ∙ ap (forgetting (end_as_the_rusts c.chip true)) (sym e)
    ∙ until_forgets c l turns answers
    ∙ ap (forgetting added_forgotten) e

-- without a word of STAR1 that has BERR none is read by an error check
pub unread_without_berr : UnreadWithoutBerr
unfolding until_with ours_with our.check_and_clear_error_flags
unread_without_berr c l turns answers ok =
    (calls turns
    (function_alike c.chip (λ e. e) has_no_berr (λ e. refl) _ (our.check_until c.chip) (read_then Star1 (λ w q. until_itself c.chip true w (no_berr w q) >>-alike pure_alike w)) c.address c.kind l)
    (λ _. refl)).same 0 answers ok
    ∙ sym (nothing_forgotten (ours_with turns c l answers))
