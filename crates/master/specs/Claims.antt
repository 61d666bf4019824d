-- What is claimed of the master: it is ours, ours is the Rust, runs join, and a recorder who strikes out the payload learns nothing of it.
use Rattle.std.specs.Prelude.{◌≡◌, true, false, List, ℕ, ◌<◌, ltb, length, take}
use Rattle.registers.specs.declared.chip.Chip.{Chip}
use Rattle.access.specs.declared.ending.Failure.{Failure}
use Rattle.access.specs.Program.{Program}
use Rattle.access.specs.Record.{DifferInPayload, Same, SameStruck}
use Rattle.alike.specs.Like.{forgetting, all_allowed}
use Rattle.errors.specs.Check.{has_no_berr}
use Rattle.errors.specs.AsTheRust.{end_as_the_rusts, added_forgotten}
use Rattle.master.specs.declared.call.Call.{Call}
use Rattle.master.specs.Rust.{Operation, Parts, the_rust, transact}
use Rattle.master.specs.Ours.{ours}
use Rattle.master.specs.Joined.{joined, runs_program}
use Rattle.master.specs.declared.state.Move.{Move}
use Rattle.master.specs.Machine.{advance, start}
use Rattle.master.specs.Fits.{fits}
use Rattle.master.specs.Calls.{Lent, NoAddedCause, Accepted, spans_of, shape_of, call_shown, rust_with, ours_with, until_with}

-- a call without an added cause of refusal shows the record, end and arrived bytes of our text, after every list of answers
pub record MasterIsOurs : Type 0 where
  pub same : (c : Call) (l : Lent) → NoAddedCause c.kind l → (turns : ℕ) (answers : List ℕ) → length answers < turns → call_shown c l answers ≡ ours_with turns c l answers
  -- an accepted call is one of these
  pub covers : (c : Call) (l : Lent) → Accepted c l → NoAddedCause c.kind l

-- every call, refused ones too: the Rust's record and arrived bytes are those of our text, and its end is our end, read as the Rust's
abbrev pub OursIsTheRust : Type 0
OursIsTheRust = (c : Call) (l : Lent) (turns : ℕ) (answers : List ℕ) → rust_with turns c l answers ≡ forgetting (end_as_the_rusts c.chip true) (ours_with turns c l answers)

-- where no word that an error check reads has BERR, nothing changes: our text goes as far if it stops at such a word, and then it is the Rust's
-- but for what is added to an end
abbrev pub SameWithoutBerr : Type 0
SameWithoutBerr = (c : Call) (l : Lent) (turns : ℕ) (answers : List ℕ) → until_with turns c l answers ≡ ours_with turns c l answers
    → rust_with turns c l answers ≡ forgetting added_forgotten (ours_with turns c l answers)

-- so where no answer to a read of STAR1 has BERR
abbrev pub UnreadWithoutBerr : Type 0
UnreadWithoutBerr = (c : Call) (l : Lent) (turns : ℕ) (answers : List ℕ) → all_allowed has_no_berr (ours_with turns c l answers).events ≡ true → until_with turns c l answers ≡ ours_with turns c l answers

-- an address that passes
abbrev pub Passes : Parts → ℕ → Type 0
Passes p address = (turns : ℕ) (h : Failure → Program) (k : Unit {0} → Program) → p.validate address turns h k ≡ k tt

-- embedded-hal's joining, with any parts: a transaction at an address that passes is the program of its runs with joined bytes, however a
-- run is divided. Addresses of seven bits pass
pub record RunsJoin : Type 0 where
  pub joins : (chip : Chip) (p : Parts) (address : ℕ) → Passes p address → (turns : ℕ) (h : Failure → Program) (k : Unit {0} → Program) (operations : List Operation)
      → transact chip p.check p.validate p.start address (length operations) operations turns h k ≡ runs_program chip p address (joined operations) turns h k
  pub rust_passes : (chip : Chip) (address : ℕ) → ltb 0x7f address ≡ false → Passes (the_rust chip) address
  pub ours_passes : (chip : Chip) (address : ℕ) → ltb 0x7f address ≡ false → Passes (ours chip) address

-- two accepted calls of one kind, chip and address, whose runs agree
pub record Comparable (c : Call) (l₁ l₂ : Lent) : Type 0 where
  pub first : Accepted c l₁
  pub second : Accepted c l₂
  pub runs : spans_of c.kind l₁ ≡ spans_of c.kind l₂

-- secrecy, after begin and after each step
pub record MasterIsSecret : Type 0 where
  -- answers that differ only where the first call owes a payload read
  pub hidden : (c : Call) (l₁ l₂ : Lent) → Comparable c l₁ l₂ → (xs ys : List ℕ) → DifferInPayload (call_shown c l₁ xs).events xs ys
      → (i : ℕ) → SameStruck Same (call_shown c l₁ (take i xs)) (call_shown c l₂ (take i ys))
  -- the payloads agree too
  pub determined : (c : Call) (l₁ l₂ : Lent) → Comparable c l₁ l₂ → l₁.written ≡ l₂.written → (answers : List ℕ) → call_shown c l₁ answers ≡ call_shown c l₂ answers

-- an accepted call begins with a state that fits what is lent, and every step keeps it so
pub record StatesFit : Type 0 where
  pub begins : (c : Call) (l : Lent) → Accepted c l → fits (shape_of c l) (start (shape_of c l)) ≡ true
  pub kept : (c : Call) (l : Lent) → Accepted c l → (m : Move) (a : ℕ) → fits (shape_of c l) m ≡ true → fits (shape_of c l) (advance (shape_of c l) m a) ≡ true
