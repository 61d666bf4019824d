-- What is claimed of the slave: it is ours, ours is the Rust, and a recorder who strikes out the payload learns nothing of it.
use Rattle.access.specs.Endings.{Ending}
use Rattle.std.specs.Prelude.{◌≡◌, true, false, List, [], ℕ, ◌<◌, length, take}
use Rattle.std.proofs.Math.Option.{some}
use Rattle.registers.specs.declared.chip.Chip.{Chip}
use Rattle.access.specs.declared.ending.Failure.{Failure}
use Rattle.access.specs.declared.ending.Error.TheVariants.{ReservedAddress}
use Rattle.access.specs.Program.{Program, Blocking}
use Rattle.access.specs.Machine.{shown_from}
use Rattle.access.specs.Record.{DifferInPayload, Same, SameStruck}
use Rattle.alike.specs.Like.{forgetting, all_allowed}
use Rattle.errors.specs.Check.{has_no_berr}
use Rattle.errors.specs.AsTheRust.{end_as_the_rusts, added_forgotten}
use Rattle.slave.specs.declared.config.SlaveConfig.{SlaveConfig}
use Rattle.slave.specs.declared.state.Kind.{Kind}
use Rattle.slave.specs.declared.state.Kind.TheVariants.{RespondToWrite, RespondToRead}
use Rattle.slave.specs.declared.state.Setting.{Setting}
use Rattle.slave.specs.declared.state.Move.{Move}
use Rattle.slave.specs.Rust as rust
use Rattle.slave.specs.Ours as ours
use Rattle.slave.specs.Reserved.{config_reserved}
use Rattle.slave.specs.Init.{config_fault, init_refusal, init_machine, started}
use Rattle.slave.specs.Machine.{advance, start}
use Rattle.slave.specs.Fits.{fits}
use Rattle.slave.specs.Calls.{SlaveLent, Accepted, init_shown, rust_init, slave_shown, rust_slave, ours_slave, until_slave}

-- every call without an added cause of refusal shows the record, end and arrived bytes of our text, after every list of answers
pub record SlaveIsOurs : Type 0 where
  -- `init_slave` has no part of ours beside the added cause: without it, and where 9 comes first, it shows the Rust's record and end
  pub init : (c : SlaveConfig) → config_reserved c ≡ false → (turns : ℕ) (answers : List ℕ) → length answers < turns → init_shown c answers ≡ rust_init turns c answers
  pub init_refused : (c : SlaveConfig) → config_fault c ≡ true → (turns : ℕ) (answers : List ℕ) → length answers < turns → init_shown c answers ≡ rust_init turns c answers
  -- where 17 is given the Rust goes on: it makes every access
  pub init_departs : (c : SlaveConfig) → init_refusal c ≡ some ReservedAddress → (turns : ℕ) (answers : List ℕ) → length answers < turns
      → rust_init turns c answers ≡ shown_from init_machine [] (started c) answers
  pub same : (chip : Chip) (x : Kind) (l : SlaveLent) → Accepted x l → (turns : ℕ) (answers : List ℕ) → length answers < turns
      → slave_shown chip x l answers ≡ ours_slave turns chip x l answers

-- a reply with its second count forgotten IS the Rust's, whatever the error check and what follows
abbrev pub CountsAsTheRust : Type 0
CountsAsTheRust = (chip : Chip) (check : ℕ → Blocking (Unit {0})) (bytes : List ℕ) (turns : ℕ) (h : Failure → Program) (k : rust.SendStatus → Program)
    → rust.blocking_respond_to_read chip check ours.Counts (ours.counts chip) bytes turns h (λ c. k c.status)
    ≡ rust.blocking_respond_to_read chip check rust.SendStatus (λ star1. rust.send_status) bytes turns h k

-- the Rust's record and arrived bytes are those of our text, and its end is our end, read as the Rust's
abbrev pub OursIsTheRust : Type 0
OursIsTheRust = (chip : Chip) (x : Kind) (l : SlaveLent) (turns : ℕ) (answers : List ℕ) → rust_slave turns chip x l answers ≡ forgetting (end_as_the_rusts chip false) (ours_slave turns chip x l answers)

-- where no word that an error check reads has BERR, nothing changes: our text goes as far if it stops at such a word, and then it is the Rust's
-- but for what is added to an end
abbrev pub SameWithoutBerr : Type 0
SameWithoutBerr = (chip : Chip) (x : Kind) (l : SlaveLent) (turns : ℕ) (answers : List ℕ) → until_slave turns chip x l answers ≡ ours_slave turns chip x l answers
    → rust_slave turns chip x l answers ≡ forgetting added_forgotten (ours_slave turns chip x l answers)

-- so where no answer to a read of STAR1 has BERR
abbrev pub UnreadWithoutBerr : Type 0
UnreadWithoutBerr = (chip : Chip) (x : Kind) (l : SlaveLent) (turns : ℕ) (answers : List ℕ) → all_allowed has_no_berr (ours_slave turns chip x l answers).events ≡ true → until_slave turns chip x l answers ≡ ours_slave turns chip x l answers

-- any two ends
abbrev pub Any : Ending → Ending → Type 0
Any e f = Unit {0}

-- secrecy, after begin and after each step
pub record SlaveIsSecret : Type 0 where
  -- two receives of one chip and buffer length, answers that differ only where the first owes a payload read
  pub received : (chip : Chip) (l₁ l₂ : SlaveLent) → Accepted RespondToWrite l₁ → l₁.room ≡ l₂.room → (xs ys : List ℕ)
      → DifferInPayload (slave_shown chip RespondToWrite l₁ xs).events xs ys
      → (i : ℕ) → SameStruck Same (slave_shown chip RespondToWrite l₁ (take i xs)) (slave_shown chip RespondToWrite l₂ (take i ys))
  -- the payloads agree too
  pub determined : (chip : Chip) (l₁ l₂ : SlaveLent) → l₁.room ≡ l₂.room → (answers : List ℕ) → slave_shown chip RespondToWrite l₁ answers ≡ slave_shown chip RespondToWrite l₂ answers
  -- two replies at one chip, whatever their bytes and lengths, and the same answers
  pub replied : (chip : Chip) (l₁ l₂ : SlaveLent) → Accepted RespondToRead l₁ → Accepted RespondToRead l₂ → (answers : List ℕ)
      → (i : ℕ) → SameStruck Any (slave_shown chip RespondToRead l₁ (take i answers)) (slave_shown chip RespondToRead l₂ (take i answers))
  -- of one length: the ends too
  pub replied_alike : (chip : Chip) (l₁ l₂ : SlaveLent) → Accepted RespondToRead l₁ → length l₁.reply ≡ length l₂.reply → (answers : List ℕ)
      → (i : ℕ) → SameStruck Same (slave_shown chip RespondToRead l₁ (take i answers)) (slave_shown chip RespondToRead l₂ (take i answers))

-- an accepted call begins with a state that fits what is lent, and every step keeps it so
pub record StatesFit : Type 0 where
  pub begins : (g : Setting) → fits g (start g.kind) ≡ true
  pub kept : (g : Setting) (m : Move) (a : ℕ) → fits g m ≡ true → fits g (advance g m a) ≡ true
