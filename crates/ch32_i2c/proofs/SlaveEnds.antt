-- How slave calls end, by layer 1's programs. Two replies at one chip with the same answers send equally many bytes, by both counts, and fail
-- alike; a listen is done with a command whose address is in its bits.
-- Assumes nothing.
use mathlib.Core.Path.{◌≡◌, refl, ap, sym, subst, ◌∙◌}
use mathlib.Core.Bool.{Bool, true, false, cond, not, ◌&&◌}
use mathlib.Core.List.{List}
use mathlib.Core.Option.{Option, some}
use Prim.Native.Nat.{ℕ, suc, pred, ◌<◌, ◌+◌, ◌-◌, ◌*◌, ◌/◌, ◌%◌, min}
use native.Mathlib.Omega.{arith}
use lib.Dec.{eqb, leb, ltb}
use lib.ListN.{length}
use borrow.Author.Tests.{ne_eqb, leb-false}
use Rattle.std.specs.Prelude.{Some, None, Err}
use Rattle.std.specs.Prelude as prelude
use Rattle.registers.specs.declared.chip.Chip.{Chip}
use Rattle.registers.specs.Bits.{ADDMODE, ADD0, ADDR, STOPF, TXE, AF, MSL, BUSY, GENCALL, DUALF}
use Rattle.registers.specs.Fields.{ADD7_1, ADD9_8, ADD2}
use Rattle.registers.specs.Word.{has_bit, field_of}
use Rattle.registers.proofs.WordLaws.{field_bound}
use Rattle.registers.specs.Flags.{error_flags}
use Rattle.access.specs.declared.ending.Failure.{Failure}
use Rattle.access.specs.declared.ending.Error.TheVariants.{Timeout}
use Rattle.access.specs.declared.next.Next.TheVariants as next
use Rattle.access.specs.Endings.{Ending, failure_of, returned, returned_both}
use Rattle.access.specs.Numbers.{next_number}
use Rattle.access.specs.Program.{Program, finish, check_timeout, late}
use Rattle.access.specs.Record.{EndsAlike, neither, both}
use Rattle.errors.specs.Classes.{error_of, decided}
use Rattle.errors.specs.Check.{check_errors}
use Rattle.slave.specs.declared.config.SlaveAddress.{SlaveAddress}
use Rattle.slave.specs.declared.config.SlaveAddress.TheVariants.{SevenBit, TenBit}
use Rattle.slave.specs.declared.command.SlaveCommandKind.{SlaveCommandKind}
use Rattle.slave.specs.declared.command.SlaveCommandKind.TheVariants.{GeneralCall, Read, Write}
use Rattle.slave.specs.declared.command.SlaveCommand.{SlaveCommand}
use Rattle.slave.specs.declared.state.Kind.TheVariants.{Listen, RespondToRead}
use Rattle.slave.specs.Rust as rust
use Rattle.slave.specs.Ours as ours
use Rattle.slave.proofs.FitsKept.{seven_below, kind_below}
use Rattle.slave.specs.Numbers.{kind_number, address_number, command_number, status_number}
use Rattle.slave.specs.Calls.{SlaveLent, both_left, ours_program, ours_slave}
use Rattle.ch32_i2c.specs.Demands.{IsSecond, same, one_less, RepliesEnd, both_failed, both_done, InBits, Commanded, with_command, without_command, Replied, with_status, without_status}
use Rattle.ch32_i2c.proofs.Paired.{Paired, finishes, accesses, paired_ends, either, spins, alone}

-- ---- errors and the abort

module _ (Alike : Ending → Ending → Type 0) (failures : (f : Failure) → Alike (Err f) (Err f)) (chip : Chip) (turns : ℕ) where
  abbrev Pair : Program → Program → Type 0
  Pair = Paired Alike

  abbrev fails : Failure → Program
  fails f = finish (Err f)

  aborted : (f : Failure) → Pair (rust.abort_slave_transfer turns fails (λ _. fails f)) (rust.abort_slave_transfer turns fails (λ _. fails f))
  unfolding rust.abort_slave_transfer rust.disable_slave_transfers
  aborted f =
      accesses (λ a. accesses (λ b. accesses (λ star2. either Alike (has_bit BUSY star2 && not (has_bit MSL star2)) (accesses (λ c. accesses (λ d. finishes (failures f)))) (finishes (failures f)))))

  judged : (c : prelude.Option Failure) {p q : Program} → Pair p q
      → Pair (decided c (λ f. rust.abort_slave_transfer turns fails (λ _. fails f)) p) (decided c (λ f. rust.abort_slave_transfer turns fails (λ _. fails f)) q)
  judged (Some f) r = aborted f
  judged None r = r

  checks : (star1 : ℕ) {p q : Program} → Pair p q
      → Pair (ours.check_errors_and_time chip star1 turns fails (λ _. p)) (ours.check_errors_and_time chip star1 turns fails (λ _. q))
  unfolding rust.check_errors_and_time check_errors check_timeout
  checks star1 r =
      let timed = accesses (λ a. either Alike (late a) (aborted (failure_of Timeout)) r) in
      either Alike (not (eqb (error_flags star1) 0)) (accesses (λ a. judged (error_of chip false star1) timed)) (judged (error_of chip false star1) timed)

-- ---- two replies, over the number of bytes sent

module _ (chip : Chip) (x y : List ℕ) (turns : ℕ) where
  abbrev Reply : Ending → Ending → Type 0
  Reply = RepliesEnd (length x) (length y)

  second : (star1 sent : ℕ) → IsSecond sent (ours.sent_for_second chip star1 sent)
  second star1 sent = go (has_bit AF star1) (not (has_bit TXE star1) && ltb 0 sent)
    where
      go : (a b : Bool) → IsSecond sent (cond a (cond b (pred sent) sent) sent)
      go true true = one_less
      go true false = same
      go false b = same

  left_over : (star1 sent : ℕ) → Reply (both_left (ours.counts chip star1 (length x) sent)) (both_left (ours.counts chip star1 (length y) sent))
  left_over star1 sent = both_done sent (ours.sent_for_second chip star1 sent) (second star1 sent)

  replies : Paired Reply (ours_program turns chip RespondToRead (record { reply = x; room = 0 })) (ours_program turns chip RespondToRead (record { reply = y; room = 0 }))
  unfolding rust.blocking_respond_to_read rust.clear_af rust.clear_stopf
  replies =
      spins Reply _ _
      (λ sent f g rest. accesses (λ star1. either Reply (has_bit AF star1) (accesses (λ a. accesses (λ b. finishes (left_over star1 sent))))
      (either Reply (has_bit STOPF star1) (accesses (λ a. accesses (λ b. accesses (λ c. finishes (left_over star1 (rust.taken_off chip star1 sent))))))
      (either Reply (has_bit ADDR star1) (finishes (left_over star1 (rust.taken_off chip star1 sent)))
      (either Reply (has_bit TXE star1) (accesses (λ a. rest (suc sent)))
      (checks Reply both_failed chip turns star1 (rest sent))))))) turns 0

pub reply_ends : (chip : Chip) (x y : List ℕ) (turns : ℕ) (answers : List ℕ)
    → EndsAlike (RepliesEnd (length x) (length y)) (ours_slave turns chip RespondToRead (record { reply = x; room = 0 }) answers).end (ours_slave turns chip RespondToRead (record { reply = y; room = 0 }) answers).end
unfolding ours_slave
reply_ends chip x y turns answers = paired_ends (RepliesEnd (length x) (length y)) (replies chip x y turns) 0 answers

-- one reply
replied_with : (n m : ℕ) {e f : Ending} → RepliesEnd n m e f → Replied n e
replied_with n m (both_failed f) = without_status f
replied_with n m (both_done sent second i) = with_status sent second i

-- ---- a listen

ten_bits : (w : ℕ) → rust.ten_bits w < 1024
ten_bits w = go (has_bit ADD0 w)
  where
    go : (b : Bool) → field_of ADD9_8 w * 256 + field_of ADD7_1 w * 2 + cond b 1 0 < 1024
    go true = let h : field_of ADD9_8 w < 4 = field_bound ADD9_8 w in omega (arith, seven_below w)
    go false = let h : field_of ADD9_8 w < 4 = field_bound ADD9_8 w in omega (arith, seven_below w)

module _ (chip : Chip) (turns : ℕ) where
  abbrev Listened : Ending → Ending → Type 0
  Listened e f = Commanded e

  abbrev failing : Failure → Program
  failing f = finish (Err f)

  stale : {p q : Program} → Paired Listened p q → Paired Listened (rust.clear_slave_stale_flags turns failing (λ _. p)) (rust.clear_slave_stale_flags turns failing (λ _. q))
  unfolding rust.clear_slave_stale_flags rust.clear_stopf
  stale r = accesses (λ a. accesses (λ b. accesses (λ c. accesses (λ status. either Listened (not (eqb (error_flags status) 0)) (accesses (λ d. r)) r))))

  command : (star2 : ℕ) (a : SlaveAddress) → InBits a → Commanded (returned (command_number (record { kind = rust.kind_of_command star2; address = a })))
  command star2 a h = with_command (record { kind = rust.kind_of_command star2; address = a }) h

  listens : (l : SlaveLent) → Paired Listened (ours_program turns chip Listen l) (ours_program turns chip Listen l)
  unfolding rust.blocking_listen rust.decode_slave_address
  listens l =
      stale (accesses (λ a. accesses (λ b. accesses (λ c. accesses (λ d. spins Listened _ _
      (λ s f g rest. accesses (λ star1. either Listened (has_bit ADDR star1)
      (accesses (λ star2. either Listened (has_bit GENCALL star2) (finishes (command star2 (SevenBit 0) (omega arith)))
      (either Listened (has_bit DUALF star2) (accesses (λ oaddr2. finishes (command star2 (SevenBit (field_of ADD2 oaddr2)) (field_bound ADD2 oaddr2))))
      (accesses (λ oaddr1. either Listened (has_bit ADDMODE oaddr1) (finishes (command star2 (TenBit (rust.ten_bits oaddr1)) (ten_bits oaddr1)))
      (finishes (command star2 (SevenBit (field_of ADD7_1 oaddr1)) (seven_below oaddr1))))))))
      (checks Listened without_command chip turns star1 (rest tt)))) turns tt)))))

pub listen_ends : (chip : Chip) (l : SlaveLent) (turns : ℕ) (answers : List ℕ) (e : Ending) → (ours_slave turns chip Listen l answers).end ≡ some e → Commanded e
unfolding ours_slave
listen_ends chip l turns answers e q = alone Commanded _ _ (paired_ends (λ e f. Commanded e) (listens chip turns l) 0 answers) e q

pub reply_end : (chip : Chip) (x : List ℕ) (turns : ℕ) (answers : List ℕ) (e : Ending) → (ours_slave turns chip RespondToRead (record { reply = x; room = 0 }) answers).end ≡ some e → Replied (length x) e
reply_end chip x turns answers e q = go (reply_ends chip x x turns answers) q
  where
    go : {o p : Option Ending} → EndsAlike (RepliesEnd (length x) (length x)) o p → o ≡ some e → Replied (length x) e
    go (both {e = y} h) r = let z : y ≡ e = cc in subst (Replied (length x)) z (replied_with (length x) (length x) h)
    go neither r = let z : ◌≡◌ {A = ℕ} 0 1 = cc in absurd (omega arith)

-- ---- numbers tell

address_below : (a : SlaveAddress) → InBits a → address_number a < 2048
address_below (SevenBit a) h = omega arith
address_below (TenBit a) h = omega arith

same_kind : (k l : SlaveCommandKind) → kind_number k ≡ kind_number l → k ≡ l
same_kind GeneralCall GeneralCall e = refl
same_kind GeneralCall Read e = absurd (omega arith)
same_kind GeneralCall Write e = absurd (omega arith)
same_kind Read GeneralCall e = absurd (omega arith)
same_kind Read Read e = refl
same_kind Read Write e = absurd (omega arith)
same_kind Write GeneralCall e = absurd (omega arith)
same_kind Write Read e = absurd (omega arith)
same_kind Write Write e = refl

same_address : (a b : SlaveAddress) → InBits a → InBits b → address_number a ≡ address_number b → a ≡ b
same_address (SevenBit a) (SevenBit b) h k e = ap SevenBit e
same_address (SevenBit a) (TenBit b) h k e = absurd (omega arith)
same_address (TenBit a) (SevenBit b) h k e = absurd (omega arith)
same_address (TenBit a) (TenBit b) h k e = ap TenBit (omega arith)

pub tells_command : (c d : SlaveCommand) → InBits c.address → InBits d.address → command_number c ≡ command_number d → c ≡ d
tells_command c d h k e =
    let bounds : (address_number c.address < 2048) × (address_number d.address < 2048) = (address_below c.address h, address_below d.address k) in
    let address = same_address c.address d.address h k (omega (arith, e, bounds.0, bounds.1, kind_below c.kind, kind_below d.kind)) in
    let kind = same_kind c.kind d.kind (omega (arith, e, bounds.0, bounds.1, kind_below c.kind, kind_below d.kind)) in
    λ i. record { kind = kind i; address = address i }

-- a status is known by how many bytes are left over
abbrev status_of : ℕ → rust.SendStatus
status_of n = cond (eqb n 0) rust.Done (rust.LeftoverBytes n)

status_back : (size sent : ℕ) → status_of (status_number (rust.send_status size sent)) ≡ rust.send_status size sent
status_back size sent = go (leb size (min sent size)) refl
  where
    go : (b : Bool) → leb size (min sent size) ≡ b → status_of (status_number (cond b rust.Done (rust.LeftoverBytes (size - min sent size)))) ≡ cond b rust.Done (rust.LeftoverBytes (size - min sent size))
    go true e = refl
    go false e = let n = size - min sent size in let z : eqb n 0 ≡ false = ne_eqb n 0 (λ q. omega (arith, q, leb-false size (min sent size) e)) in rw z

pub tells_status : (size₁ sent₁ size₂ sent₂ : ℕ) → status_number (rust.send_status size₁ sent₁) ≡ status_number (rust.send_status size₂ sent₂) → rust.send_status size₁ sent₁ ≡ rust.send_status size₂ sent₂
tells_status size₁ sent₁ size₂ sent₂ e = sym (status_back size₁ sent₁) ∙ ap status_of e ∙ status_back size₂ sent₂

pub tells_counts : (m x n y : ℕ) → m < 65536 → n < 65536 → next_number (next.End (returned_both m x)) ≡ next_number (next.End (returned_both n y)) → (m ≡ n) × (x ≡ y)
tells_counts m x n y h k e =
    let joined : m + x * 65536 ≡ n + y * 65536 = omega (arith, e) in
    (sym (first_of m x h) ∙ ap (λ (z : ℕ). z % 65536) joined ∙ first_of n y k, sym (second_of m x h) ∙ ap (λ (z : ℕ). z / 65536) joined ∙ second_of n y k)
  where
    first_of : (m x : ℕ) → m < 65536 → (m + x * 65536) % 65536 ≡ m
    first_of m x h = omega arith

    second_of : (m x : ℕ) → m < 65536 → (m + x * 65536) / 65536 ≡ x
    second_of m x h = omega arith
