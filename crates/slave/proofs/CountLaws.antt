-- The count of a reply stops at one more than the data has, and this changes no byte and no end.
-- Assumes nothing.
use mathlib.Core.Path.{◌≡◌, refl, sym, ap, ◌∙◌}
use mathlib.Core.Bool.{Bool, true, false, cond, not, ◌&&◌}
use mathlib.Core.List.{List}
use Prim.Native.Nat.{ℕ, zero, suc, pred, ◌-◌, ◌≤◌, ◌<◌}
use native.Mathlib.Nat.{min-eq_left, min-eq_right}
use native.Mathlib.Omega.{arith}
use borrow.Author.Tests.{le-leb, lt-leb, leb-true, leb-false, lt-ltb}
use lib.Dec.{leb, ltb}
use lib.ListN.{length, get_or, get_or-eq_default}
use Rattle.registers.specs.declared.chip.Chip.{Chip}
use Rattle.registers.specs.Bits.{TXE}
use Rattle.registers.specs.Word.{has_bit}
use Rattle.slave.specs.Rust.{Done, LeftoverBytes, send_status, taken_off}
use Rattle.slave.specs.Numbers.{status_number}
use Rattle.slave.specs.Machine.{leftover, sent_taken_off}

-- what the machine counts where the Rust has sent so many
abbrev pub capped : ℕ → ℕ → ℕ
capped size sent = cond (leb sent size) sent (suc size)

-- sent within the data, or beyond it
by_size : (size sent : ℕ) (P : ℕ → Type 0) → (sent ≤ size → P sent) → (size < sent → P (suc size)) → P (capped size sent)
by_size size sent P inside beyond = go (leb sent size) refl
  where
    go : (b : Bool) → leb sent size ≡ b → P (cond b sent (suc size))
    go true e = inside (leb-true sent size e)
    go false e = beyond (leb-false sent size e)

pub capped_zero : (size : ℕ) → capped size 0 ≡ 0
capped_zero size = rw (le-leb 0 size (omega arith))

-- the next count
pub capped_next : (size sent : ℕ) → cond (leb (capped size sent) size) (suc (capped size sent)) (capped size sent) ≡ capped size (suc sent)
capped_next size sent = by_size size sent (λ (x : ℕ). cond (leb x size) (suc x) x ≡ capped size (suc sent)) inside beyond
  where
    inside : sent ≤ size → cond (leb sent size) (suc sent) sent ≡ capped size (suc sent)
    inside h = rw (le-leb sent size h) (go (leb (suc sent) size) refl)
      where
        go : (b : Bool) → leb (suc sent) size ≡ b → suc sent ≡ cond b (suc sent) (suc size)
        go true e = refl
        go false e = omega (arith, leb-false (suc sent) size e)

    beyond : size < sent → cond (leb (suc size) size) (suc (suc size)) (suc size) ≡ capped size (suc sent)
    beyond h = rw (lt-leb (suc size) size (omega arith), lt-leb (suc sent) size (omega arith))

-- the byte that is sent
pub capped_byte : (bytes : List ℕ) (sent : ℕ) → get_or bytes (capped (length bytes) sent) 0 ≡ get_or bytes sent 0
capped_byte bytes sent = by_size (length bytes) sent (λ (x : ℕ). get_or bytes x 0 ≡ get_or bytes sent 0) (λ _. refl) beyond
  where
    beyond : length bytes < sent → get_or bytes (suc (length bytes)) 0 ≡ get_or bytes sent 0
    beyond h = get_or-eq_default bytes 0 {n = suc (length bytes)} (omega arith) ∙ sym (get_or-eq_default bytes 0 {n = sent} (omega arith))

-- the Rust's status
status_left : (size sent : ℕ) → status_number (send_status size sent) ≡ leftover size sent
status_left size sent = go (leb sent size) refl
  where
    go : (b : Bool) → leb sent size ≡ b → status_number (send_status size sent) ≡ size - sent
    go true e = rw (min-eq_left {n = sent} {m = size} (leb-true sent size e)) (inner (leb size sent) refl)
      where
        inner : (b : Bool) → leb size sent ≡ b → status_number (cond b Done (LeftoverBytes (size - sent))) ≡ size - sent
        inner true q = omega (arith, leb-true size sent q)
        inner false q = refl
    go false e =
        let h : size < sent = leb-false sent size e in
        rw (min-eq_right {n = size} {m = sent} (omega arith), le-leb size size (omega arith)) (omega arith)

-- the end, where nothing is taken off
pub capped_left : (size sent : ℕ) → leftover size (capped size sent) ≡ status_number (send_status size sent)
capped_left size sent = by_size size sent (λ (x : ℕ). leftover size x ≡ status_number (send_status size sent)) (λ _. sym (status_left size sent)) (λ h. omega (arith, status_left size sent))

-- the end, by the status word
pub capped_taken : (chip : Chip) (size a sent : ℕ) → leftover size (sent_taken_off a (capped size sent)) ≡ status_number (send_status size (taken_off chip a sent))
capped_taken chip size a sent = go (has_bit TXE a)
  where
    off : (n : ℕ) → cond (ltb 0 n) (pred n) n ≡ pred n
    off zero = refl
    off (suc n) = rw (lt-ltb 0 (suc n) (omega arith))

    taken : leftover size (pred (capped size sent)) ≡ leftover size (pred sent)
    taken = by_size size sent (λ (x : ℕ). leftover size (pred x) ≡ leftover size (pred sent)) (λ _. refl) (beyond sent)
      where
        beyond : (sent : ℕ) → size < sent → size - size ≡ size - pred sent
        beyond zero h = absurd (omega arith)
        beyond (suc s) h = omega arith

    go : (b : Bool) → leftover size (cond b (capped size sent) (pred (capped size sent))) ≡ status_number (send_status size (cond (not b && ltb 0 sent) (pred sent) sent))
    go true = capped_left size sent
    go false = taken ∙ sym (status_left size (pred sent)) ∙ ap (λ (x : ℕ). status_number (send_status size x)) (sym (off sent))
