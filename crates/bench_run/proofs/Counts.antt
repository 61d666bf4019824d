-- Counts of a record: its writes, and the bytes that arrive. A program with few writes has few accesses.
-- Assumes nothing.
use mathlib.Core.Path.{◌≡◌, refl, sym}
use mathlib.Core.Bool.{Bool, true, false, true≢false}
use mathlib.Core.List.{List, [], ◌∷◌}
use mathlib.Core.Option.{Option, none, some}
use Prim.Native.Nat.{ℕ, suc, ◌+◌, ◌-◌, ◌*◌, ◌≤◌, ◌<◌}
use native.Mathlib.Omega.{arith}
use lib.ListN.{length}
use Rattle.access.specs.Program.{Access, read, write, send, clock, Program, finish, access, keep, cut}
use Rattle.access.specs.Record.{Event, shown_of}
use Rattle.ch32_i2c.specs.Fed.{next_of}
use Rattle.bench_run.specs.Play.{arriving}
use Rattle.bench_run.specs.Laid.{takes_answer, next_answer, handed, laid}
use Rattle.bench_run.specs.Layer1.{used_in}

-- ---- counts of a record

-- writes, whether made or owed
abbrev pub write_at : Access → ℕ
write_at (read r) = 0
write_at (write r v) = 1
write_at (send b) = 1
write_at clock = 0

abbrev pub writes_in : List Event → ℕ
writes_in [] = 0
writes_in (e ∷ es) = write_at e.what + writes_in es

-- answered reads of DATAR
abbrev pub arriving_at : Access → Option ℕ → ℕ
arriving_at x none = 0
arriving_at x (some a) = arriving (next_of x)

abbrev pub arriving_in : List Event → ℕ
arriving_in [] = 0
arriving_in (e ∷ es) = arriving_at e.what e.answer + arriving_in es

-- a program makes at most w writes and two for each answer, after fewer than n answers
pub record Few (w n at : ℕ) (p : Program) : Type 0 where
  pub writes : (xs : List ℕ) → length xs < n → writes_in (shown_of at p xs).events ≤ w + 2 * used_in (shown_of at p xs).events

pub few_keep : {w n at b : ℕ} {p : Program} → Few w n at (keep b p) → Few w n (suc at) p
few_keep f = record { writes = f.writes }

-- an answer pays for two writes
pub few_answered : {w m n at : ℕ} (x : Access) {k : ℕ → Program} → takes_answer x ≡ true → Few w n at (access x k) → m < n → (a : ℕ) → Few (w + 2) m at (k a)
few_answered (read r) t f g a = record { writes = λ xs l. omega (arith, f.writes (a ∷ xs) (omega arith)) }
few_answered (write r v) t f g a = absurd (true≢false (sym t))
few_answered (send b) t f g a = absurd (true≢false (sym t))
few_answered clock t f g a = record { writes = λ xs l. omega (arith, f.writes (a ∷ xs) (omega arith)) }

pub some_left : {w n at : ℕ} (x : Access) {k : ℕ → Program} → takes_answer x ≡ false → Few w n at (access x k) → 0 < n → 0 < w
some_left (read r) t f g = absurd (true≢false t)
some_left (write r v) t f g = omega (arith, f.writes [] g)
some_left (send b) t f g = omega (arith, f.writes [] g)
some_left clock t f g = absurd (true≢false t)

pub few_written : {w v m n at : ℕ} (x : Access) {k : ℕ → Program} → takes_answer x ≡ false → Few w n at (access x k) → m < n → w ≡ suc v → (a : ℕ) → Few v m at (k a)
few_written (read r) t f g e a = absurd (true≢false t)
few_written (write r v) t f g e a = record { writes = λ xs l. omega (arith, f.writes (a ∷ xs) (omega arith)) }
few_written (send b) t f g e a = record { writes = λ xs l. omega (arith, f.writes (a ∷ xs) (omega arith)) }
few_written clock t f g e a = absurd (true≢false t)

-- ---- the accesses that are made

abbrev Short : Program → Type 0
Short p = (w n at : ℕ) (left : List ℕ) → Few w n at p → w + 3 * length left < n → length (laid p left) ≤ w + 3 * length left

access_short : (x : Access) (k : ℕ → Program) → ((a : ℕ) → Short (k a)) → Short (access x k)
access_short x k again w n at left f l = go (takes_answer x) refl left l
  where
    go : (t : Bool) → takes_answer x ≡ t → (left : List ℕ) → w + 3 * length left < n → length (handed t left (λ a left. a ∷ laid (k a) left)) ≤ w + 3 * length left
    go true t [] l = omega arith
    go true t (a ∷ left) l = omega (arith, again a (w + 2) (n - 1) at left (few_answered x t f (omega arith) a) (omega arith))
    go false t left l =
        let v = some_left x t f (omega arith) in
        omega (arith, again (next_answer left) (w - 1) (n - 1) at left (few_written x t f (omega arith) (omega arith) (next_answer left)) (omega arith))

-- at most w, and three for each answer
pub laid_short : (p : Program) → Short p
laid_short (finish e) w n at left f l = omega arith
laid_short (access x k) w n at left f l = access_short x k (λ a. laid_short (k a)) w n at left f l
laid_short (keep b p) w n at left f l = laid_short p w n (suc at) left (few_keep f) l
laid_short cut w n at left f l = omega arith

abbrev Counted : Program → Type 0
Counted p = (at : ℕ) (left : List ℕ)
    → (length (laid p left) ≡ writes_in (shown_of at p (laid p left)).events + used_in (shown_of at p (laid p left)).events) × (used_in (shown_of at p (laid p left)).events ≤ length left)

access_counted : (x : Access) (k : ℕ → Program) → ((a : ℕ) → Counted (k a)) → Counted (access x k)
access_counted (read r) k again at [] = (refl, omega arith)
access_counted (read r) k again at (a ∷ left) = let h = again a at left in (omega (arith, h.0), omega (arith, h.1))
access_counted (write r v) k again at left = let h = again (next_answer left) at left in (omega (arith, h.0), omega (arith, h.1))
access_counted (send b) k again at left = let h = again (next_answer left) at left in (omega (arith, h.0), omega (arith, h.1))
access_counted clock k again at [] = (refl, omega arith)
access_counted clock k again at (a ∷ left) = let h = again a at left in (omega (arith, h.0), omega (arith, h.1))

-- they are the writes and the answered ones, which are no more than the answers
pub laid_counted : (p : Program) → Counted p
laid_counted (finish e) at left = (refl, omega arith)
laid_counted (access x k) at left = access_counted x k (λ a. laid_counted (k a)) at left
laid_counted (keep b p) at left = laid_counted p (suc at) left
laid_counted cut at left = (refl, omega arith)
