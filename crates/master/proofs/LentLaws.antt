-- The runs of a lent list, joined from its operations and the written bytes, and the Rust's verdict on it.
-- Assumes nothing.
use mathlib.Core.Path.{◌≡◌, refl, sym, ap, ◌∙◌}
use mathlib.Core.Bool.{Bool, true, false, cond, ◌&&◌, true≢false}
use mathlib.Core.List.{List, [], ◌∷◌, ◌++◌, map, append_assoc}
use mathlib.Core.Option.{Option, none, some}
use Prim.Native.Nat.{ℕ, zero, suc, ◌+◌, ◌≤◌, ◌<◌, ◌^◌}
use native.Mathlib.Omega.{arith}
use borrow.Author.Tests.{lt-ltb, le-ltb}
use lib.Dec.{eqb, ltb}
use lib.ListN.{length, take, drop, length-drop, length-append, take-append-drop}
use lib.Seq.{length-take-le}
use Rattle.registers.specs.declared.chip.Chip.{Chip}
use Rattle.access.specs.declared.ending.Error.{Error}
use Rattle.access.specs.declared.ending.Error.TheVariants.{Overrun, BufferTooLong, InvalidArgument}
use Rattle.access.specs.declared.ending.Failure.{Failure}
use Rattle.access.specs.Endings.{failure_of}
use Rattle.access.specs.Program.{Program}
use Rattle.operations.specs.declared.operation.Direction.{Direction}
use Rattle.operations.specs.declared.operation.Direction.TheVariants as direction
use Rattle.operations.specs.declared.operation.Operation.{Operation}
use Rattle.operations.specs.Operations.{is_read, word_of, direction_of, operation_of, empty_read, operations_of, shaped}
use Rattle.operations.specs.Runs.{Span, span, same, runs_from, runs_of, written_in, read_in, written_sum, read_sum}
use Rattle.operations.specs.Search.{fault_from}
use Rattle.operations.proofs.SumLaws.{each_span}
use Rattle.master.specs.Rust as rust
use Rattle.master.specs.Joined.{Joined, JW, JR, join_written, join_read, joined}
use Rattle.master.specs.Calls.{cut}

-- ---- joined runs

abbrev pub span_j : Joined → Span
span_j (JW bytes) = span direction.Write (length bytes)
span_j (JR n) = span direction.Read n

abbrev pub bytes_in : Joined → List ℕ
bytes_in (JW bytes) = bytes
bytes_in (JR n) = []

-- the bytes of all runs
abbrev pub bytes_j : List Joined → List ℕ
bytes_j [] = []
bytes_j (j ∷ js) = bytes_in j ++ bytes_j js

-- no read run is empty
abbrev pub FilledIn : Joined → Type 0
FilledIn (JW bytes) = Unit {0}
FilledIn (JR n) = 0 < n

abbrev pub FilledJ : List Joined → Type 0
FilledJ [] = Unit {0}
FilledJ (j ∷ js) = FilledIn j × FilledJ js

-- no read is empty
abbrev pub Filled : List Operation → Type 0
Filled [] = Unit {0}
Filled (o ∷ os) = (empty_read o ≡ false) × Filled os

-- what follows a run that is not ended yet
join_on : Joined → List rust.Operation → List Joined
join_on (JW bytes) os = join_written bytes os
join_on (JR n) os = join_read n os

-- ---- the runs of cut operations are the list's runs, with all its bytes

module _ (os : List Operation) (w : List ℕ) where
  abbrev Spans : Joined → Type 0
  Spans j = map span_j (join_on j (cut os w)) ≡ runs_from (span_j j).direction (span_j j).length os

  abbrev Bytes : Joined → Type 0
  Bytes j = bytes_j (join_on j (cut os w)) ≡ bytes_in j ++ w

taken_length : (n : ℕ) (w : List ℕ) (m : ℕ) → n + m ≤ length w → length (take n w) ≡ n
taken_length n w m h = length-take-le n w (omega arith)

left_length : (n : ℕ) (w : List ℕ) (m : ℕ) → n + m ≤ length w → m ≤ length (drop n w)
left_length n w m h = omega (arith, length-drop n w)

joined_spans : (os : List Operation) (w : List ℕ) (j : Joined) → written_sum (each_span os) ≤ length w → Spans os w j
unfolding join_on join_written runs_from
joined_spans [] w (JW bytes) h = refl
joined_spans [] w (JR n) h = refl
joined_spans (o ∷ os) w j h = go j o.direction h (joined_spans os)
  where
    n : ℕ
    n = o.length

    go : (j : Joined) (e : Direction) → written_in (span e n) + written_sum (each_span os) ≤ length w
        → ((w : List ℕ) (j : Joined) → written_sum (each_span os) ≤ length w → Spans os w j)
        → map span_j (join_on j (cond (is_read e) (rust.Read n ∷ cut os w) (rust.Write (take n w) ∷ cut os (drop n w))))
        ≡ cond (same (span_j j).direction e) (runs_from (span_j j).direction ((span_j j).length + n) os) (span (span_j j).direction (span_j j).length ∷ runs_from e n os)
    go (JW bs) direction.Write h rest =
        rest (drop n w) (JW (bs ++ take n w)) (left_length n w _ h)
        ∙ ap (λ (x : ℕ). runs_from direction.Write x os) (length-append bs (take n w) ∙ ap (λ (x : ℕ). length bs + x) (taken_length n w _ h))
    go (JW bs) direction.Read h rest = ap (λ (l : List Span). span direction.Write (length bs) ∷ l) (rest w (JR n) (omega arith))
    go (JR m) direction.Write h rest =
        ap (λ (l : List Span). span direction.Read m ∷ l) (rest (drop n w) (JW (take n w)) (left_length n w _ h) ∙ ap (λ (x : ℕ). runs_from direction.Write x os) (taken_length n w _ h))
    go (JR m) direction.Read h rest = rest w (JR (m + n)) (omega arith)

joined_bytes : (os : List Operation) (w : List ℕ) (j : Joined) → written_sum (each_span os) ≡ length w → Bytes os w j
unfolding join_on join_written
joined_bytes [] [] (JW bytes) h = refl
joined_bytes [] [] (JR n) h = refl
joined_bytes [] (x ∷ w) j h = absurd (omega arith)
joined_bytes (o ∷ os) w j h = go j o.direction h (joined_bytes os)
  where
    n : ℕ
    n = o.length

    go : (j : Joined) (e : Direction) → written_in (span e n) + written_sum (each_span os) ≡ length w
        → ((w : List ℕ) (j : Joined) → written_sum (each_span os) ≡ length w → Bytes os w j)
        → bytes_j (join_on j (cond (is_read e) (rust.Read n ∷ cut os w) (rust.Write (take n w) ∷ cut os (drop n w)))) ≡ bytes_in j ++ w
    go (JW bs) direction.Write h rest =
        rest (drop n w) (JW (bs ++ take n w)) (omega (arith, length-drop n w)) ∙ append_assoc bs (take n w) (drop n w) ∙ ap (λ (l : List ℕ). bs ++ l) (take-append-drop n w)
    go (JW bs) direction.Read h rest = ap (λ (l : List ℕ). bs ++ l) (rest w (JR n) (omega arith))
    go (JR m) direction.Write h rest = rest (drop n w) (JW (take n w)) (omega (arith, length-drop n w)) ∙ take-append-drop n w
    go (JR m) direction.Read h rest = rest w (JR (m + n)) (omega arith)

-- an operation that is no empty read has bytes to read
read_filled : (n : ℕ) → empty_read (record { direction = direction.Read; length = n }) ≡ false → 0 < n
read_filled zero e = absurd (true≢false e)
read_filled (suc n) e = omega arith

joined_filled : (os : List Operation) (w : List ℕ) (j : Joined) → FilledIn j → Filled os → FilledJ (join_on j (cut os w))
unfolding join_on join_written
joined_filled [] w (JW bytes) f g = (f, tt)
joined_filled [] w (JR n) f g = (f, tt)
joined_filled (o ∷ os) w j f g = go j o.direction f g.0 (λ w j f. joined_filled os w j f g.1)
  where
    n : ℕ
    n = o.length

    go : (j : Joined) (e : Direction) → FilledIn j → empty_read (record { direction = e; length = n }) ≡ false → ((w : List ℕ) (j : Joined) → FilledIn j → FilledJ (join_on j (cut os w)))
        → FilledJ (join_on j (cond (is_read e) (rust.Read n ∷ cut os w) (rust.Write (take n w) ∷ cut os (drop n w))))
    go (JW bs) direction.Write f q rest = rest (drop n w) (JW (bs ++ take n w)) tt
    go (JW bs) direction.Read f q rest = (tt, rest w (JR n) (read_filled n q))
    go (JR m) direction.Write f q rest = (f, rest (drop n w) (JW (take n w)) tt)
    go (JR m) direction.Read f q rest = rest w (JR (m + n)) (omega (arith, f))

-- ---- the same from the first operation on

abbrev first_joined : Direction → ℕ → List Operation → List ℕ → List Joined
first_joined e n os w = joined (cond (is_read e) (rust.Read n ∷ cut os w) (rust.Write (take n w) ∷ cut os (drop n w)))

pub list_spans : (os : List Operation) (w : List ℕ) → written_sum (each_span os) ≤ length w → map span_j (joined (cut os w)) ≡ runs_of os
unfolding joined runs_of join_on
list_spans [] w h = refl
list_spans (o ∷ os) w h = go o.direction h
  where
    n : ℕ
    n = o.length

    go : (e : Direction) → written_in (span e n) + written_sum (each_span os) ≤ length w → map span_j (first_joined e n os w) ≡ runs_from e n os
    go direction.Write h = joined_spans os (drop n w) (JW (take n w)) (left_length n w _ h) ∙ ap (λ (x : ℕ). runs_from direction.Write x os) (taken_length n w _ h)
    go direction.Read h = joined_spans os w (JR n) (omega arith)

pub list_bytes : (os : List Operation) (w : List ℕ) → written_sum (each_span os) ≡ length w → bytes_j (joined (cut os w)) ≡ w
unfolding joined join_on
list_bytes [] [] h = refl
list_bytes [] (x ∷ w) h = absurd (omega arith)
list_bytes (o ∷ os) w h = go o.direction h
  where
    n : ℕ
    n = o.length

    go : (e : Direction) → written_in (span e n) + written_sum (each_span os) ≡ length w → bytes_j (first_joined e n os w) ≡ w
    go direction.Write h = joined_bytes os (drop n w) (JW (take n w)) (omega (arith, length-drop n w)) ∙ take-append-drop n w
    go direction.Read h = joined_bytes os w (JR n) (omega arith)

pub list_filled : (os : List Operation) (w : List ℕ) → Filled os → FilledJ (joined (cut os w))
unfolding joined join_on
list_filled [] w g = tt
list_filled (o ∷ os) w g = go o.direction g.0
  where
    n : ℕ
    n = o.length

    go : (e : Direction) → empty_read (record { direction = e; length = n }) ≡ false → FilledJ (first_joined e n os w)
    go direction.Write q = joined_filled os (drop n w) (JW (take n w)) tt g.1
    go direction.Read q = joined_filled os w (JR n) (read_filled n q) g.1

-- ---- the Rust's verdict on a list in form is the first fault

abbrev pub verdict : Option Error → (Failure → Program) → (Unit {0} → Program) → Program
verdict none h k = k tt
verdict (some e) h k = h (failure_of e)

module _ (chip : Chip) (n : ℕ) (h : Failure → Program) (k : Unit {0} → Program) where
  pub validate_operations_agrees : (l w : List ℕ) (t : ℕ) → shaped l ≡ true → written_sum (each_span (operations_of l)) ≤ length w
      → t + (written_sum (each_span (operations_of l)) + read_sum (each_span (operations_of l))) ≤ 65535
      → rust.validate_from chip t (cut (operations_of l) w) false n h k ≡ verdict (fault_from t l) h k
  unfolding shaped operations_of fault_from rust.validate_from rust.checked_add
  validate_operations_agrees [] w t s lw lt = refl
  validate_operations_agrees (d ∷ []) w t s lw lt = absurd (true≢false (sym s))
  validate_operations_agrees (d ∷ a ∷ []) w t s lw lt = absurd (true≢false (sym s))
  validate_operations_agrees (d ∷ a ∷ b ∷ l) w t s lw lt = go (ltb 1 d) (direction_of d) s lw lt (validate_operations_agrees l)
    where
      m : ℕ
      m = word_of a b

      rest : Option Error
      rest = fault_from (t + m) l

      go : (large : Bool) (e : Direction) → cond large false (shaped l) ≡ true
          → written_in (span e m) + written_sum (each_span (operations_of l)) ≤ length w
          → t + (written_in (span e m) + written_sum (each_span (operations_of l)) + (read_in (span e m) + read_sum (each_span (operations_of l)))) ≤ 65535
          → ((w : List ℕ) (t : ℕ) → shaped l ≡ true → written_sum (each_span (operations_of l)) ≤ length w
          → t + (written_sum (each_span (operations_of l)) + read_sum (each_span (operations_of l))) ≤ 65535
          → rust.validate_from chip t (cut (operations_of l) w) false n h k ≡ verdict (fault_from t l) h k)
          → rust.validate_from chip t (cond (is_read e) (rust.Read m ∷ cut (operations_of l) w) (rust.Write (take m w) ∷ cut (operations_of l) (drop m w))) false n h k
          ≡ verdict (cond large (some InvalidArgument) (cond (is_read e && eqb m 0) (some Overrun) (cond (ltb 65535 (t + m)) (some BufferTooLong) rest))) h k
      go true e s lw lt onward = absurd (true≢false (sym s))
      go false direction.Write s lw lt onward =
          rw (taken_length m w (written_sum (each_span (operations_of l))) lw, lt-ltb (t + m) (2 ^ 32) (omega arith), le-ltb 65535 (t + m) (omega arith))
          (onward (drop m w) (t + m) s (left_length m w _ lw) (omega arith))
      go false direction.Read s lw lt onward = by_size (eqb m 0)
        where
          by_size : (empty : Bool) → cond empty (h (failure_of Overrun)) (cond (ltb (t + m) (2 ^ 32)) (rust.validate_from chip (t + m) (cut (operations_of l) w) false n h k) (h (failure_of BufferTooLong)))
              ≡ verdict (cond empty (some Overrun) (cond (ltb 65535 (t + m)) (some BufferTooLong) rest)) h k
          by_size true = refl
          by_size false =
              rw (lt-ltb (t + m) (2 ^ 32) (omega arith), le-ltb 65535 (t + m) (omega arith)) (onward w (t + m) s (omega arith) (omega arith))

-- a list without a fault has no empty read
pub fault_free_filled : (l : List ℕ) (t : ℕ) → fault_from t l ≡ none → Filled (operations_of l)
unfolding fault_from operations_of
fault_free_filled [] t e = tt
fault_free_filled (d ∷ []) t e = tt
fault_free_filled (d ∷ a ∷ []) t e = tt
fault_free_filled (d ∷ a ∷ b ∷ l) t e = go (ltb 1 d) (empty_read (operation_of d a b)) (ltb 65535 (t + word_of a b)) refl e (fault_free_filled l (t + word_of a b))
  where
    go : (large empty long : Bool) → empty_read (operation_of d a b) ≡ empty
        → cond large (some InvalidArgument) (cond empty (some Overrun) (cond long (some BufferTooLong) (fault_from (t + word_of a b) l))) ≡ none
        → (fault_from (t + word_of a b) l ≡ none → Filled (operations_of l)) → (empty_read (operation_of d a b) ≡ false) × Filled (operations_of l)
    go true y z q e rest = let z : ◌≡◌ {A = ℕ} 0 1 = cc in absurd (omega arith)
    go false true z q e rest = let z : ◌≡◌ {A = ℕ} 0 1 = cc in absurd (omega arith)
    go false false true q e rest = let z : ◌≡◌ {A = ℕ} 0 1 = cc in absurd (omega arith)
    go false false false q e rest = (q, rest e)
