-- The list that an input says is in form, and the bytes lent with it are the list's: so its call is refused for its address, for the number of
-- its operations, or for the list's first fault, and for nothing else.
-- Assumes nothing.
use mathlib.Core.Path.{◌≡◌, refl, sym, ap, ◌∙◌, subst}
use mathlib.Core.Bool.{Bool, true, false, cond, ◌||◌, true≢false}
use mathlib.Core.List.{List, [], ◌∷◌, ◌++◌}
use mathlib.Core.Option.{Option, none, some}
use Prim.Native.Nat.{ℕ, ◌+◌, ◌/◌, ◌%◌, ◌≤◌}
use native.Mathlib.Omega.{arith}
use borrow.Author.Tests.{le-ltb, eq-eqb}
use lib.Dec.{eqb, ltb}
use lib.ListN.{length, length-append}
use Rattle.access.specs.declared.ending.Error.{Error}
use Rattle.access.specs.declared.ending.Error.TheVariants.{Overrun, BufferTooLong, InvalidAddress, TooManyOperations, LengthMismatch, InvalidArgument}
use Rattle.access.specs.Endings.{error_number}
use Rattle.access.proofs.Choice.{chosen}
use Rattle.operations.specs.declared.operation.Operation.{Operation}
use Rattle.operations.specs.Operations.{word_of, operation_of, empty_read, operations_of, shaped}
use Rattle.operations.specs.Runs.{Span, written_in, read_in, sum_of, written_sum, read_sum, runs_of}
use Rattle.operations.specs.Search.{fault_from}
use Rattle.operations.proofs.SumLaws.{span_of, each_span, written_runs_lem, read_runs, fault_free_small}
use Rattle.master.specs.Calls.{refuse, or_next, mismatch, refusal}
use Rattle.bench_text.specs.Input.{Line, bad, writes, reads, answers, operation_bytes, Said, said_with, call, input_of}
use Rattle.bench_text.proofs.SaidLaws.{Small, Holds, said_keeps}
use Rattle.bench_run.specs.Claims.{cause_of}

-- ---- one more operation

module _ (d a b : ℕ) where
  abbrev bytes : List ℕ
  bytes = d ∷ a ∷ b ∷ []

  shaped_rest : (c : Bool) (l : List ℕ) → cond c false (shaped l) ≡ true → shaped l ≡ true
  shaped_rest true l e = absurd (true≢false (sym e))
  shaped_rest false l e = e

  operations_more : (l : List ℕ) → shaped l ≡ true → operations_of (l ++ bytes) ≡ operations_of l ++ (operation_of d a b ∷ [])
  unfolding shaped operations_of
  operations_more [] e = refl
  operations_more (x ∷ []) e = absurd (true≢false (sym e))
  operations_more (x ∷ y ∷ []) e = absurd (true≢false (sym e))
  operations_more (x ∷ y ∷ z ∷ l) e = ap (λ (os : List Operation). operation_of x y z ∷ os) (operations_more l (shaped_rest (ltb 1 x) l e))

  shaped_more : ltb 1 d ≡ false → (l : List ℕ) → shaped l ≡ true → shaped (l ++ bytes) ≡ true
  unfolding shaped
  shaped_more q [] e = rw q
  shaped_more q (x ∷ []) e = absurd (true≢false (sym e))
  shaped_more q (x ∷ y ∷ []) e = absurd (true≢false (sym e))
  shaped_more q (x ∷ y ∷ z ∷ l) e = go (ltb 1 x) e (shaped_more q l)
    where
      go : (c : Bool) → cond c false (shaped l) ≡ true → (shaped l ≡ true → shaped (l ++ bytes) ≡ true) → cond c false (shaped (l ++ bytes)) ≡ true
      go true e again = e
      go false e again = again e

sum_more : (count : Span → ℕ) (os : List Operation) (o : Operation) → sum_of count (each_span (os ++ (o ∷ []))) ≡ sum_of count (each_span os) + count (span_of o)
sum_more count [] o = omega arith
sum_more count (x ∷ os) o = omega (arith, sum_more count os o)

-- whole operations with known directions: what is left of a list's faults
fault_is : (l : List ℕ) (t : ℕ) (e : Error) → shaped l ≡ true → fault_from t l ≡ some e → eqb (error_number e) 6 || eqb (error_number e) 8 ≡ true
unfolding shaped fault_from
fault_is [] t e h q = let z : ◌≡◌ {A = ℕ} 0 1 = cc in absurd (omega arith)
fault_is (d ∷ []) t e h q = absurd (true≢false (sym h))
fault_is (d ∷ a ∷ []) t e h q = absurd (true≢false (sym h))
fault_is (d ∷ a ∷ b ∷ l) t e h q = go (ltb 1 d) (empty_read (operation_of d a b)) (ltb 65535 (t + word_of a b)) h q (fault_is l (t + word_of a b) e)
  where
    go : (large empty long : Bool) → cond large false (shaped l) ≡ true
        → cond large (some InvalidArgument) (cond empty (some Overrun) (cond long (some BufferTooLong) (fault_from (t + word_of a b) l))) ≡ some e
        → (shaped l ≡ true → fault_from (t + word_of a b) l ≡ some e → eqb (error_number e) 6 || eqb (error_number e) 8 ≡ true) → eqb (error_number e) 6 || eqb (error_number e) 8 ≡ true
    go true y z h q again = absurd (true≢false (sym h))
    go false true z h q again = let x : Overrun ≡ e = cc in subst (λ (x : Error). eqb (error_number x) 6 || eqb (error_number x) 8 ≡ true) x refl
    go false false true h q again = let x : BufferTooLong ≡ e = cc in subst (λ (x : Error). eqb (error_number x) 6 || eqb (error_number x) 8 ≡ true) x refl
    go false false false h q again = again h q

-- ---- what the lines say

abbrev written_by : List ℕ → ℕ
written_by list = written_sum (each_span (operations_of list))

abbrev read_by : List ℕ → ℕ
read_by list = read_sum (each_span (operations_of list))

record Formed (s : Said) : Type 0 where
  shape : shaped s.list ≡ true
  sent : length s.written ≡ written_by s.list
  lent : read_by s.list ≤ 65535 → s.room ≡ read_by s.list

module _ (list : List ℕ) (d n : ℕ) (small : n ≤ 65535) (shape : shaped list ≡ true) where
  abbrev longer : List ℕ
  longer = list ++ operation_bytes d n

  sums_more : (count : Span → ℕ) → sum_of count (each_span (operations_of longer)) ≡ sum_of count (each_span (operations_of list)) + count (span_of (operation_of d (n % 256) (n / 256 % 256)))
  sums_more count = ap (λ (os : List Operation). sum_of count (each_span os)) (operations_more d (n % 256) (n / 256 % 256) list shape) ∙ sum_more count (operations_of list) (operation_of d (n % 256) (n / 256 % 256))

line_formed : (s : Said) (l : Line) → Small l → Formed s → Holds Formed (said_with s l)
unfolding said_with
line_formed s bad t h = tt
line_formed s (writes bs) t h =
    chosen (Holds Formed) s.answered (λ _. tt)
    (λ _. record {
      shape = shaped_more 0 (length bs % 256) (length bs / 256 % 256) refl s.list h.shape;
      sent = omega (arith, length-append s.written bs, sums_more s.list 0 (length bs) t h.shape written_in, h.sent);
      lent = λ small. let e = sums_more s.list 0 (length bs) t h.shape read_in in omega (arith, e, h.lent (omega arith));
    })
line_formed s (reads n) t h =
    chosen (Holds Formed) s.answered (λ _. tt)
    (λ _. record {
      shape = shaped_more 1 (n % 256) (n / 256 % 256) refl s.list h.shape;
      sent = omega (arith, sums_more s.list 1 n t h.shape written_in, h.sent);
      lent =
          λ small.
          let e : read_by (s.list ++ operation_bytes 1 n) ≡ read_by s.list + n = omega (arith, sums_more s.list 1 n t h.shape read_in) in
          let q = h.lent (omega arith) in
          rw (le-ltb 65535 (s.room + n) (omega arith)) (omega arith);
    })
line_formed s (answers ws) t h = chosen (Holds Formed) (ltb 4096 (length s.answers + length ws)) (λ _. tt) (λ _. record { shape = h.shape; sent = h.sent; lent = h.lent })

module _ (text : List ℕ) (chip address : ℕ) (s : Said) (e : input_of text ≡ call chip address s) where
  both : (chip ≤ 3) × Formed s
  unfolding shaped operations_of
  both = said_keeps Formed line_formed (record { shape = refl; sent = refl; lent = λ _. refl }) text chip address s e

  -- without a fault the bytes lent are the list's
  lent_is : (o : Option Error) → fault_from 0 s.list ≡ o → or_next o (refuse (mismatch s.list (length s.written) s.room) LengthMismatch none) ≡ o
  lent_is (some x) q = refl
  lent_is none q =
      let h = both.1 in
      let small = fault_free_small s.list 0 (omega arith) q in
      let w : length s.written ≡ written_sum (runs_of (operations_of s.list)) = h.sent ∙ sym (written_runs_lem (operations_of s.list)) in
      let r : s.room ≡ read_sum (runs_of (operations_of s.list)) = h.lent (omega arith) ∙ sym (read_runs (operations_of s.list)) in
      rw (eq-eqb (length s.written) (written_sum (runs_of (operations_of s.list))) w, eq-eqb s.room (read_sum (runs_of (operations_of s.list))) r)

  pub causes : cause_of chip address s ≡ refuse (ltb 127 address) InvalidAddress (refuse (ltb 768 (length s.list)) TooManyOperations (fault_from 0 s.list))
  unfolding refusal
  causes = rw (le-ltb 3 chip both.0, both.1.shape, lent_is (fault_from 0 s.list) refl)

  pub faults : (x : Error) → fault_from 0 s.list ≡ some x → eqb (error_number x) 6 || eqb (error_number x) 8 ≡ true
  faults x q = fault_is s.list 0 x both.1.shape q
