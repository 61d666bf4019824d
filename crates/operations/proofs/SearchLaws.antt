-- What holds at each operation of the search.
-- Assumes nothing.
use Prim.Native.Nat.{ℕ, ◌+◌, ◌≤◌, ◌<◌}
use mathlib.Core.Path.{◌≡◌, refl, sym, ap, ◌∙◌}
use mathlib.Core.Bool.{Bool, true, false, cond}
use mathlib.Core.List.{List, [], ◌∷◌, map}
use mathlib.Core.Option.{none, some}
use native.Mathlib.Nat.{zero-add}
use native.Mathlib.Numerals.{add-one}
use native.Mathlib.Omega.{arith}
use lib.Dec.{eqb}
use lib.ListN.{length, get_or, drop, drop_of_length-le}
use lib.Seq.{drop-cons}
use Rattle.std.specs.Prelude as prelude
use Rattle.std.specs.Prelude.{Ok, Err}
use Rattle.access.specs.declared.ending.Error.{Error}
use Rattle.access.specs.declared.ending.Error.TheVariants.{Overrun, BufferTooLong, InvalidArgument}
use Rattle.operations.specs.declared.operation.Direction.{Direction}
use Rattle.operations.specs.declared.operation.Direction.TheVariants.{Write, Read}
use Rattle.operations.specs.declared.operation.Operation.{Operation}
use Rattle.operations.specs.declared.search.Tally.{Tally}
use Rattle.operations.specs.declared.search.Seen.{Seen}
use Rattle.operations.specs.Operations.{empty_read, operations_of}
use Rattle.operations.specs.Runs.{Span, span, same, written_in, read_in, runs_from, runs_of, sums_of, run_at}
use Rattle.operations.specs.Tally.{passed, passed_all, none_passed}
use Rattle.operations.specs.Seen.{open_span, bytes_of, added_to, added, ended_with, ended}
use Rattle.operations.specs.Search.{fault_from, verdict_at, validate_operations}
use Rattle.operations.proofs.ChunkLaws.{chunks, behind, operation_in, operations_mapped, fault_in, fault_checked, part_behind, none_behind, fault_direction, fault_empty, fault_total, fault_next}
use Rattle.operations.proofs.RunLaws.{begun}
use Rattle.operations.proofs.TallyLaws.{all_written, all_read, all_found}

-- nothing is seen
abbrev pub unseen : ℕ → Seen
unseen k = record { ended = none_passed k; run = prelude.None }

-- the tally to which what is seen leads, with these operations behind it
abbrev runs_open : prelude.Option Operation → List Operation → List Span
runs_open prelude.None os = runs_of os
runs_open (prelude.Some r) os = runs_from r.direction r.length os

pub leads : Seen → List Operation → Tally
leads s os = passed_all s.ended (runs_open s.run os)

-- an operation joins the open run, or ends it
abbrev joins : Tally → Operation → Operation → Seen
joins t r o = record { ended = t; run = prelude.Some (record { direction = r.direction; length = r.length + o.length }) }

abbrev turns : Tally → Operation → Operation → Seen
turns t r o = record { ended = passed t (open_span r) true; run = prelude.Some o }

leads_next : (s : Seen) (o : Operation) (os : List Operation) → leads (added s o) os ≡ leads s (o ∷ os)
unfolding leads passed_all runs_of runs_from
leads_next s o os = go s.run
  where
    turn : (r : Operation) (b : Bool) → leads (cond b (joins s.ended r o) (turns s.ended r o)) os
        ≡ passed_all s.ended (cond b (runs_from r.direction (r.length + o.length) os) (open_span r ∷ runs_from o.direction o.length os))
    turn r true = refl
    turn r false = rw (begun o.direction o.length os, passed_all)

    go : (r : prelude.Option Operation) → leads (added_to s.ended r o) os ≡ passed_all s.ended (runs_open r (o ∷ os))
    go prelude.None = refl
    go (prelude.Some r) = turn r (same r.direction o.direction)

leads_end : (s : Seen) → leads s [] ≡ ended s
unfolding leads passed_all runs_of runs_from
leads_end s = go s.run
  where
    go : (r : prelude.Option Operation) → passed_all s.ended (runs_open r []) ≡ ended_with s.ended r
    go prelude.None = refl
    go (prelude.Some r) = refl

-- how many bytes are seen
sums_grow : (t : Tally) (d : Direction) (n : ℕ) → t.written + written_in (span d n) + (t.read + read_in (span d n)) ≡ t.written + t.read + n
sums_grow t Write n = omega arith
sums_grow t Read n = omega arith

bytes_grow : (s : Seen) (o : Operation) → bytes_of (added s o) ≡ bytes_of s + o.length
bytes_grow s o = go s.run
  where
    turn : (r : Operation) (b : Bool) → bytes_of (cond b (joins s.ended r o) (turns s.ended r o)) ≡ s.ended.written + s.ended.read + r.length + o.length
    turn r true = omega arith
    turn r false = omega (arith, sums_grow s.ended r.direction r.length)

    go : (r : prelude.Option Operation) → bytes_of (added_to s.ended r o) ≡ bytes_of (record { ended = s.ended; run = r }) + o.length
    go prelude.None = omega arith
    go (prelude.Some r) = turn r (same r.direction o.direction)

-- before an operation: what is left has the whole's fault, and leads to the whole's tally
pub record Holds (cs : List (List ℕ)) (end : List ℕ) (k i total : ℕ) (s : Seen) : Type 0 where
  pub small : total ≤ 65535
  pub sums : bytes_of s ≡ total
  pub fault : fault_in total (drop i cs) end ≡ fault_in 0 cs end
  pub tally : leads s (map operation_in (drop i cs)) ≡ leads (unseen k) (map operation_in cs)

-- the whole's fault
pub refused : (l : List ℕ) (k : ℕ) {cs : List (List ℕ)} {end : List ℕ} {e : Error} → cs ≡ chunks l → end ≡ behind l → fault_in 0 cs end ≡ some e → Err e ≡ validate_operations l k
unfolding validate_operations
refused l k p q f = ap (λ o. verdict_at o l k) (sym f ∙ (λ i. fault_in 0 (p i) (q i)) ∙ fault_checked 0 l)

-- at an operation
module _ (l : List ℕ) {cs : List (List ℕ)} {end : List ℕ} (p : cs ≡ chunks l) (q : end ≡ behind l) {k i total : ℕ} {s : Seen} (h : Holds cs end k i total s) where
  module _ (inside : i < length cs) {c : List ℕ} (here : c ≡ get_or cs i []) where
    first : drop i cs ≡ c ∷ drop (i + 1) cs
    first = rw (here, add-one i) (drop-cons cs i [] inside)

    fault_here : fault_in total (c ∷ drop (i + 1) cs) end ≡ fault_in 0 cs end
    fault_here = ap (λ x. fault_in total x end) (sym first) ∙ h.fault

    pub no_direction : 1 < get_or c 0 0 → Err InvalidArgument ≡ validate_operations l k
    no_direction n = refused l k p q (sym fault_here ∙ fault_direction total end c (drop (i + 1) cs) n)

    module _ (small : get_or c 0 0 ≤ 1) {o : Operation} (eo : o ≡ operation_in c) where
      pub read_of_none : empty_read o ≡ true → Err Overrun ≡ validate_operations l k
      read_of_none e = refused l k p q (sym fault_here ∙ fault_empty total end c (drop (i + 1) cs) small o eo e)

      module _ (filled : empty_read o ≡ false) where
        pub too_long : 65535 < total + o.length → Err BufferTooLong ≡ validate_operations l k
        too_long n = refused l k p q (sym fault_here ∙ fault_total total end c (drop (i + 1) cs) small o eo filled n)

        pub passes : total + o.length ≤ 65535 → {t : Seen} → t ≡ added s o → Holds cs end k (i + 1) (total + o.length) t
        passes n et = record {
          small = n;
          sums = rw et (bytes_grow s o) ∙ ap (λ x. x + o.length) h.sums;
          fault = sym (fault_next total end c (drop (i + 1) cs) small o eo filled n) ∙ fault_here;
          tally = rw (et, leads_next s o (map operation_in (drop (i + 1) cs)), eo) (ap (λ x. leads s (map operation_in x)) (sym first) ∙ h.tally);
        }

  -- behind the last
  module _ (outside : length cs ≤ i) where
    last : drop i cs ≡ []
    last = drop_of_length-le cs outside

    fault_last : fault_in total [] end ≡ fault_in 0 cs end
    fault_last = ap (λ x. fault_in total x end) (sym last) ∙ h.fault

    pub no_whole : eqb (length end) 0 ≡ false → Err InvalidArgument ≡ validate_operations l k
    no_whole n = refused l k p q (sym fault_last ∙ part_behind total end n)

    pub sums_up : eqb (length end) 0 ≡ true → {t : Tally} → t ≡ ended s → Ok (record { written = t.written; read = t.read }, t.found) ≡ validate_operations l k
    unfolding validate_operations leads
    sums_up n {t} et =
        let clear : fault_from 0 l ≡ none = sym (fault_checked 0 l) ∙ (λ j. fault_in 0 (sym p j) (sym q j)) ∙ sym fault_last ∙ none_behind total end n in
        let whole : t ≡ passed_all (none_passed k) (runs_of (operations_of l)) =
        et ∙ sym (leads_end s) ∙ ap (λ x. leads s (map operation_in x)) (sym last) ∙ h.tally
        ∙ ap (λ x. passed_all (none_passed k) (runs_of (map operation_in x))) p ∙ ap (λ os. passed_all (none_passed k) (runs_of os)) (operations_mapped l) in
        ap (λ (t : Tally). Ok (record { written = t.written; read = t.read }, t.found)) whole
        ∙ (λ j. Ok (record { written = all_written (none_passed k) (runs_of (operations_of l)) j; read = all_read (none_passed k) (runs_of (operations_of l)) j }, (all_found k (runs_of (operations_of l)) j)))
        ∙ (λ j. Ok (record { written = zero-add (sums_of (runs_of (operations_of l))).written j; read = zero-add (sums_of (runs_of (operations_of l))).read j }, (run_at (runs_of (operations_of l)) k)))
        ∙ ap (λ o. verdict_at o l k) (sym clear)
