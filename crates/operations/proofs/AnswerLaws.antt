-- What an answer of `validate_operations` says of the list.
-- Assumes nothing.
use Prim.Native.Nat.{ℕ}
use mathlib.Core.Path.{◌≡◌, refl, sym, subst}
use mathlib.Core.List.{List}
use mathlib.Core.Option.{Option, none, some}
use Rattle.std.specs.Prelude as prelude
use Rattle.std.specs.Prelude.{Result, Ok, Err}
use Rattle.access.specs.declared.ending.Error.{Error}
use Rattle.operations.specs.declared.search.Run.{Run}
use Rattle.operations.specs.declared.search.Sums.{Sums}
use Rattle.operations.specs.Operations.{operations_of}
use Rattle.operations.specs.Runs.{runs_of, sums_of, run_at}
use Rattle.operations.specs.Search.{fault_from, verdict_at, validate_operations}

abbrev Says : Result (Sums × prelude.Option Run) Error → List ℕ → ℕ → Type 0
Says (Err e) l k = fault_from 0 l ≡ some e
Says (Ok p) l k = (fault_from 0 l ≡ none) × ((p.0 ≡ sums_of (runs_of (operations_of l))) × (p.1 ≡ run_at (runs_of (operations_of l)) k))

says : (l : List ℕ) (k : ℕ) → Says (validate_operations l k) l k
unfolding validate_operations
says l k = go (fault_from 0 l) refl
  where
    go : (o : Option Error) → fault_from 0 l ≡ o → Says (verdict_at o l k) l k
    go none q = (q, (refl, refl))
    go (some e) q = q

pub refused_is : (l : List ℕ) (k : ℕ) (e : Error) → Err e ≡ validate_operations l k → fault_from 0 l ≡ some e
refused_is l k e q = subst (λ x. Says x l k) (sym q) (says l k)

pub passed_is : (l : List ℕ) (k : ℕ) (s : Sums) (f : prelude.Option Run) → Ok (s, f) ≡ validate_operations l k
    → (fault_from 0 l ≡ none) × ((s ≡ sums_of (runs_of (operations_of l))) × (f ≡ run_at (runs_of (operations_of l)) k))
passed_is l k s f q = subst (λ x. Says x l k) (sym q) (says l k)
