-- What was found of what is lent: the cause, or the run.
-- Assumes nothing.
use mathlib.Core.Path.{◌≡◌, refl, sym, ap, subst}
use mathlib.Core.Bool.{false, not}
use mathlib.Core.List.{List}
use mathlib.Core.Option.{Option, none, some}
use Prim.Native.Nat.{ℕ}
use lib.Dec.{ltb}
use lib.ListN.{length}
use Rattle.std.specs.Prelude.{Result, Ok, Err}
use Rattle.std.specs.Prelude as prelude
use Rattle.access.specs.declared.ending.Error.{Error}
use Rattle.access.specs.declared.ending.Error.TheVariants.{InvalidAddress, TooManyOperations}
use Rattle.operations.specs.declared.search.Run.{Run}
use Rattle.operations.specs.Runs.{run_at}
use Rattle.operations.specs.Search.{fault_from}
use Rattle.operations.proofs.ListLaws.{fault_free_shaped}
use Rattle.master.specs.declared.call.Kind.{Kind}
use Rattle.master.specs.declared.call.Kind.TheVariants as kind
use Rattle.master.specs.Calls.{misshapen, cause_at, spans_by}
use Rattle.master.proofs.CallAgrees.{passed_cause, passed_list}
use Rattle.master_lent.specs.Look.{looked_with, look}

-- ---- what was found

module _ (x : Kind) (address : ℕ) (list : List ℕ) (written room k : ℕ) where
  abbrev Says : Result (prelude.Option Run) Error → Type 0
  Says (Err e) = cause_at x address list written room ≡ some e
  Says (Ok f) = (cause_at x address list written room ≡ none) × (f ≡ run_at (spans_by x list written room) k)

  says : Says (look x address list written room k)
  unfolding look
  says = go (cause_at x address list written room) refl
    where
      go : (o : Option Error) → cause_at x address list written room ≡ o → Says (looked_with o (run_at (spans_by x list written room) k))
      go none q = (q, refl)
      go (some e) q = q

  pub refused_cause : (e : Error) → Err e ≡ look x address list written room k → cause_at x address list written room ≡ some e
  refused_cause e q = subst Says (sym q) says

  pub found_cause : (f : prelude.Option Run) → Ok f ≡ look x address list written room k → (cause_at x address list written room ≡ none) × (f ≡ run_at (spans_by x list written room) k)
  found_cause f q = subst Says (sym q) says

-- without another cause the list has its form
pub formed : (x : Kind) (address : ℕ) (list : List ℕ) (written room : ℕ) → cause_at x address list written room ≡ none → misshapen x list ≡ false
formed kind.Transaction address list written room q =
    let a = passed_cause (ltb 127 address) InvalidAddress _ q in
    let b = passed_cause (ltb 768 (length list)) TooManyOperations _ a.1 in
    ap not (fault_free_shaped list 0 (passed_list (fault_from 0 list) _ b.1).0)
formed kind.WriteRead address list written room q = refl
formed (kind.Write o) address list written room q = refl
formed (kind.Read o) address list written room q = refl
