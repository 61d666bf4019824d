-- An accepted transaction is the program of its runs with joined bytes, however a run is divided.
-- Assumes nothing.
use mathlib.Core.Path.{◌≡◌, ap, ◌∙◌}
use mathlib.Core.Option.{Option, none}
use Prim.Native.Nat.{ℕ}
use native.Mathlib.Omega.{arith}
use lib.ListN.{length}
use Rattle.registers.specs.declared.chip.Chip.{Chip}
use Rattle.access.specs.declared.ending.Error.{Error}
use Rattle.access.specs.declared.ending.Failure.{Failure}
use Rattle.access.specs.Program.{Program}
use Rattle.operations.specs.Operations.{operations_of}
use Rattle.operations.proofs.SumLaws.{written_runs_lem, read_runs}
use Rattle.master.specs.declared.call.Kind.TheVariants as kind
use Rattle.master.specs.Rust.{Parts, blocking_transaction, validate_operations, transact}
use Rattle.master.specs.Joined.{joined, runs_program}
use Rattle.master.specs.Calls.{Lent, cut, refusal_at, function}
use Rattle.master.specs.Claims.{Passes}
use Rattle.master.proofs.LentLaws.{verdict, validate_operations_agrees}
use Rattle.master.proofs.CallAgrees.{in_form, list_passed}
use Rattle.master.proofs.Joining.{runs_join}

module _ (chip : Chip) (p : Parts) (address : ℕ) (l : Lent) (accepted : refusal_at kind.Transaction address l ≡ none) (passes : Passes p address) (n : ℕ) (h : Failure → Program) (k : Unit {0} → Program) where
  pub transaction_runs : function p chip address kind.Transaction l n h k ≡ runs_program chip p address (joined (cut (operations_of l.list) l.written)) n h k
  unfolding blocking_transaction validate_operations
  transaction_runs =
      let f = in_form address l accepted in
      let operations = operations_of l.list in
      let onward = transact chip p.check p.validate p.start address (length (cut operations l.written)) (cut operations l.written) n h k in
      passes n h _
      ∙ validate_operations_agrees chip n h (λ _. onward) l.list l.written 0 f.shape (omega (arith, f.written, written_runs_lem operations))
      (omega (arith, f.written, f.read, f.total, written_runs_lem operations, read_runs operations))
      ∙ ap (λ (o : Option Error). verdict o h (λ _. onward)) (list_passed address l accepted)
      ∙ runs_join.joins chip p address passes n h k (cut operations l.written)
