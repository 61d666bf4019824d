-- `master_call::begin::starts` meets its contract.
use mathlib.Core.Path.{◌≡◌, refl, ap, sym, ◌∙◌}
use Rattle.master.specs.Machine.{fresh, begun, write_bytes_move}
use Rattle.master_step.specs.declared.here.Here.{Here}
use Rattle.master_step.specs.Held.{block_at, on, run_in}
use Rattle.master_step.proofs.Laws.{puts_told}
use Rattle.master_step.proofs.StepLaws.{run_told, goes_told}
use Rattle.master_call.proofs.BeginLaws.{starts_write, begun_block}
use Rattle.master_call.proofs.begin.starts.Goals as goal

pub returns-else-here : goal.returns-else-here
returns-else-here c =
    let block = begun_block _ _ _ c.begun_fields-in-Some.ensures c.into-in-Some.ensures in
    let here = c.here_of-here.ensures in
    let put = puts_told (on (begun (run_in c.here_of-here.result))) c.args.call fresh 0 0 0 c.begun.ensures (sym block) in
    let begun_at : block_at c.args.call (begun c.in-Some.run' fresh) 0 0 0 ≡ c.begun.new.block =
    (λ i. block_at c.args.call (begun (sym (run_told c.args.call c.in-Some.run' _ here) i) fresh) 0 0 0) ∙ put in
    rw c.in-Some.is (starts_write c.args.call c.in-Some.run' _ here _ _ c.if-here.false
    (goes_told write_bytes_move c.args.call c.in-Some.run' (begun c.in-Some.run' fresh) 0 0 0 c.write_bytes.ensures begun_at here (ap (λ (h : Here). h.length) (sym here)) refl refl))
