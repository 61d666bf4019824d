-- `master_step::begin::begins` meets its contract.
use Rattle.std.proofs.Common.{refl, sym, ◌∙◌}
use Rattle.master_step.specs.Held.{block_at, call_in, progress_in, run_in}
use Rattle.master_step.proofs.Laws.{takes, refuses}
use Rattle.master_step.proofs.BeginLaws.{begin_decides, known}
use Rattle.master_step.proofs.begin.begins.Goals as goal

pub returns-then-not-fits_begin : goal.returns-then-not-fits_begin
returns-then-not-fits_begin c =
    λ s k.
    let held = (λ i. block_at (call_in c.args.block.now) (progress_in c.args.block.now) (sym k.group_is i) (sym k.what_is i) (sym k.phase_is i)) ∙ s.held in
    refuses (begin_decides (call_in c.args.block.now) (run_in c.args.here) (progress_in c.args.block.now) c.args.input.left c.args.input.what c.args.input.phase held (known s) s.ending (sym s.rest) ∙ sym c.fits_begin.ensures ∙ c.if-not-fits_begin.true) (record { block = refl; ended = c.refused.ensures })

pub returns : goal.returns
returns c =
    λ s k.
    let held = (λ i. block_at (call_in c.args.block.now) (progress_in c.args.block.now) (sym k.group_is i) (sym k.what_is i) (sym k.phase_is i)) ∙ s.held in
    takes (begin_decides (call_in c.args.block.now) (run_in c.args.here) (progress_in c.args.block.now) c.args.input.left c.args.input.what c.args.input.phase held (known s) s.ending (sym s.rest) ∙ sym c.fits_begin.ensures ∙ c.if-not-fits_begin.false) (c.begin_run.ensures s)
