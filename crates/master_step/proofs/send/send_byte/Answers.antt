-- `master_step::send::send_byte` meets its contract.
use Rattle.std.proofs.Common.{refl, sym, ◌∙◌}
use Rattle.master_step.proofs.Laws.{going, moves, takes, refuses}
use Rattle.master_step.proofs.TakenLaws.{send_decides}
use Rattle.master_step.proofs.send.send_byte.Goals as goal

pub returns-then-not-fits_send : goal.returns-then-not-fits_send
returns-then-not-fits_send c = λ s k n. refuses (send_decides c.args.input.left c.args.input.what c.args.input.phase (going s) (sym s.rest) n ∙ sym c.fits_send.ensures ∙ c.if-not-fits_send.true) (record { block = refl; ended = c.refused.ensures })

pub returns : goal.returns
returns c =
    λ s k n.
    takes (send_decides c.args.input.left c.args.input.what c.args.input.phase (going s) (sym s.rest) n ∙ sym c.fits_send.ensures ∙ c.if-not-fits_send.false)
    (moves (sym (c.to.ensures s.held)) c.read.ensures)
