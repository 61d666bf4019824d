use Rattle.slave_step.proofs.abort.abort_slave_transfer.Given as goal

abbrev pub ghost-abort_phase : goal.ghost-abort_phase
ghost-abort_phase g a = g.s
