use Rattle.slave_step.proofs.clear.clear_slave_stale_flags.Given as goal

abbrev pub ghost-stale_phase : goal.ghost-stale_phase
ghost-stale_phase g a = g.s
