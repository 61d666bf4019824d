use Rattle.slave_step.proofs.poll.check_errors_and_time.Given as goal

abbrev pub ghost-error_phase : goal.ghost-error_phase
ghost-error_phase g a = g.s
