use Rattle.slave_step.proofs.poll.error_phase.Given as goal

abbrev pub ghost-judged : goal.ghost-judged
ghost-judged g a = g.s
