use Rattle.slave_step.proofs.clear.stopf_phase.Given as goal

abbrev pub ghost-ends : goal.ghost-ends
ghost-ends g a = g.s.progress.ending
