use Rattle.slave_step.proofs.clear.af_phase.Given as goal

abbrev pub ghost-ends : goal.ghost-ends
ghost-ends g a = g.s.progress.ending
