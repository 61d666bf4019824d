use Rattle.slave_step.proofs.clear.clear_af.Given as goal

abbrev pub ghost-af_phase : goal.ghost-af_phase
ghost-af_phase g a = g.s
