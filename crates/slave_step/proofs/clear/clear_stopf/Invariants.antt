use Rattle.slave_step.proofs.clear.clear_stopf.Given as goal

abbrev pub ghost-stopf_phase : goal.ghost-stopf_phase
ghost-stopf_phase g a = g.s
