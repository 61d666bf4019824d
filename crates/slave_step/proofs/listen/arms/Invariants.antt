use Rattle.slave_step.proofs.listen.arms.Given as goal

abbrev pub ghost-arm_phase : goal.ghost-arm_phase
ghost-arm_phase g a = g.s
