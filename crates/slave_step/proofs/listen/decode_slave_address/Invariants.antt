use Rattle.slave_step.proofs.listen.decode_slave_address.Given as goal

abbrev pub ghost-match_phase : goal.ghost-match_phase
ghost-match_phase g a = g.s
