use Rattle.slave_step.proofs.poll.blocking_respond_to_write.Given as goal

abbrev pub ghost-slave_handle_errors : goal.ghost-slave_handle_errors
ghost-slave_handle_errors g a = g.s
