use Rattle.slave_step.proofs.poll.polls.Given as goal

abbrev pub ghost-blocking_listen : goal.ghost-blocking_listen
ghost-blocking_listen g a = g.s

abbrev pub ghost-blocking_respond_to_write : goal.ghost-blocking_respond_to_write
ghost-blocking_respond_to_write g a = g.s

abbrev pub ghost-blocking_respond_to_read : goal.ghost-blocking_respond_to_read
ghost-blocking_respond_to_read g a = g.s
