use Rattle.slave_step.proofs.step.step_at.Given as goal

abbrev pub ghost-clear_stopf : goal.ghost-clear_stopf
ghost-clear_stopf g a = g.s

abbrev pub ghost-clear_slave_stale_flags : goal.ghost-clear_slave_stale_flags
ghost-clear_slave_stale_flags g a = g.s

abbrev pub ghost-arms : goal.ghost-arms
ghost-arms g a = g.s

abbrev pub ghost-polls : goal.ghost-polls
ghost-polls g a = g.s

abbrev pub ghost-decode_slave_address : goal.ghost-decode_slave_address
ghost-decode_slave_address g a = g.s

abbrev pub ghost-received : goal.ghost-received
ghost-received g a = g.s

abbrev pub ghost-sent : goal.ghost-sent
ghost-sent g a = g.s

abbrev pub ghost-clear_af : goal.ghost-clear_af
ghost-clear_af g a = g.s

abbrev pub ghost-check_errors_and_time : goal.ghost-check_errors_and_time
ghost-check_errors_and_time g a = g.s

abbrev pub ghost-abort_slave_transfer : goal.ghost-abort_slave_transfer
ghost-abort_slave_transfer g a = g.s
