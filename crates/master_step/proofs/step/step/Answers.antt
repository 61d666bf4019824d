-- `master_step::step::step` meets its contract.
use Rattle.std.proofs.Common.{rules, ap, ◌∙◌}
use Rattle.stage_numbers.specs.MasterGroup.{group_number}
use Rattle.master_step.specs.Held.{stand_in}
use Rattle.master_step.proofs.StepLaws.{unstarted, counted, seen, numbered, aborting}
use Rattle.master_step.proofs.step.step.Goals as goal

pub returns-in-Begin : goal.returns-in-Begin
returns-in-Begin c =
    λ k n.
    let is = ap group_number c.in-Begin.is in
    rw c.in-Begin.is (c.begins.ensures (unstarted (stand_in c.args.block.now) k (n.group_is ∙ is)) (numbered is n))

pub returns-in-WaitStop : goal.returns-in-WaitStop
returns-in-WaitStop c =
    λ k n.
    let is = ap group_number c.in-WaitStop.is in
    let e = n.group_is ∙ is in
    rw c.in-WaitStop.is (c.wait_stop_finished.ensures (seen (stand_in c.args.block.now) k 1 e (search rules) (search rules)) (numbered is n) (counted (stand_in c.args.block.now) k 1 e (search rules) (search rules)))

pub returns-in-LaunchStart : goal.returns-in-LaunchStart
returns-in-LaunchStart c =
    λ k n.
    let is = ap group_number c.in-LaunchStart.is in
    let e = n.group_is ∙ is in
    rw c.in-LaunchStart.is (c.launch_start.ensures (seen (stand_in c.args.block.now) k 2 e (search rules) (search rules)) (numbered is n) (counted (stand_in c.args.block.now) k 2 e (search rules) (search rules)))

pub returns-in-Wait : goal.returns-in-Wait
returns-in-Wait c =
    λ k n.
    let is = ap group_number c.in-Wait.is in
    let e = n.group_is ∙ is in
    rw c.in-Wait.is (c.wait_flag.ensures (seen (stand_in c.args.block.now) k 3 e (search rules) (search rules)) (numbered is n) (counted (stand_in c.args.block.now) k 3 e (search rules) (search rules)))

pub returns-in-Address : goal.returns-in-Address
returns-in-Address c =
    λ k n.
    let is = ap group_number c.in-Address.is in
    let e = n.group_is ∙ is in
    rw c.in-Address.is (c.address_phase.ensures (seen (stand_in c.args.block.now) k 4 e (search rules) (search rules)) (numbered is n) (counted (stand_in c.args.block.now) k 4 e (search rules) (search rules)))

pub returns-in-SendByte : goal.returns-in-SendByte
returns-in-SendByte c =
    λ k n.
    let is = ap group_number c.in-SendByte.is in
    let e = n.group_is ∙ is in
    rw c.in-SendByte.is (c.send_byte.ensures (seen (stand_in c.args.block.now) k 5 e (search rules) (search rules)) (numbered is n) (counted (stand_in c.args.block.now) k 5 e (search rules) (search rules)))

pub returns-in-RecvByte : goal.returns-in-RecvByte
returns-in-RecvByte c =
    λ k n.
    let is = ap group_number c.in-RecvByte.is in
    let e = n.group_is ∙ is in
    rw c.in-RecvByte.is (c.recv_byte.ensures (seen (stand_in c.args.block.now) k 6 e (search rules) (search rules)) (numbered is n) (counted (stand_in c.args.block.now) k 6 e (search rules) (search rules)))

pub returns-in-ReadIter : goal.returns-in-ReadIter
returns-in-ReadIter c =
    λ k n.
    let is = ap group_number c.in-ReadIter.is in
    let e = n.group_is ∙ is in
    rw c.in-ReadIter.is (c.blocking_read_iter.ensures (seen (stand_in c.args.block.now) k 7 e (search rules) (search rules)) (numbered is n) (counted (stand_in c.args.block.now) k 7 e (search rules) (search rules)))

pub returns-in-GenerateStop : goal.returns-in-GenerateStop
returns-in-GenerateStop c =
    λ k n.
    let is = ap group_number c.in-GenerateStop.is in
    let e = n.group_is ∙ is in
    rw c.in-GenerateStop.is (c.generate_stop.ensures (seen (stand_in c.args.block.now) k 8 e (search rules) (search rules)) (numbered is n) (counted (stand_in c.args.block.now) k 8 e (search rules) (search rules)))

pub returns-in-Abort : goal.returns-in-Abort
returns-in-Abort c =
    λ k n.
    let is = ap group_number c.in-Abort.is in
    rw c.in-Abort.is (aborting (stand_in c.args.block.now) k _ _ _ (n.group_is ∙ is) (c.abort_transfer.ensures k.told.held (numbered is n)))
