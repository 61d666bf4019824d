-- The groups of a master call's stages by number.
use Rattle.std.specs.Prelude.{ℕ, cond, eqb}
use Rattle.stage_numbers.specs.declared.master_stage.Group.{Group}
use Rattle.stage_numbers.specs.declared.master_stage.Group.TheVariants as group

abbrev pub group_number : Group → ℕ
group_number group.Begin = 0
group_number group.WaitStop = 1
group_number group.LaunchStart = 2
group_number group.Wait = 3
group_number group.Address = 4
group_number group.SendByte = 5
group_number group.RecvByte = 6
group_number group.ReadIter = 7
group_number group.GenerateStop = 8
group_number group.Abort = 9
group_number group.Ended = 10

abbrev pub group_of : ℕ → Group
group_of n = cond (eqb n 0) group.Begin (cond (eqb n 1) group.WaitStop (cond (eqb n 2) group.LaunchStart (cond (eqb n 3) group.Wait (cond (eqb n 4) group.Address (cond (eqb n 5) group.SendByte (cond (eqb n 6) group.RecvByte (cond (eqb n 7) group.ReadIter (cond (eqb n 8) group.GenerateStop (cond (eqb n 9) group.Abort group.Ended)))))))))
