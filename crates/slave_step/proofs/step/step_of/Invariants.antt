use Rattle.block.specs.Bytes32.{fields_of}
use Rattle.images.specs.Numbers.{chip_of}
use Rattle.images.specs.SlaveImage.{slave_of}
use Rattle.slave_step.proofs.step.step_of.Given as goal

abbrev pub ghost-step_at : goal.ghost-step_at
ghost-step_at a = record { setting = record { chip = chip_of (fields_of a.block.now).chip; kind = a.here.kind; size = a.here.size }; progress = (slave_of (fields_of a.block.now)).progress }
