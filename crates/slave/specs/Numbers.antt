-- What C sees of what a slave call returns: the command, and the bytes left over.
use Rattle.std.specs.Prelude.{ℕ, ◌+◌, ◌*◌}
use Rattle.slave.specs.declared.config.SlaveAddress.{SlaveAddress}
use Rattle.slave.specs.declared.config.SlaveAddress.TheVariants.{SevenBit, TenBit}
use Rattle.slave.specs.declared.command.SlaveCommandKind.{SlaveCommandKind}
use Rattle.slave.specs.declared.command.SlaveCommandKind.TheVariants.{GeneralCall, Read, Write}
use Rattle.slave.specs.declared.command.SlaveCommand.{SlaveCommand}
use Rattle.slave.specs.Rust.{SendStatus, Done, LeftoverBytes}

abbrev pub kind_number : SlaveCommandKind → ℕ
kind_number GeneralCall = 0
kind_number Read = 1
kind_number Write = 2

-- bits 0 to 9 the address, bit 10 whether it has ten bits
abbrev pub address_number : SlaveAddress → ℕ
address_number (SevenBit a) = a
address_number (TenBit a) = a + 1024

-- bits 12 and 13 the kind
abbrev pub command_number : SlaveCommand → ℕ
command_number c = address_number c.address + kind_number c.kind * 4096

-- the bytes left over
abbrev pub status_number : SendStatus → ℕ
status_number Done = 0
status_number (LeftoverBytes n) = n
