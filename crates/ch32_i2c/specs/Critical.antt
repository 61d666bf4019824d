-- Where the Rust holds interrupts off: the two `critical_section::with` of blocking_read_iter.
use Rattle.std.specs.Prelude.{ℕ, Bool, true, false, cond, ◌&&◌, List, eqb, length, Option, Some, None}
use Rattle.access.specs.Endings.{is_done}
use Rattle.block.specs.Bytes32.{block_size, fields_of}
use Rattle.master.specs.declared.stage.AddressStage.{AddressStage}
use Rattle.master.specs.declared.stage.AddressStage.TheVariants as address
use Rattle.master.specs.declared.stage.ReadStage.{ReadStage}
use Rattle.master.specs.declared.stage.ReadStage.TheVariants as read
use Rattle.master.specs.declared.stage.StopFor.{StopFor}
use Rattle.master.specs.declared.stage.StopFor.TheVariants as stop
use Rattle.master.specs.declared.stage.Stage.{Stage}
use Rattle.master.specs.declared.stage.Stage.TheVariants.{Begin, WaitStop, LaunchStart, Wait, Address, SendByte, RecvByte, ReadIter, GenerateStop, Abort, Ended}
use Rattle.master.specs.declared.state.State.{State}
use Rattle.images.specs.MasterImage.{master_in}

-- the first section: ACK off, STAR2, STOP or START for one byte; the second: STOP or START, and the last two bytes
abbrev pub in_read_section : ReadStage → Bool
in_read_section read.PosWrite = false
in_read_section read.AckRead = true
in_read_section read.AckWrite = true
in_read_section read.StartRead = true
in_read_section read.StartWrite = true
in_read_section read.NackRead = false
in_read_section read.NackWrite = false
in_read_section read.Third = false
in_read_section read.AgainRead = true
in_read_section read.AgainWrite = true
in_read_section read.SecondLast = true
in_read_section read.Last = true
in_read_section read.PosOffRead = false
in_read_section read.PosOffWrite = false

abbrev pub in_address_section : AddressStage → Bool
in_address_section address.Control = false
in_address_section address.Master = false
in_address_section address.Word = false
in_address_section address.Cleared = true

abbrev pub in_stop_section : StopFor → Bool
in_stop_section stop.Write = false
in_stop_section stop.One = true
in_stop_section stop.Two = true

abbrev pub in_section : Stage → Bool
in_section Begin = false
in_section (WaitStop f x) = false
in_section (LaunchStart x) = false
in_section (Wait f x) = false
in_section (Address x) = in_address_section x
in_section SendByte = false
in_section (RecvByte x) = false
in_section (ReadIter x) = in_read_section x
in_section (GenerateStop k x) = in_stop_section k
in_section (Abort x) = false
in_section Ended = false

-- the access that an open state owes lies in a section: no end is known there yet. A write has none, though it reads STAR2 behind ADDR too
abbrev pub is_critical : State → Bool
is_critical s = is_done s.progress.ending && (s.progress.reading && in_section s.stage)

-- no block that holds no transfer's state is
abbrev pub is_critical_in : Option State → Bool
is_critical_in (Some s) = is_critical s
is_critical_in None = false

-- what C gets for a block
unfoldable pub critical : List ℕ → ℕ
critical b = cond (eqb (length b) block_size) (cond (is_critical_in (master_in (fields_of b))) 1 0) 0
