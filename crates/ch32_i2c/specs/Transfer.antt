-- Transactions, write-reads and frames: what begin and step leave.
use Rattle.std.specs.Prelude.{Bool, ◌||◌, List, [], ℕ, ltb, length}
use Rattle.master.specs.declared.call.Call.{Call}
use Rattle.master.specs.declared.call.Kind.{Kind}
use Rattle.master.specs.declared.call.Kind.TheVariants as kind
use Rattle.master.specs.Calls.{Lent, lent_with}
use Rattle.images.specs.Numbers.{chip_of, transaction_entry, write_read_entry, write_entry, read_entry}
use Rattle.images.specs.MasterImage.{frame_options_of}
use Rattle.calls.specs.declared.transfer.Partner.{Partner}
use Rattle.calls.specs.declared.transfer.Framed.{Framed}
use Rattle.calls.specs.Transfer.{transfer_on, transfer_begin}
use Rattle.call.specs.Left.{Left, begin_left, step_left}

-- the call that C's numbers mean
abbrev pub call_of : ℕ → ℕ → Kind → Call
call_of chip address k = record { chip = chip_of chip; address = address; kind = k }

-- the partner that they mean, and a frame's
abbrev pub partner_of : ℕ → ℕ → Partner
partner_of chip address = record { chip = chip_of chip; address = address }

abbrev pub framed_of : ℕ → ℕ → ℕ → Framed
framed_of chip address option = record { partner = partner_of chip address; options = frame_options_of option }

-- `unknown`: an argument is none that a call has
unfoldable pub master_begin : Bool → Call → List ℕ → Lent → List ℕ → Left
master_begin unknown c block lent read = begin_left lent.written (transfer_begin lent.list (length lent.written) lent.room unknown c block) read

unfoldable pub master_step : ℕ → List ℕ → List ℕ → List ℕ → List ℕ → ℕ → Left
master_step entry block list written read a = step_left (transfer_on list (length written) (length read) entry) written block read a

-- ---- the entries

abbrev pub transaction_begin : List ℕ → ℕ → ℕ → List ℕ → List ℕ → List ℕ → Left
transaction_begin block chip address list written read = master_begin (ltb 3 chip) (call_of chip address kind.Transaction) block (lent_with list written (length read)) read

abbrev pub transaction_step : List ℕ → List ℕ → List ℕ → List ℕ → ℕ → Left
transaction_step = master_step transaction_entry

abbrev pub write_read_begin : List ℕ → ℕ → ℕ → List ℕ → List ℕ → Left
write_read_begin block chip address written read = master_begin (ltb 3 chip) (call_of chip address kind.WriteRead) block (lent_with [] written (length read)) read

abbrev pub write_read_step : List ℕ → List ℕ → List ℕ → ℕ → Left
write_read_step block written read a = master_step write_read_entry block [] written read a

abbrev pub write_begin : List ℕ → ℕ → ℕ → ℕ → List ℕ → Left
write_begin block chip address option written = master_begin (ltb 3 chip || ltb 5 option) (call_of chip address (kind.Write (frame_options_of option))) block (lent_with [] written 0) []

abbrev pub write_step : List ℕ → List ℕ → ℕ → Left
write_step block written a = master_step write_entry block [] written [] a

abbrev pub read_begin : List ℕ → ℕ → ℕ → ℕ → List ℕ → Left
read_begin block chip address option read = master_begin (ltb 3 chip || ltb 5 option) (call_of chip address (kind.Read (frame_options_of option))) block (lent_with [] [] (length read)) read

abbrev pub read_step : List ℕ → List ℕ → ℕ → Left
read_step block read a = master_step read_entry block [] [] read a
