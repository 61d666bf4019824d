-- Layer 2: `init_slave` as a machine.
use Rattle.std.specs.Prelude as prelude
use Rattle.std.specs.Prelude.{Bool, true, false, cond, not, ◌&&◌, ◌||◌, ℕ, eqb, ltb, Some, None}
use Rattle.std.proofs.Math.Option.{Option, none, some}
use Rattle.registers.specs.declared.register.Register.TheVariants.{Ctlr1, Ctlr2, Oaddr1, Oaddr2}
use Rattle.registers.specs.Bits.{PE, ENGC, NOSTRETCH, ACK, ITBUFEN}
use Rattle.registers.specs.Word.{put_bit}
use Rattle.registers.specs.Addresses.{own_seven, own_ten, second_address}
use Rattle.access.specs.declared.ending.Error.{Error}
use Rattle.access.specs.declared.ending.Error.TheVariants.{InvalidAddress, ReservedAddress}
use Rattle.access.specs.declared.need.Need.{Need}
use Rattle.access.specs.declared.need.Need.TheVariants as need
use Rattle.access.specs.Endings.{done}
use Rattle.access.specs.Machine.{Machine}
use Rattle.slave.specs.declared.config.SlaveAddress.{SlaveAddress}
use Rattle.slave.specs.declared.config.SlaveAddress.TheVariants.{SevenBit, TenBit}
use Rattle.slave.specs.declared.config.SlaveConfig.{SlaveConfig}
use Rattle.slave.specs.declared.init.InitStage.{InitStage}
use Rattle.slave.specs.declared.init.InitStage.TheVariants.{DisableRead, DisableWrite, BufferRead, BufferWrite, Own, Second, EnableRead, EnableWrite, Ended}
use Rattle.slave.specs.declared.init.InitState.{InitState}
use Rattle.slave.specs.Reserved.{config_reserved}

-- ---- refusals

-- document 01: above 127, or 0 without general call; ten bits: above 1023
abbrev pub own_fault : SlaveAddress → Bool → Bool
own_fault (SevenBit a) general = ltb 127 a || (eqb a 0 && not general)
own_fault (TenBit a) general = ltb 1023 a

-- above 127, or beside an address of ten bits
abbrev pub second_fault : SlaveAddress → prelude.Option ℕ → Bool
second_fault own None = false
second_fault (SevenBit a) (Some b) = ltb 127 b
second_fault (TenBit a) (Some b) = true

unfoldable pub config_fault : SlaveConfig → Bool
config_fault c = own_fault c.address c.general_call || second_fault c.address c.second_address

-- 9, the Rust's, then the added 17
abbrev pub init_refusal : SlaveConfig → Option Error
init_refusal c = cond (config_fault c) (some InvalidAddress) (cond (config_reserved c) (some ReservedAddress) none)

-- ---- the machine

-- OADDR1, OADDR2 and the last CTLR1
abbrev pub own_word_of : SlaveAddress → ℕ
own_word_of (SevenBit a) = own_seven a
own_word_of (TenBit a) = own_ten a

abbrev pub second_word_of : prelude.Option ℕ → ℕ
second_word_of None = 0
second_word_of (Some a) = second_address a

abbrev pub enable_word : SlaveConfig → ℕ → ℕ
enable_word c w = put_bit PE true (put_bit ACK true (put_bit NOSTRETCH (not c.clock_stretching) (put_bit ENGC c.general_call w)))

-- the state at another stage; with the word that was read
abbrev pub to : InitStage → InitState → InitState
to stage s = record { config = s.config; stage = stage; saved = s.saved }

abbrev pub saving : InitStage → ℕ → InitState → InitState
saving stage w s = record { config = s.config; stage = stage; saved = w }

abbrev pub owed_at : InitStage → InitState → Need
owed_at DisableRead s = need.Read Ctlr1
owed_at DisableWrite s = need.Write Ctlr1 (put_bit PE false s.saved)
owed_at BufferRead s = need.Read Ctlr2
owed_at BufferWrite s = need.Write Ctlr2 (put_bit ITBUFEN false s.saved)
owed_at Own s = need.Write Oaddr1 (own_word_of s.config.address)
owed_at Second s = need.Write Oaddr2 (second_word_of s.config.second_address)
owed_at EnableRead s = need.Read Ctlr1
owed_at EnableWrite s = need.Write Ctlr1 (enable_word s.config s.saved)
owed_at Ended s = need.End done

abbrev pub advance_at : InitStage → InitState → ℕ → InitState
advance_at DisableRead s a = saving DisableWrite a s
advance_at DisableWrite s a = to BufferRead s
advance_at BufferRead s a = saving BufferWrite a s
advance_at BufferWrite s a = to Own s
advance_at Own s a = to Second s
advance_at Second s a = to EnableRead s
advance_at EnableRead s a = saving EnableWrite a s
advance_at EnableWrite s a = to Ended s
advance_at Ended s a = to Ended s

unfoldable pub owed : InitState → Need
owed s = owed_at s.stage s

unfoldable pub advance : InitState → ℕ → InitState
advance s a = advance_at s.stage s a

abbrev pub init_machine : Machine
init_machine = record { State = InitState; need = owed; move = advance }

abbrev pub started : SlaveConfig → InitState
started c = record { config = c; stage = DisableRead; saved = 0 }
