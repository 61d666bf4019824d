-- The state of `init_slave` in a block.
use Rattle.std.specs.Prelude.{ℕ, Bool, true, false, cond, eqb, Option, Some, None}
use Rattle.block.specs.declared.fields.Fields.{Fields}
use Rattle.block.specs.Fields.{same_fields}
use Rattle.slave.specs.declared.config.SlaveAddress.{SlaveAddress}
use Rattle.slave.specs.declared.config.SlaveAddress.TheVariants.{SevenBit, TenBit}
use Rattle.slave.specs.declared.init.InitStage.{InitStage}
use Rattle.slave.specs.declared.init.InitStage.TheVariants as initStage
use Rattle.slave.specs.declared.init.InitState.{InitState}
use Rattle.images.specs.Numbers.{init_slave_entry, flags_number, flag_at}

abbrev pub init_stage_number : InitStage → ℕ
init_stage_number initStage.DisableRead = 0
init_stage_number initStage.DisableWrite = 1
init_stage_number initStage.BufferRead = 2
init_stage_number initStage.BufferWrite = 3
init_stage_number initStage.Own = 4
init_stage_number initStage.Second = 5
init_stage_number initStage.EnableRead = 6
init_stage_number initStage.EnableWrite = 7
init_stage_number initStage.Ended = 8

abbrev pub init_stage_of : ℕ → InitStage
init_stage_of n = cond (eqb n 0) initStage.DisableRead (cond (eqb n 1) initStage.DisableWrite (cond (eqb n 2) initStage.BufferRead (cond (eqb n 3) initStage.BufferWrite (cond (eqb n 4) initStage.Own (cond (eqb n 5) initStage.Second (cond (eqb n 6) initStage.EnableRead (cond (eqb n 7) initStage.EnableWrite initStage.Ended)))))))

abbrev pub is_ten : SlaveAddress → Bool
is_ten (SevenBit a) = false
is_ten (TenBit a) = true

abbrev pub address_word : SlaveAddress → ℕ
address_word (SevenBit a) = a
address_word (TenBit a) = a

abbrev pub address_of : Bool → ℕ → SlaveAddress
address_of ten a = cond ten (TenBit a) (SevenBit a)

abbrev pub has_second : Option ℕ → Bool
has_second None = false
has_second (Some a) = true

abbrev pub second_byte : Option ℕ → ℕ
second_byte None = 0
second_byte (Some a) = a

abbrev pub second_of : Bool → ℕ → Option ℕ
second_of has a = cond has (Some a) None

-- what a block says of a state
unfoldable pub init_slave_fields : InitState → Fields
init_slave_fields s = record { entry = init_slave_entry; chip = 0; option = 0; stage = init_stage_number s.stage; what = 0; phase = 0; marks = flags_number (is_ten s.config.address) (has_second s.config.second_address) s.config.general_call s.config.clock_stretching; error = 0; address = address_word s.config.address; run = 0; left = 0; place = 0; word = s.saved; divider = 0; rise = 0; value = 0; count = 0; second = second_byte s.config.second_address; mhz = 0; extra = 0 }

-- the state that a block says, if it is the image of one
unfoldable pub init_slave_of : Fields → InitState
init_slave_of f =
    record {
      config =
          record { address = address_of (flag_at 1 f.marks) f.address; second_address = second_of (flag_at 2 f.marks) f.second; general_call = flag_at 4 f.marks; clock_stretching = flag_at 8 f.marks };
      stage = init_stage_of f.stage;
      saved = f.word;
    }

-- the state whose image a block is
unfoldable pub init_slave_in : Fields → Option InitState
init_slave_in f = cond (same_fields (init_slave_fields (init_slave_of f)) f) (Some (init_slave_of f)) None
