-- The slave's rows of document 01's starred edges, and the edges of document 02's reserved addresses.
use Rattle.std.specs.Prelude as prelude
use Rattle.std.specs.Prelude.{Bool, true, false, List, [], ◌∷◌, ℕ, Some, None}
use Rattle.std.proofs.Math.Option.{Option, none, some}
use Rattle.access.specs.declared.ending.Error.{Error}
use Rattle.access.specs.Endings.{error_number}
use Rattle.access.specs.Edges.{Edge}
use Rattle.slave.specs.declared.config.SlaveAddress.{SlaveAddress}
use Rattle.slave.specs.declared.config.SlaveAddress.TheVariants.{SevenBit, TenBit}
use Rattle.slave.specs.declared.config.SlaveConfig.{SlaveConfig}
use Rattle.slave.specs.Init.{init_refusal, own_word_of}

-- 0 for an accepted configuration, and else the number of the refusal
abbrev refusal_number : Option Error → ℕ
refusal_number none = 0
refusal_number (some e) = error_number e

abbrev configured : SlaveAddress → prelude.Option ℕ → Bool → SlaveConfig
configured own second general = record { address = own; second_address = second; general_call = general; clock_stretching = true }

abbrev row : SlaveAddress → prelude.Option ℕ → Bool → ℕ → Edge
row own second general expected = record { given = refusal_number (init_refusal (configured own second general)) ∷ []; expected = expected ∷ [] }

-- own address 0 with general call is accepted, without it 9; ten-bit 0x3ff gives OADDR1 0xc3ff
abbrev pub address_edges : List Edge
address_edges =
    row (SevenBit 0) None true 0
    ∷ row (SevenBit 0) None false 9
    ∷ record { given = own_word_of (TenBit 0x3ff) ∷ []; expected = 0xc3ff ∷ [] }
    ∷ []

-- document 02's reserved addresses at their ends; 9 before 17; ten bits are never reserved
abbrev pub reserved_edges : List Edge
reserved_edges =
    row (SevenBit 0x01) None false 17
    ∷ row (SevenBit 0x07) None false 17
    ∷ row (SevenBit 0x08) None false 0
    ∷ row (SevenBit 0x77) None false 0
    ∷ row (SevenBit 0x78) None true 17
    ∷ row (SevenBit 0x7f) None false 17
    ∷ row (SevenBit 0x80) None false 9
    ∷ row (SevenBit 0x42) (Some 0) true 17
    ∷ row (SevenBit 0x42) (Some 0x07) false 17
    ∷ row (SevenBit 0x42) (Some 0x08) false 0
    ∷ row (SevenBit 0x42) (Some 0x77) false 0
    ∷ row (SevenBit 0x42) (Some 0x78) false 17
    ∷ row (SevenBit 0) (Some 0x08) true 0
    ∷ row (SevenBit 0) (Some 0) false 9
    ∷ row (SevenBit 0x78) (Some 0x80) false 9
    ∷ row (TenBit 0x003) None false 0
    ∷ row (TenBit 0x3ff) None false 0
    ∷ row (TenBit 0x003) (Some 0) false 9
    ∷ []
