-- The starred edge of document 01 on status words: a STAR1 of 0x0600 is 2; with it both flags are told. And flags that fit an error, or do not.
use Rattle.std.specs.Prelude.{ℕ, Bool, true, false, cond, List, [], ◌∷◌, map, Option, Some, None}
use Rattle.registers.specs.declared.chip.Chip.{Chip}
use Rattle.registers.specs.Chips.{chips}
use Rattle.access.specs.declared.ending.Failure.{Failure}
use Rattle.access.specs.declared.ending.Error.{Error}
use Rattle.access.specs.declared.ending.Error.TheVariants.{Bus, Arbitration, Nack, Timeout, Overrun, InvalidState}
use Rattle.access.specs.Endings.{error_number, flagged}
use Rattle.access.specs.Edges.{Edge}
use Rattle.errors.specs.Classes.{error_of}
use Rattle.errors.specs.Met.{is_met}

abbrev pub answered : Option Failure → List ℕ
answered None = 0 ∷ []
answered (Some f) = error_number f.error ∷ f.flags ∷ []

abbrev pub status_edges : List Edge
status_edges = map (λ (chip : Chip). record { given = answered (error_of chip true 0x0600); expected = 2 ∷ 0x0600 ∷ [] }) chips

-- by i2c_v3 and ch32v4, as a master or not: 1 if the flags fit
abbrev pub fit : Bool → Bool → Bool → Error → ℕ → ℕ → Edge
fit v3 v4 nack e w n = record { given = cond (is_met (record { i2c_v3 = v3; ch32v4 = v4 }) nack (flagged e w)) 1 0 ∷ []; expected = n ∷ [] }

abbrev pub flag_edges : List Edge
flag_edges =
    -- AF is a master's; the first class decides
    fit false false true Nack 0x0400 1 ∷ fit false false false Nack 0x0400 0
    ∷ fit false false true Arbitration 0x0600 1 ∷ fit false false true Nack 0x0600 0
    -- TIMEOUT and BERR by the chip, and BERR directly behind ARLO
    ∷ fit true false true Timeout 0x4000 1 ∷ fit false false true Timeout 0x4000 0
    ∷ fit false true true Bus 0x0100 1 ∷ fit true false true Bus 0x0100 0 ∷ fit true true false Overrun 0x0900 0 ∷ fit true true false Bus 0x0900 1
    ∷ fit true true true Bus 0x5d00 1 ∷ fit true true true Arbitration 0x5f00 1 ∷ fit true false true Nack 0x0500 1 ∷ fit true true true Nack 0x0500 0
    -- without flags a late clock, and a master's lost START
    ∷ fit false false true Timeout 0 1 ∷ fit false false false Timeout 0 1 ∷ fit false false true Arbitration 0 1 ∷ fit false false false Arbitration 0 0
    -- no other bits, and no refusal
    ∷ fit false false true Overrun 0x0800 1 ∷ fit false false true Overrun 0x0801 0 ∷ fit false false true Overrun 0 0 ∷ fit true true true InvalidState 0 0 ∷ []
