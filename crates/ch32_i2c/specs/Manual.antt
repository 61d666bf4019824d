-- What the manual fixes of what is written: address words and clock settings, as document 01 has them.
use Rattle.std.specs.Prelude.{◌≡◌, cond, ◌&&◌, List, [], ◌∷◌, ℕ, ◌+◌, ◌*◌, ◌/◌, ◌%◌, eqb}
use Rattle.registers.specs.declared.chip.Chip.{Chip}
use Rattle.registers.specs.declared.register.Register.{Register}
use Rattle.registers.specs.declared.register.Register.TheVariants.{Ctlr1, Ctlr2, Oaddr1, Oaddr2, Datar, Star1, Star2, Ckcfgr, Rtr}
use Rattle.registers.specs.Bits.{DUTY, F_S}
use Rattle.registers.specs.Fields.{FREQ, TRISE, CCR}
use Rattle.registers.specs.Word.{has_bit, field_of}
use Rattle.access.specs.declared.next.Next.{Next}
use Rattle.access.specs.declared.next.Next.TheVariants as next
use Rattle.timing.specs.declared.settings.Duty.{Duty}
use Rattle.timing.specs.Document.{Least, SlowEnough, fast, mhz, is16_9}
use Rattle.ch32_i2c.specs.Fed.{StruckSeen, whole, read_of, write_of}

-- the words that a call may write to each register
abbrev pub Rule : Type 1
Rule = Register → ℕ → Type 0

abbrev pub Written : Rule → Next → Type 0
Written rule (next.Read r) = Unit {0}
Written rule (next.Write r v) = rule r v
Written rule next.Clock = Unit {0}
Written rule (next.End e) = Unit {0}

-- every word of a struck record keeps the rule: every word that is no payload
abbrev pub Keeps : Rule → List StruckSeen → Type 0
Keeps rule [] = Unit {0}
Keeps rule (whole x ∷ rest) = Written rule x.next × Keeps rule rest
Keeps rule (read_of r ∷ rest) = Keeps rule rest
Keeps rule (write_of r ∷ rest) = Keeps rule rest

-- any words
abbrev pub free : Rule
free r v = Unit {0}

-- ---- transfers: what DATAR takes beside payload is the address times 2, plus 1 for a read

pub data AddressWord (a : ℕ) : ℕ → Type 0 where
  to_write : AddressWord a (2 * a)
  to_read : AddressWord a (2 * a + 1)

abbrev pub addressing : ℕ → Rule
addressing a Ctlr1 v = Unit {0}
addressing a Ctlr2 v = Unit {0}
addressing a Oaddr1 v = Unit {0}
addressing a Oaddr2 v = Unit {0}
addressing a Datar v = AddressWord a v
addressing a Star1 v = Unit {0}
addressing a Star2 v = Unit {0}
addressing a Ckcfgr v = Unit {0}
addressing a Rtr v = Unit {0}

-- ---- init_slave: "OADDR1 is 0x4000 + 2a for seven bits, 0xc000 + a for ten; OADDR2 is 2a + 1, or 0 for none"

abbrev pub owning : ℕ → ℕ → ℕ → ℕ → Rule
owning ten a has second Ctlr1 v = Unit {0}
owning ten a has second Ctlr2 v = Unit {0}
owning ten a has second Oaddr1 v = v ≡ cond (eqb ten 1) (0xc000 + a) (0x4000 + 2 * a)
owning ten a has second Oaddr2 v = v ≡ cond (eqb has 1) (2 * second + 1) 0
owning ten a has second Datar v = Unit {0}
owning ten a has second Star1 v = Unit {0}
owning ten a has second Star2 v = Unit {0}
owning ten a has second Ckcfgr v = Unit {0}
owning ten a has second Rtr v = Unit {0}

-- ---- init: the LEAST divider that reaches the input clock; MHz and rise, cut to their six bits

module _ (chip : Chip) (input frequency : ℕ) (duty : Duty) where
  pub record ClockWord (v : ℕ) : Type 0 where
    pub divider : Least (SlowEnough chip input frequency duty) (field_of CCR v)
    pub speed : has_bit F_S v ≡ fast chip input frequency duty
    pub duty_bit : has_bit DUTY v ≡ (fast chip input frequency duty && is16_9 duty)

  -- "Rise is MHz + 1, or fast MHz × 300 / 1000 rounded down, plus 1."
  abbrev pub rise : ℕ
  rise = cond (fast chip input frequency duty) (mhz chip input frequency duty * 300 / 1000 + 1) (mhz chip input frequency duty + 1)

  abbrev pub clocking : Rule
  clocking Ctlr1 v = Unit {0}
  clocking Ctlr2 v = field_of FREQ v ≡ mhz chip input frequency duty % 64
  clocking Oaddr1 v = Unit {0}
  clocking Oaddr2 v = Unit {0}
  clocking Datar v = Unit {0}
  clocking Star1 v = Unit {0}
  clocking Star2 v = Unit {0}
  clocking Ckcfgr v = ClockWord v
  clocking Rtr v = field_of TRISE v ≡ rise % 64
