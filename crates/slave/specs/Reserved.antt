-- Addresses that UM10204 reserves: the cause of refusal that `init_slave` adds to the Rust's `validate`.
use Rattle.std.specs.Prelude.{Bool, false, ◌&&◌, ◌||◌, ℕ, eqb, leb, Option, Some, None}
use Rattle.slave.specs.declared.config.SlaveAddress.{SlaveAddress}
use Rattle.slave.specs.declared.config.SlaveAddress.TheVariants.{SevenBit, TenBit}
use Rattle.slave.specs.declared.config.SlaveConfig.{SlaveConfig}

-- document 02's ranges
abbrev pub reserved : ℕ → Bool
reserved a = (leb 0x01 a && leb a 0x07) || (leb 0x78 a && leb a 0x7f)

-- of seven bits alone
abbrev pub own_reserved : SlaveAddress → Bool
own_reserved (SevenBit a) = reserved a
own_reserved (TenBit a) = false

-- 0 too, which is the general call
abbrev pub second_reserved : Option ℕ → Bool
second_reserved None = false
second_reserved (Some b) = eqb b 0 || reserved b

unfoldable pub config_reserved : SlaveConfig → Bool
config_reserved c = own_reserved c.address || second_reserved c.second_address
