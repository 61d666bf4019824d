-- Every starred edge is as document 01 says: one computation over the table.
-- Assumes nothing.
use mathlib.Core.Path.{refl}
use Rattle.registers.specs.Word.{has_bit}
use Rattle.registers.specs.Flags.{error_flags}
use Rattle.registers.specs.Addresses.{own_ten}
use Rattle.access.specs.Edges.{EdgesHold}
use Rattle.timing.specs.Rust.{timing}
use Rattle.errors.specs.Classes.{error_of}
use Rattle.slave.specs.Reserved.{config_reserved}
use Rattle.slave.specs.Init.{config_fault}
use Rattle.ch32_i2c.specs.Edges.{starred_edges}

pub starred_edges_hold : EdgesHold starred_edges
unfolding timing error_of has_bit error_flags config_fault config_reserved own_ten
starred_edges_hold = refl
