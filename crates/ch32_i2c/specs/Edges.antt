-- The starred edges of document 01: one table over all crates.
use Rattle.std.specs.Prelude.{List, ◌++◌}
use Rattle.access.specs.Edges.{Edge}
use Rattle.timing.specs.Edges.{timing_edges}
use Rattle.errors.specs.Edges.{status_edges}
use Rattle.slave.specs.Edges.{address_edges}

abbrev pub starred_edges : List Edge
starred_edges = timing_edges ++ address_edges ++ status_edges
