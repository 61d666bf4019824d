-- What is lent, made of its parts.
use Rattle.std.specs.Prelude.{List, ℕ}
use Rattle.slave.specs.Calls.{SlaveLent}

abbrev pub lent_with : List ℕ → ℕ → SlaveLent
lent_with reply room = record { reply = reply; room = room }
