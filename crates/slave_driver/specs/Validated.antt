-- What `validate` answers: the first cause of refusal, or none.
use Rattle.std.specs.Prelude.{Result, Ok, Err}
use Rattle.std.proofs.Math.Option.{Option, none, some}
use Rattle.access.specs.declared.ending.Error.{Error}
use Rattle.slave.specs.declared.config.SlaveConfig.{SlaveConfig}
use Rattle.slave.specs.Init.{init_refusal}

abbrev pub answering : Option Error → Result (Unit {0}) Error
answering none = Ok tt
answering (some e) = Err e

abbrev pub validated : SlaveConfig → Result (Unit {0}) Error
validated c = answering (init_refusal c)
