-- Begin of a transfer on its block, by what is lent: the list, and how many bytes to write and to read.
use Rattle.std.specs.Prelude.{◌≡◌, List, ℕ, Result, Ok, Err}
use Rattle.std.proofs.Math.Option.{Option, none, some}
use Rattle.access.specs.declared.ending.Error.{Error}
use Rattle.access.specs.declared.need.Need.{Need}
use Rattle.master.specs.declared.call.Call.{Call}
use Rattle.master.specs.declared.state.Move.{Move}
use Rattle.block.specs.Bytes32.{bytes_of}
use Rattle.images.specs.MasterImage.{master_fields}
use Rattle.master.specs.Machine.{owed_at, start}
use Rattle.master.specs.Steps.{state_at}
use Rattle.master.specs.Calls.{setting_of, refusal_by, shape_by}

-- a refusal writes nothing, and tells its cause; without one the call stands where m says, and what is asked for is what is owed there
pub record RefusesWith (e : Error) (before after : List ℕ) (asked : Result Need Error) : Type 0 where
  pub block : after ≡ before
  pub cause : asked ≡ Err e

pub record StartsAt (c : Call) (m : Move) (after : List ℕ) (asked : Result Need Error) : Type 0 where
  pub block : after ≡ bytes_of (master_fields (state_at c m))
  pub owed : asked ≡ Ok (owed_at (setting_of c) m.stage m.progress)

abbrev pub Begins : Option Error → Call → Move → List ℕ → List ℕ → Result Need Error → Type 0
Begins (some e) c m before after asked = RefusesWith e before after asked
Begins none c m before after asked = StartsAt c m after asked

-- THE CONTRACT of begin
unfoldable pub CallBegins : Call → List ℕ → ℕ → ℕ → List ℕ → List ℕ → Result Need Error → Type 0
CallBegins c list written room before after asked = Begins (refusal_by c.kind c.address list written room) c (start (shape_by c list written room)) before after asked
