-- A state of a master call with what is lent: what it needs, whether it fits, and whether a step is taken.
use Rattle.std.specs.Prelude.{Bool, true, false, not, ◌&&◌, List, ℕ, length}
use Rattle.std.proofs.Math.Option.{Option, none, some}
use Rattle.access.specs.declared.ending.Error.{Error}
use Rattle.access.specs.declared.need.Need.{Need}
use Rattle.access.specs.Machine.{is_end}
use Rattle.master.specs.declared.call.Call.{Call}
use Rattle.master.specs.declared.state.Move.{Move}
use Rattle.master.specs.declared.state.State.{State}
use Rattle.master.specs.Machine.{to, owed_at}
use Rattle.master.specs.Fits.{fits}
use Rattle.master.specs.Calls.{Lent, setting_of, shape_by, refusal_by}

-- a state is its call and where it stands
abbrev pub move_of : State → Move
move_of s = to s.stage s.progress

abbrev pub state_at : Call → Move → State
state_at c m = record { call = c; stage = m.stage; progress = m.progress }

abbrev pub is_none : Option Error → Bool
is_none none = true
is_none (some e) = false

-- begin would accept what is lent, and the state fits it
unfoldable pub fits_lent : State → List ℕ → ℕ → ℕ → Bool
fits_lent s list written room = is_none (refusal_by s.call.kind s.call.address list written room) && fits (shape_by s.call list written room) (move_of s)

-- what a state needs
abbrev pub need_of : State → Need
need_of s = owed_at (setting_of s.call) s.stage s.progress

-- whether a step is taken: the state fits what is lent, and has not ended
abbrev pub is_open : State → Lent → Bool
is_open s l = fits_lent s l.list (length l.written) l.room && not (is_end (need_of s))
