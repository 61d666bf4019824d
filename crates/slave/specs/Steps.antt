-- A state of a slave call with what is lent: what it needs, whether it fits, and whether a step is taken.
use Rattle.std.specs.Prelude.{Bool, not, ◌&&◌, ℕ, leb}
use Rattle.access.specs.declared.need.Need.{Need}
use Rattle.access.specs.Machine.{is_end}
use Rattle.slave.specs.declared.state.Setting.{Setting}
use Rattle.slave.specs.declared.state.Move.{Move}
use Rattle.slave.specs.declared.state.State.{State}
use Rattle.slave.specs.Machine.{to, owed_at}
use Rattle.slave.specs.Fits.{fits}

-- a state is its call and where it stands
abbrev pub move_of : State → Move
move_of s = to s.stage s.progress

abbrev pub state_at : Setting → Move → State
state_at g m = record { chip = g.chip; kind = g.kind; stage = m.stage; progress = m.progress }

-- what a step goes by, where so many bytes are lent
abbrev pub setting_in : State → ℕ → Setting
setting_in s size = record { chip = s.chip; kind = s.kind; size = size }

-- begin would accept what is lent, and the state fits it
unfoldable pub fits_lent : State → ℕ → Bool
fits_lent s size = leb size 65535 && fits (setting_in s size) (move_of s)

-- what a state needs
abbrev pub need_of : State → ℕ → Need
need_of s size = owed_at (setting_in s size) s.stage s.progress

-- whether a step is taken: the state fits what is lent, and has not ended
abbrev pub is_open : State → ℕ → Bool
is_open s size = fits_lent s size && not (is_end (need_of s size))
