-- Which states fit what is lent: those whose stage, count and ending a call of the kind can have. The word last read may be any.
use Rattle.std.specs.Prelude.{Bool, true, false, not, ◌&&◌, ◌||◌, ℕ, suc, pred, eqb, leb, ltb, Ok, Err}
use Rattle.access.specs.Endings.{Ending, is_done}
use Rattle.errors.specs.Met.{has_failed}
use Rattle.slave.specs.declared.stage.StopfFor.{StopfFor}
use Rattle.slave.specs.declared.stage.StopfFor.TheVariants as stopf
use Rattle.slave.specs.declared.stage.Stage.{Stage}
use Rattle.slave.specs.declared.stage.Stage.TheVariants.{ClearStopf, Stale, Arm, Poll, Match, Receive, Send, ClearAf, Errors, Abort, Ended}
use Rattle.slave.specs.declared.state.Kind.{Kind}
use Rattle.slave.specs.declared.state.Kind.TheVariants.{Listen, RespondToWrite, RespondToRead}
use Rattle.slave.specs.declared.state.Setting.{Setting}
use Rattle.slave.specs.declared.state.Progress.{Progress}
use Rattle.slave.specs.declared.state.Move.{Move}
use Rattle.slave.specs.Machine.{leftover}

abbrev pub is_listen : Kind → Bool
is_listen Listen = true
is_listen RespondToWrite = false
is_listen RespondToRead = false

abbrev pub is_respond_to_write : Kind → Bool
is_respond_to_write Listen = false
is_respond_to_write RespondToWrite = true
is_respond_to_write RespondToRead = false

abbrev pub is_respond_to_read : Kind → Bool
is_respond_to_read Listen = false
is_respond_to_read RespondToWrite = false
is_respond_to_read RespondToRead = true

-- the count is at most the buffer's length, or one more than the data's
abbrev pub limit : Kind → ℕ → ℕ
limit Listen size = 0
limit RespondToWrite size = size
limit RespondToRead size = suc size

-- the bytes left over with one taken off the count or none
abbrev pub leaves_over : ℕ → ℕ → ℕ → Bool
leaves_over size count v = eqb v (leftover size count) || eqb v (leftover size (pred count))

-- what a call can return: a command, the bytes stored, or the bytes left over twice. AF takes one off for the second alone, so that the first is
-- the same or has none taken off
abbrev pub can_return : Kind → ℕ → ℕ → ℕ → ℕ → Bool
can_return Listen size count v x = ltb v 12288 && eqb x 0
can_return RespondToWrite size count v x = eqb v count && eqb x 0
can_return RespondToRead size count v x = leaves_over size count x && (eqb v x || eqb v (leftover size count))

abbrev pub returns_in : Kind → ℕ → ℕ → Ending → Bool
returns_in x size count (Ok o) = can_return x size count o.value o.second
returns_in x size count (Err f) = false

module _ (g : Setting) where
  abbrev pub counts : Progress → Bool
  counts d = leb d.count (limit g.kind g.size)

  -- no end is known yet
  abbrev pub runs : Bool → Progress → Bool
  runs b d = counts d && (is_done d.ending && b)

  abbrev pub returns : Progress → Bool
  returns d = returns_in g.kind g.size d.count d.ending

  -- what is to be returned is known
  abbrev pub closes : Bool → Progress → Bool
  closes b d = counts d && (returns d && b)

  abbrev pub fits_stopf : StopfFor → Progress → Bool
  fits_stopf stopf.Listen d = runs (is_listen g.kind) d
  fits_stopf stopf.End d = closes (not (is_listen g.kind)) d

  abbrev pub aborts : Progress → Bool
  aborts d = counts d && has_failed g.chip false d.ending

  abbrev pub is_over : Progress → Bool
  is_over d = counts d && (has_failed g.chip false d.ending || returns d)

  abbrev pub fits_at : Stage → Progress → Bool
  fits_at (ClearStopf f st) d = fits_stopf f d
  fits_at (Stale st) d = runs (is_listen g.kind) d
  fits_at (Arm st) d = runs (is_listen g.kind) d
  fits_at Poll d = runs true d
  fits_at (Match st) d = runs (is_listen g.kind) d
  fits_at Receive d = runs (is_respond_to_write g.kind) d
  fits_at Send d = runs (is_respond_to_read g.kind) d
  fits_at (ClearAf st) d = closes (is_respond_to_read g.kind) d
  fits_at (Errors st) d = runs true d
  fits_at (Abort st) d = aborts d
  fits_at Ended d = is_over d

  unfoldable pub fits : Move → Bool
  fits m = fits_at m.stage m.progress
