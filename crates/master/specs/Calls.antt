-- A call as it is lent: what layer 1 makes of it, its refusals in document 01's order, and the causes among them that the port adds.
use Rattle.std.specs.Prelude.{◌≡◌, Bool, true, false, cond, not, ◌||◌, List, [], ◌∷◌, ℕ, ◌+◌, ◌≤◌, eqb, ltb, length, take, drop}
use Rattle.std.proofs.Math.Option.{Option, none, some}
use Rattle.registers.specs.declared.chip.Chip.{Chip}
use Rattle.access.specs.declared.ending.Error.{Error}
use Rattle.access.specs.declared.ending.Error.TheVariants.{Overrun, BufferTooLong, InvalidAddress, TooManyOperations, LengthMismatch, InvalidArgument}
use Rattle.access.specs.Endings.{done, failed}
use Rattle.access.specs.Program.{Blocking, call_of}
use Rattle.access.specs.Record.{Shown, no_more, shown_of}
use Rattle.access.specs.Machine.{shown_from}
use Rattle.operations.specs.declared.operation.Direction.TheVariants as direction
use Rattle.operations.specs.declared.operation.Operation.{Operation}
use Rattle.operations.specs.Operations.{is_read, operations_of, shaped}
use Rattle.operations.specs.Runs.{Span, span, runs_of, written_sum, read_sum}
use Rattle.operations.specs.Search.{fault_from}
use Rattle.master.specs.declared.call.FrameOptions.TheVariants.{FirstAndLastFrame}
use Rattle.master.specs.declared.call.Frame.{Frame}
use Rattle.master.specs.declared.call.Kind.{Kind}
use Rattle.master.specs.declared.call.Kind.TheVariants as kind
use Rattle.master.specs.declared.call.Call.{Call}
use Rattle.master.specs.declared.call.Setting.{Setting}
use Rattle.master.specs.Rust as text
use Rattle.master.specs.Rust.{Parts, the_rust}
use Rattle.master.specs.Ours.{ours, until_berr}
use Rattle.master.specs.Machine.{Shape, master, start}

-- the list of operations, the bytes to write, and how many bytes are lent for reading
pub record Lent : Type 0 where
  pub list : List ℕ
  pub written : List ℕ
  pub room : ℕ

abbrev pub lent_with : List ℕ → List ℕ → ℕ → Lent
lent_with list written room = record { list = list; written = written; room = room }

-- the operations of a list, each write with its part of the written bytes
abbrev pub cut : List Operation → List ℕ → List text.Operation
cut [] bytes = []
cut (o ∷ os) bytes = cond (is_read o.direction) (text.Read o.length ∷ cut os bytes) (text.Write (take o.length bytes) ∷ cut os (drop o.length bytes))

-- ---- layer 1: its text with the Rust's parts, and with ours

abbrev pub function : Parts → Chip → ℕ → Kind → Lent → Blocking (Unit {0})
function p chip address kind.Transaction l = text.blocking_transaction chip p.check p.validate p.start address (cut (operations_of l.list) l.written)
function p chip address kind.WriteRead l = text.blocking_write_read chip p.check p.validate p.start address l.written l.room
function p chip address (kind.Write f) l = text.write_bytes chip p.check p.validate p.start address l.written (text.frame f)
function p chip address (kind.Read f) l = text.blocking_read_timeout chip p.check p.validate p.start address l.room (text.frame f)

-- what is seen of a call, each loop with this number of turns
abbrev pub shown_with : Parts → ℕ → Call → Lent → List ℕ → Shown
shown_with p turns c l answers = shown_of 0 (call_of (function p c.chip c.address c.kind l) (λ _. done) turns) answers

unfoldable pub rust_with : ℕ → Call → Lent → List ℕ → Shown
rust_with turns c l answers = shown_with (the_rust c.chip) turns c l answers

unfoldable pub ours_with : ℕ → Call → Lent → List ℕ → Shown
ours_with turns c l answers = shown_with (ours c.chip) turns c l answers

unfoldable pub until_with : ℕ → Call → Lent → List ℕ → Shown
until_with turns c l answers = shown_with (until_berr c.chip) turns c l answers

-- ---- layer 2

-- the runs of a call, by the list, and how many bytes are lent to write and to read
abbrev pub spans_by : Kind → List ℕ → ℕ → ℕ → List Span
spans_by kind.Transaction list written room = runs_of (operations_of list)
spans_by kind.WriteRead list written room = span direction.Write written ∷ span direction.Read room ∷ []
spans_by (kind.Write f) list written room = span direction.Write written ∷ []
spans_by (kind.Read f) list written room = span direction.Read room ∷ []

abbrev pub spans_of : Kind → Lent → List Span
spans_of x l = spans_by x l.list (length l.written) l.room

abbrev pub frame_for : Kind → Frame
frame_for kind.Transaction = text.frame FirstAndLastFrame
frame_for kind.WriteRead = text.frame FirstAndLastFrame
frame_for (kind.Write f) = text.frame f
frame_for (kind.Read f) = text.frame f

abbrev pub setting_of : Call → Setting
setting_of c = record { chip = c.chip; address = c.address; frame = frame_for c.kind }

abbrev pub shape_by : Call → List ℕ → ℕ → ℕ → Shape
shape_by c list written room = record { setting = setting_of c; runs = spans_by c.kind list written room }

abbrev pub shape_of : Call → Lent → Shape
shape_of c l = shape_by c l.list (length l.written) l.room

-- ---- refusals

-- e if the test holds, and else what comes next
abbrev pub refuse : Bool → Error → Option Error → Option Error
refuse b e next = cond b (some e) next

abbrev pub or_next : Option Error → Option Error → Option Error
or_next (some e) next = some e
or_next none next = next

-- the bytes lent, so many to write and to read, are not those of the list
abbrev pub mismatch : List ℕ → ℕ → ℕ → Bool
mismatch list written room = not (eqb written (written_sum (runs_of (operations_of list)))) || not (eqb room (read_sum (runs_of (operations_of list))))

-- a list that is not whole operations with the direction 0 or 1
abbrev pub misshapen : Kind → List ℕ → Bool
misshapen kind.Transaction list = not (shaped list)
misshapen kind.WriteRead list = false
misshapen (kind.Write f) list = false
misshapen (kind.Read f) list = false

-- the other causes, by the address, the list, and how many bytes are lent to write and to read
abbrev pub cause_at : Kind → ℕ → List ℕ → ℕ → ℕ → Option Error
cause_at kind.Transaction address list written room =
    refuse (ltb 127 address) InvalidAddress
    (refuse (ltb 768 (length list)) TooManyOperations
    (or_next (fault_from 0 list)
    (refuse (mismatch list written room) LengthMismatch none)))
cause_at kind.WriteRead address list written room =
    refuse (eqb room 0) Overrun
    (refuse (ltb 127 address) InvalidAddress
    (refuse (ltb 65535 (written + room)) BufferTooLong none))
cause_at (kind.Write f) address list written room = refuse (ltb 127 address) InvalidAddress (refuse (ltb 65535 written) BufferTooLong none)
cause_at (kind.Read f) address list written room =
    refuse (ltb 127 address) InvalidAddress
    (refuse (eqb room 0) Overrun
    (refuse (ltb 65535 room) BufferTooLong none))

-- the first cause, in document 01's order
abbrev pub refusal_by : Kind → ℕ → List ℕ → ℕ → ℕ → Option Error
refusal_by x address list written room = refuse (misshapen x list) InvalidArgument (cause_at x address list written room)

abbrev pub refusal_at : Kind → ℕ → Lent → Option Error
refusal_at x address l = refusal_by x address l.list (length l.written) l.room

unfoldable pub refusal : Call → Lent → Option Error
refusal c l = refusal_at c.kind c.address l

-- document 01's accepted call
abbrev pub Accepted : Call → Lent → Type 0
Accepted c l = refusal c l ≡ none

-- none of the causes that the port adds: the form of a list (16), its length (13), the bytes lent for it (14), the total (8)
pub record InForm (l : Lent) : Type 0 where
  pub shape : shaped l.list ≡ true
  pub few : length l.list ≤ 768
  pub written : length l.written ≡ written_sum (runs_of (operations_of l.list))
  pub read : l.room ≡ read_sum (runs_of (operations_of l.list))
  pub total : length l.written + l.room ≤ 65535

abbrev pub NoAddedCause : Kind → Lent → Type 0
NoAddedCause kind.Transaction l = InForm l
NoAddedCause kind.WriteRead l = length l.written + l.room ≤ 65535
NoAddedCause (kind.Write f) l = length l.written ≤ 65535
NoAddedCause (kind.Read f) l = l.room ≤ 65535

-- what is seen of a call: a refused one ends before any access, and an accepted one is the machine's
abbrev pub seen_after : Option Error → Call → Lent → List ℕ → Shown
seen_after (some e) c l answers = no_more (some (failed e))
seen_after none c l answers = shown_from (master (shape_of c l)) l.written (start (shape_of c l)) answers

unfoldable pub call_shown : Call → Lent → List ℕ → Shown
call_shown c l answers = seen_after (refusal c l) c l answers
