-- A call as a C program makes it: begin, and then a step with each answer.
use Rattle.std.specs.Prelude.{◌≡◌, Bool, true, false, cond, not, List, [], ◌∷◌, ◌++◌, map, ℕ, zero, suc, length, set}
use Rattle.std.proofs.Math.Option.{Option, none, some}
use Rattle.registers.specs.declared.register.Register.{Register}
use Rattle.registers.specs.declared.register.Register.TheVariants.{Datar}
use Rattle.access.specs.declared.ending.Error.TheVariants.{InvalidState}
use Rattle.access.specs.declared.next.Next.{Next}
use Rattle.access.specs.declared.next.Next.TheVariants as next
use Rattle.access.specs.Endings.{Ending, failed, done}
use Rattle.access.specs.Program.{Access, read, write, send, clock}
use Rattle.access.specs.Record.{Event, Arrival, Shown, Struck, is_data, struck, EqualUnless}
use Rattle.access.specs.Record as layer1
use Rattle.call.specs.Left.{Left, refused_with}

-- what begin leaves of a block and the bytes read, and what a step with an answer leaves; all else is lent as at begin
pub record Entry : Type 0 where
  pub begin : List ℕ → List ℕ → Left
  pub step : List ℕ → List ℕ → ℕ → Left

-- what is left now, and after each answer
abbrev pub lefts_from : Entry → Left → List ℕ → List Left
lefts_from c h [] = h ∷ []
lefts_from c h (a ∷ answers) = h ∷ lefts_from c (c.step h.block h.read a) answers

-- what is left after begin and after each answer
abbrev pub lefts : Entry → List ℕ → List ℕ → List ℕ → List Left
lefts c block bytes answers = lefts_from c (c.begin block bytes) answers

-- what is handed out, once by begin and once for each answer
abbrev pub handed_out : List Left → List Next
handed_out hs = map (λ (h : Left). h.next) hs

-- what is left in the end
abbrev pub last_from : Entry → Left → List ℕ → Left
last_from c h [] = h
last_from c h (a ∷ answers) = last_from c (c.step h.block h.read a) answers

-- ---- the same of what layer 1 shows

-- an access as C sees it: a data byte goes out by a write of DATAR
abbrev pub next_of : Access → Next
next_of (read r) = next.Read r
next_of (write r v) = next.Write r v
next_of (send b) = next.Write Datar b
next_of clock = next.Clock

abbrev pub end_of : Option Ending → List Next
end_of none = []
end_of (some e) = next.End e ∷ []

-- the accesses in order, and the end
abbrev pub nexts_of : Shown → List Next
nexts_of s = map (λ (e : Event). next_of e.what) s.events ++ end_of s.end

-- the first so many of a list, and 15 where it has no more
abbrev pub in_turn : ℕ → List Next → List Next
in_turn zero ns = []
in_turn (suc k) [] = next.End (failed InvalidState) ∷ in_turn k []
in_turn (suc k) (n ∷ ns) = n ∷ in_turn k ns

-- the arrived bytes over what was there
abbrev pub stored : List Arrival → List ℕ → List ℕ
stored [] bytes = bytes
stored (x ∷ xs) bytes = stored xs (set bytes x.place x.byte)

-- what is handed out is the end
abbrev pub is_end : Next → Bool
is_end (next.Read r) = false
is_end (next.Write r v) = false
is_end next.Clock = false
is_end (next.End e) = true

-- behind an end every step is refused with 15, and changes nothing
abbrev pub Still : Left → List Left → Type 0
Still h [] = Unit {0}
Still h (k ∷ rest) = (is_end h.next ≡ true → k ≡ refused_with InvalidState h.block h.read) × Still k rest

abbrev pub EndsStill : List Left → Type 0
EndsStill [] = Unit {0}
EndsStill (h ∷ rest) = Still h rest

-- a call makes the accesses of what is shown, and its end; behind the end every step is refused with 15 and changes nothing; the bytes read
-- are the arrived ones over what was there
pub record Makes (c : Entry) (block bytes answers : List ℕ) (s : Shown) : Type 0 where
  pub accesses : handed_out (lefts c block bytes answers) ≡ in_turn (suc (length answers)) (nexts_of s)
  pub still : EndsStill (lefts c block bytes answers)
  pub read : (last_from c (c.begin block bytes) answers).read ≡ stored s.arrivals bytes

-- begin of an accepted call: it hands out an access and leaves a block that a step takes, or, if there is nothing to do, it is done at once
pub record Begins (c : Entry) (takes : List ℕ → List ℕ → Bool) (nothing : Bool) (block bytes : List ℕ) : Type 0 where
  pub access : nothing ≡ false → is_end (c.begin block bytes).next ≡ false
  pub done : nothing ≡ true → (c.begin block bytes).next ≡ next.End done
  pub taken : takes (c.begin block bytes).block (c.begin block bytes).read ≡ not nothing
  pub read : (c.begin block bytes).read ≡ bytes

-- ---- records

-- an access as C sees it, with its answer, once it is given; a write has none
pub record Seen : Type 0 where
  pub next : Next
  pub answer : Option ℕ

abbrev pub answer_of : Next → ℕ → Option ℕ
answer_of (next.Read r) a = some a
answer_of (next.Write r v) a = none
answer_of next.Clock a = some a
answer_of (next.End e) a = none

-- document 01's record, built from what is handed out and the answers: all accesses before the end, the owed one last
abbrev pub record_of : List Next → List ℕ → List Seen
record_of [] answers = []
record_of (n ∷ ns) [] = cond (is_end n) [] (record { next = n; answer = none } ∷ [])
record_of (n ∷ ns) (a ∷ answers) = cond (is_end n) [] (record { next = n; answer = answer_of n a } ∷ record_of ns answers)

-- document 01's end: the first
abbrev pub end_in : List Next → Option Ending
end_in [] = none
end_in (next.Read r ∷ ns) = end_in ns
end_in (next.Write r v ∷ ns) = end_in ns
end_in (next.Clock ∷ ns) = end_in ns
end_in (next.End e ∷ ns) = some e

-- layer 1's record as C sees it
abbrev pub seen_of : Event → Seen
seen_of e = record { next = next_of e.what; answer = e.answer }

abbrev pub record_in : Shown → List Seen
record_in s = map seen_of s.events

-- ---- struck records

-- striking out removes a payload value and keeps the access: a read or a write, with its register
pub data StruckSeen : Type 0 where
  whole : Seen → StruckSeen
  read_of : Register → StruckSeen
  write_of : Register → StruckSeen

-- an access without its value; only reads and writes have one that could be payload
abbrev pub struck_out : Next → Option ℕ → StruckSeen
struck_out (next.Read r) a = read_of r
struck_out (next.Write r v) a = write_of r
struck_out next.Clock a = whole (record { next = next.Clock; answer = a })
struck_out (next.End e) a = whole (record { next = next.End e; answer = a })

-- layer 1 says what is payload: a data byte sent, and an answer to a read of DATAR
abbrev pub strike_as : Access → Seen → StruckSeen
strike_as (read r) x = cond (is_data r) (struck_out x.next x.answer) (whole x)
strike_as (write r v) x = whole x
strike_as (send b) x = struck_out x.next x.answer
strike_as clock x = whole x

-- each access by layer 1's at its place; one that layer 1 does not have stays whole
abbrev pub struck_by : List Event → List Seen → List StruckSeen
struck_by [] xs = map whole xs
struck_by (e ∷ es) [] = []
struck_by (e ∷ es) (x ∷ xs) = strike_as e.what x ∷ struck_by es xs

-- layer 1's own struck record as C sees it
abbrev pub as_seen : Struck → StruckSeen
as_seen (layer1.whole e) = whole (seen_of e)
as_seen layer1.sent = write_of Datar
as_seen layer1.received = read_of Datar

abbrev pub struck_in : Shown → List StruckSeen
struck_in s = map as_seen (struck s)

-- ---- payload reads

-- document 01's payload read
abbrev pub is_payload_read : Next → Bool
is_payload_read (next.Read r) = is_data r
is_payload_read (next.Write r v) = false
is_payload_read next.Clock = false
is_payload_read (next.End e) = false

-- two lists of answers, equally long, that may differ only where a call with this record owes a payload read
abbrev pub DifferAtPayload : List Seen → List ℕ → List ℕ → Type 0
DifferAtPayload rs [] [] = Unit {0}
DifferAtPayload rs [] (b ∷ ys) = ⊥
DifferAtPayload rs (a ∷ xs) [] = ⊥
DifferAtPayload [] (a ∷ xs) (b ∷ ys) = (a ≡ b) × DifferAtPayload [] xs ys
DifferAtPayload (r ∷ rs) (a ∷ xs) (b ∷ ys) = EqualUnless (is_payload_read r.next) a b × DifferAtPayload rs xs ys

-- the answers at payload reads
abbrev pub given : Option ℕ → List ℕ → List ℕ
given none rest = rest
given (some a) rest = a ∷ rest

abbrev pub payload_in : List Seen → List ℕ
payload_in [] = []
payload_in (r ∷ rs) = cond (is_payload_read r.next) (given r.answer (payload_in rs)) (payload_in rs)
