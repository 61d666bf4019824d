-- A call played with a list of answers: what is printed.
use Rattle.std.specs.Prelude.{ℕ, zero, suc, ◌+◌, Bool, true, false, cond, List, [], ◌++◌, ltb, length, get_or, take, Ok, Err}
use Rattle.access.specs.declared.next.Next.{Next}
use Rattle.access.specs.declared.next.Next.TheVariants.{Read, Write, Clock, End}
use Rattle.access.specs.Endings.{Ending, ending_error}
use Rattle.access.specs.Record.{is_data}
use Rattle.call.specs.Left.{Left}
use Rattle.ch32_i2c.specs.Transfer.{transaction_step}
use Rattle.bench_text.specs.Shown.{read_text, write_text, clock_text, arrived_text, end_text, open_text}

-- how many answers an access takes, and how many bytes arrive with it
abbrev pub asked : Next → ℕ
asked (Read r) = 1
asked (Write r v) = 0
asked Clock = 1
asked (End e) = 0

abbrev pub arriving : Next → ℕ
arriving (Read r) = cond (is_data r) 1 0
arriving (Write r v) = 0
arriving Clock = 0
arriving (End e) = 0

abbrev pub is_end : Next → Bool
is_end (Read r) = false
is_end (Write r v) = false
is_end Clock = false
is_end (End e) = true

-- an access with its answer
abbrev pub access_text : Next → ℕ → List ℕ
access_text (Read r) a = read_text r a
access_text (Write r v) a = write_text r v
access_text Clock a = clock_text a
access_text (End e) a = []

-- the flags of an error
abbrev pub flags_of : Ending → ℕ
flags_of (Ok o) = 0
flags_of (Err f) = f.flags

-- a call that has not ended is open
abbrev pub ending_text : Next → ℕ → List ℕ
ending_text (Read r) used = open_text used
ending_text (Write r v) used = open_text used
ending_text Clock used = open_text used
ending_text (End e) used = end_text (ending_error e) used (flags_of e)

abbrev pub finish_text : Next → List ℕ → ℕ → List ℕ
finish_text n bytes used = arrived_text bytes ++ ending_text n used

-- from what was left on, with the answers used and the bytes arrived; at most so many accesses
unfoldable pub play_from : ℕ → List ℕ → List ℕ → List ℕ → Left → ℕ → ℕ → List ℕ
play_from zero list written answers h used arrived = finish_text h.next (take arrived h.read) used
play_from (suc turns) list written answers h used arrived =
    cond (is_end h.next) (finish_text h.next (take arrived h.read) used)
    (cond (ltb (length answers) (used + asked h.next)) (finish_text h.next (take arrived h.read) used)
    (access_text h.next (get_or answers used 0)
    ++ play_from turns list written answers (transaction_step h.block list written h.read (get_or answers used 0)) (used + asked h.next) (arrived + arriving h.next)))

-- more accesses than a call makes on 4,096 answers (`few`, `used` and `given` of Claims.antt)
abbrev pub most_turns : ℕ
most_turns = 16384
