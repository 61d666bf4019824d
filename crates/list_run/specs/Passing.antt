-- What is known of each place of a list, run by run.
use Rattle.std.specs.Prelude.{ℕ, ◌+◌, ◌*◌, ◌≤◌, ◌<◌, ◌≡◌, Bool, true, false, cond, List, [], ◌∷◌, ltb, length, get_or, drop, Option, None, MatchOption}
use Rattle.operations.specs.declared.operation.Direction.{Direction}
use Rattle.operations.specs.Operations.{is_read, direction_of, operation_of, empty_read, operations_of}
use Rattle.operations.specs.Runs.{Span, span, runs_of, written_in, read_in, written_sum, read_sum, run_from, run_at}
use Rattle.list_run.specs.declared.runs.Place.{Place}

-- whole operations, each with the direction 0 or 1, and no empty read
unfoldable pub fine : List ℕ → Bool
fine [] = true
fine (d ∷ []) = false
fine (d ∷ a ∷ []) = false
fine (d ∷ a ∷ b ∷ l) = cond (ltb 1 d) false (cond (empty_read (operation_of d a b)) false (fine l))

-- the runs from a place on, and the direction of the first
abbrev pub runs_after : List ℕ → ℕ → List Span
runs_after l at = runs_of (operations_of (drop at l))

abbrev pub direction_at : List ℕ → ℕ → Direction
direction_at l at = direction_of (get_or l at 0)

abbrev pub start_place : Place
start_place = record { at = 0; written = 0; read = 0; reading = false; sum = 0 }

-- the bytes of a direction before a place
abbrev pub counted : Direction → Place → ℕ
counted d p = cond (is_read d) p.read p.written

-- behind a run
abbrev pub added_to : Place → Direction → ℕ → ℕ → Place
added_to p d at n = record { at = at; written = p.written + written_in (span d n); read = p.read + read_in (span d n); reading = is_read d; sum = n }

-- a list that is short enough and where its last operation can begin
pub record Listed (l : List ℕ) (last : ℕ) : Type 0 where
  pub whole : last + 3 ≡ length l
  pub few : length l ≤ 768

-- a place in a list
pub record Reached (l : List ℕ) (last : ℕ) (p : Place) : Type 0 where
  pub whole : last + 3 ≡ length l
  pub few : length l ≤ 768
  pub within : p.at ≤ length l
  pub small : p.written + p.read ≤ 65535 * p.at

-- one at which a run begins
pub record Starts (l : List ℕ) (last : ℕ) (p : Place) : Type 0 where
  pub whole : last + 3 ≡ length l
  pub few : length l ≤ 768
  pub here : p.at ≤ last
  pub small : p.written + p.read ≤ 65535 * p.at

-- one of this direction
pub record Opens (l : List ℕ) (last : ℕ) (p : Place) (d : Direction) : Type 0 where
  pub start : Starts l last p
  pub known : get_or l p.at 0 ≤ 1
  pub first : d ≡ direction_at l p.at

-- q is behind the run that begins at p
pub record Next (l : List ℕ) (p q : Place) : Type 0 where
  pub onward : p.at < q.at
  pub within : q.at ≤ length l
  pub small : q.written + q.read ≤ 65535 * q.at
  pub reading : q.reading ≡ is_read (direction_at l p.at)
  pub written : q.written ≡ p.written + written_in (span (direction_at l p.at) q.sum)
  pub read : q.read ≡ p.read + read_in (span (direction_at l p.at) q.sum)
  pub sound : fine (drop q.at l) ≡ fine (drop p.at l)
  pub runs : fine (drop p.at l) ≡ true → runs_after l p.at ≡ span (direction_at l p.at) q.sum ∷ runs_after l q.at

-- none where what is left is not fine
abbrev pub Passes : List ℕ → Place → Option Place → Type 0
Passes l p q = MatchOption q (fine (drop p.at l) ≡ false) (Next l p)

-- q is behind the operation at p: what is left has the same sums
pub record NextOne (l : List ℕ) (p q : Place) : Type 0 where
  pub onward : p.at < q.at
  pub within : q.at ≤ length l
  pub small : q.written + q.read ≤ 65535 * q.at
  pub sound : fine (drop q.at l) ≡ fine (drop p.at l)
  pub written : q.written + written_sum (runs_after l q.at) ≡ p.written + written_sum (runs_after l p.at)
  pub read : q.read + read_sum (runs_after l q.at) ≡ p.read + read_sum (runs_after l p.at)

abbrev pub PassesOne : List ℕ → Place → Option Place → Type 0
PassesOne l p q = MatchOption q (fine (drop p.at l) ≡ false) (NextOne l p)

-- of the run of number k so many runs are ahead
pub record Ahead (l : List ℕ) (last k ahead : ℕ) (p : Place) : Type 0 where
  pub place : Reached l last p
  pub sound : fine (drop p.at l) ≡ fine l
  pub run : fine l ≡ true → run_from p.written p.read (runs_after l p.at) ahead ≡ run_at (runs_of (operations_of l)) k
  pub written : fine l ≡ true → p.written + written_sum (runs_after l p.at) ≡ written_sum (runs_of (operations_of l))
  pub read : fine l ≡ true → p.read + read_sum (runs_after l p.at) ≡ read_sum (runs_of (operations_of l))

abbrev pub Skips : List ℕ → ℕ → ℕ → Option Place → Type 0
Skips l last k p = MatchOption p (fine l ≡ true → run_at (runs_of (operations_of l)) k ≡ None) (Ahead l last k 0)

-- from p to q, which is as far as the sums have come
pub record Between (l : List ℕ) (last : ℕ) (p q : Place) : Type 0 where
  pub place : Reached l last q
  pub sound : fine (drop q.at l) ≡ fine (drop p.at l)
  pub written : fine (drop p.at l) ≡ true → q.written + written_sum (runs_after l q.at) ≡ p.written + written_sum (runs_after l p.at)
  pub read : fine (drop p.at l) ≡ true → q.read + read_sum (runs_after l q.at) ≡ p.read + read_sum (runs_after l p.at)

-- all that follows p is good, and q has the sums
pub record Summed (l : List ℕ) (p q : Place) : Type 0 where
  pub sound : fine (drop p.at l) ≡ true
  pub small : q.written + q.read ≤ 65535 * 768
  pub written : q.written ≡ p.written + written_sum (runs_after l p.at)
  pub read : q.read ≡ p.read + read_sum (runs_after l p.at)

abbrev pub Rests : List ℕ → Place → Option Place → Type 0
Rests l p q = MatchOption q (fine (drop p.at l) ≡ false) (Summed l p)
