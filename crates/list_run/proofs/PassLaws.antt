-- What holds along a run, at the place behind it, and where the runs are passed one by one.
-- Assumes nothing.
use Prim.Native.Nat.{ℕ, suc, ◌+◌, ◌*◌, ◌-◌, ◌≤◌, ◌<◌}
use mathlib.Core.Path.{◌≡◌, refl, sym, ap, ◌∙◌, subst}
use mathlib.Core.Bool.{Bool, true, false, not, ◌&&◌, true≢false}
use mathlib.Core.List.{List, [], ◌∷◌}
use mathlib.Core.Logic.{◌⊎◌, ⊎_elim}
use native.Mathlib.Omega.{arith}
use borrow.Author.Tests.{leb-true, leb-false, le-leb}
use lib.Dec.{leb}
use lib.ListN.{length, get_or, drop}
use Rattle.std.specs.Prelude.{None}
use Rattle.access.proofs.Choice.{first_true, second_true}
use Rattle.operations.specs.declared.operation.Direction.{Direction}
use Rattle.operations.specs.declared.operation.Direction.TheVariants.{Write, Read}
use Rattle.operations.specs.declared.operation.Operation.{Operation}
use Rattle.operations.specs.Operations.{is_read, empty_read, word_of, operation_at, operations_of}
use Rattle.operations.specs.Runs.{span, same, written_in, read_in, written_sum, read_sum, runs_from, runs_of, is_empty, run_from, run_at}
use Rattle.operations.specs.Search.{goes_on}
use Rattle.operations.proofs.ListLaws.{no_operation, operation_first}
use Rattle.operations.proofs.RunLaws.{opens, joins, ends_by_turn, ends_at_end, none_follows, some_follows}
use Rattle.operations.proofs.SumLaws.{span_of, each_span, written_runs_lem, read_runs}
use Rattle.list_run.specs.declared.runs.Place.{Place}
use Rattle.list_run.specs.Passing.{fine, runs_after, direction_at, start_place, counted, added_to, Listed, Reached, Starts, Opens, Next, NextOne, Ahead, Between, Summed}
use Rattle.list_run.proofs.FineLaws.{fine_end, fine_part, fine_next, fine_direction, flaw_direction, flaw_empty}

-- ---- within a run

same_is : (x y : Direction) → same x y ≡ true → x ≡ y
same_is Write Write e = refl
same_is Read Read e = refl
same_is Write Read e = absurd (true≢false (sym e))
same_is Read Write e = absurd (true≢false (sym e))

-- the run that begins at p, of direction x, has come to `sum` bytes
pub record Along (l : List ℕ) (p : Place) (x : Direction) (at sum : ℕ) : Type 0 where
  pub inside : at + 3 ≤ length l
  pub since : p.at ≤ at
  pub small : sum + 65535 * p.at ≤ 65535 * at
  pub first : x ≡ direction_at l p.at
  pub known : get_or l at 0 ≤ 1
  pub direction : x ≡ direction_at l at
  pub sound : fine (drop at l) ≡ fine (drop p.at l)
  pub runs : runs_from x sum (operations_of (drop at l)) ≡ runs_after l p.at

pub run_begins : (l : List ℕ) (last : ℕ) (p : Place) (x : Direction) → Opens l last p x → Along l p x p.at 0
run_begins l last p x o =
    record {
      inside = h;
      since = omega arith;
      small = omega arith;
      first = o.first;
      known = o.known;
      direction = o.first;
      sound = refl;
      runs = sym opened;
    }
  where
    h : p.at + 3 ≤ length l
    h = omega (arith, o.start.whole, o.start.here)

    opened : runs_after l p.at ≡ runs_from x 0 (operations_of (drop p.at l))
    opened =
        ap runs_of (operation_first l p.at h) ∙ opens (operation_at l p.at) (operations_of (drop (p.at + 3) l))
        ∙ (λ i. runs_from (sym o.first i) 0 (sym (operation_first l p.at h) i))

both : (d : Direction) (w r n : ℕ) → w + written_in (span d n) + (r + read_in (span d n)) ≡ w + r + n
both Write w r n = omega arith
both Read w r n = omega arith

abbrev operation : Direction → ℕ → Operation
operation x n = record { direction = x; length = n }

-- an operation that is good is passed
module _ (l : List ℕ) (p : Place) (x : Direction) (at sum n : ℕ) (a : Along l p x at sum) (en : n ≡ word_of (get_or l (at + 1) 0) (get_or l (at + 2) 0)) where
  the_operation : operation x n ≡ operation_at l at
  the_operation = λ i. operation (a.direction i) (en i)

  pub run_flawed : empty_read (operation x n) ≡ true → fine (drop p.at l) ≡ false
  run_flawed q = sym a.sound ∙ flaw_empty l at a.inside a.known (ap empty_read (sym the_operation) ∙ q)

  module _ (full : empty_read (operation x n) ≡ false) (few : n ≤ 65535) where
    sound_behind : fine (drop (at + 3) l) ≡ fine (drop p.at l)
    sound_behind = fine_next l at a.inside a.known (ap empty_read (sym the_operation) ∙ full) ∙ a.sound

    runs_behind : runs_from x (sum + n) (operations_of (drop (at + 3) l)) ≡ runs_after l p.at
    runs_behind =
        sym (
        (λ i. runs_from (a.direction i) sum (operation_first l at a.inside i))
        ∙ joins sum (operation_at l at) (operations_of (drop (at + 3) l))
        ∙ (λ i. runs_from (sym a.direction i) (sum + sym en i) (operations_of (drop (at + 3) l))))
        ∙ a.runs

    pub run_goes_on : at + 3 + 3 ≤ length l → goes_on l (at + 3) x ≡ true → Along l p x (at + 3) (sum + n)
    run_goes_on h e =
        record {
          inside = h;
          since = omega (arith, a.since);
          small = omega (arith, a.small);
          first = a.first;
          known = leb-true (get_or l (at + 3) 0) 1 (first_true (leb (get_or l (at + 3) 0) 1) (same x (direction_at l (at + 3))) e);
          direction = same_is x (direction_at l (at + 3)) (second_true (leb (get_or l (at + 3) 0) 1) (same x (direction_at l (at + 3))) e);
          sound = sound_behind;
          runs = runs_behind;
        }

    module _ (over : (length l < at + 3 + 3) ⊎ ((at + 3 + 3 ≤ length l) × (goes_on l (at + 3) x ≡ false))) where
      ended : fine (drop (at + 3) l) ≡ true → runs_from x (sum + n) (operations_of (drop (at + 3) l)) ≡ span x (sum + n) ∷ runs_after l (at + 3)
      ended z = ⊎_elim at_last at_turn over
        where
          at_last : length l < at + 3 + 3 → runs_from x (sum + n) (operations_of (drop (at + 3) l)) ≡ span x (sum + n) ∷ runs_after l (at + 3)
          at_last h = rw (no_operation l (at + 3) (omega arith)) (ends_at_end x (sum + n))

          turned : (h : at + 3 + 3 ≤ length l) → goes_on l (at + 3) x ≡ false → same x (direction_at l (at + 3)) ≡ false
          turned h ne =
              ap (λ (b : Bool). b && same x (direction_at l (at + 3))) (sym (le-leb (get_or l (at + 3) 0) 1 (fine_direction l (at + 3) h z))) ∙ ne

          at_turn : (at + 3 + 3 ≤ length l) × (goes_on l (at + 3) x ≡ false)
              → runs_from x (sum + n) (operations_of (drop (at + 3) l)) ≡ span x (sum + n) ∷ runs_after l (at + 3)
          at_turn (h, ne) =
              rw (operation_first l (at + 3) h)
              (ends_by_turn x (sum + n) (operation_at l (at + 3)) (operations_of (drop (at + 3 + 3) l)) (turned h ne))

      pub run_ends : (last : ℕ) (q : Place) → Starts l last p → q ≡ added_to p x (at + 3) (sum + n) → Next l p q
      run_ends last q s e =
          rw e
          (record {
            onward = omega (arith, a.since);
            within = omega (arith, a.inside);
            small = omega (arith, both x p.written p.read (sum + n), a.small, s.small);
            reading = ap is_read a.first;
            written = ap (λ (y : Direction). p.written + written_in (span y (sum + n))) a.first;
            read = ap (λ (y : Direction). p.read + read_in (span y (sum + n))) a.first;
            sound = sound_behind;
            runs = λ z. sym runs_behind ∙ ended (sound_behind ∙ z) ∙ ap (λ (y : Direction). span y (sum + n) ∷ runs_after l (at + 3)) a.first;
          })

-- the same by the bytes of the direction that are counted up to there
pub counted_small : (d : Direction) (p : Place) → counted d p ≤ p.written + p.read
counted_small Write p = omega arith
counted_small Read p = omega arith

pub count_begins : (l : List ℕ) (last : ℕ) (p : Place) (x : Direction) (c : ℕ) → c ≡ counted x p → Opens l last p x → Along l p x p.at (c - counted x p)
count_begins l last p x c e o = subst (λ (n : ℕ). Along l p x p.at n) (omega (arith, e)) (run_begins l last p x o)

module _ (l : List ℕ) (p : Place) (x : Direction) (at c n : ℕ) (a : Along l p x at (c - counted x p)) (more : counted x p ≤ c) (en : n ≡ word_of (get_or l (at + 1) 0) (get_or l (at + 2) 0))
    (full : empty_read (operation x n) ≡ false) (few : n ≤ 65535) where
  grown : c - counted x p + n ≡ c + n - counted x p
  grown = omega arith

  pub count_goes_on : at + 3 + 3 ≤ length l → goes_on l (at + 3) x ≡ true → Along l p x (at + 3) (c + n - counted x p)
  count_goes_on h e = subst (λ (m : ℕ). Along l p x (at + 3) m) grown (run_goes_on l p x at (c - counted x p) n a en full few h e)

  pub count_ends : (length l < at + 3 + 3) ⊎ ((at + 3 + 3 ≤ length l) × (goes_on l (at + 3) x ≡ false)) → (last : ℕ) (q : Place) → Starts l last p → q ≡ added_to p x (at + 3) (c + n - counted x p) → Next l p q
  count_ends over last q s e = run_ends l p x at (c - counted x p) n a en full few over last q s (e ∙ ap (added_to p x (at + 3)) (sym grown))

-- ---- run by run

module _ (l : List ℕ) (p q : Place) (x : Next l p q) (good : fine (drop p.at l) ≡ true) where
  pub written_next : q.written + written_sum (runs_after l q.at) ≡ p.written + written_sum (runs_after l p.at)
  written_next = omega (arith, x.written, ap written_sum (x.runs good))

  pub read_next : q.read + read_sum (runs_after l q.at) ≡ p.read + read_sum (runs_after l p.at)
  read_next = omega (arith, x.read, ap read_sum (x.runs good))

  pub run_next : (k : ℕ) → run_from q.written q.read (runs_after l q.at) k ≡ run_from p.written p.read (runs_after l p.at) (suc k)
  unfolding run_from
  run_next k = rw (x.runs good, x.written, x.read)

pub reached_next : (l : List ℕ) (last : ℕ) (p q : Place) → Starts l last p → Next l p q → Reached l last q
reached_next l last p q s x = record { whole = s.whole; few = s.few; within = x.within; small = x.small }

pub starts_at : (l : List ℕ) (last : ℕ) (p : Place) → Reached l last p → p.at ≤ last → Starts l last p
starts_at l last p r h = record { whole = r.whole; few = r.few; here = h; small = r.small }

-- whether a run follows
pub more_is : (l : List ℕ) (last at : ℕ) → last + 3 ≡ length l → leb at last ≡ not (is_empty (runs_after l at))
more_is l last at e = go (leb at last) refl
  where
    go : (b : Bool) → leb at last ≡ b → b ≡ not (is_empty (runs_after l at))
    go true q = rw (operation_first l at (omega (arith, e, leb-true at last q)), some_follows (operation_at l at) (operations_of (drop (at + 3) l)))
    go false q = rw (no_operation l at (omega (arith, e, leb-false at last q)), none_follows)

-- what is behind the last operation
pub no_runs : (l : List ℕ) (last at : ℕ) → last + 3 ≡ length l → last < at → runs_after l at ≡ []
unfolding runs_of
no_runs l last at e h = rw (no_operation l at (omega arith))

-- the runs before
pub ahead_start : (l : List ℕ) (last k : ℕ) (p : Place) → Listed l last → p ≡ start_place → Ahead l last k k p
ahead_start l last k p s e =
    rw e
    (record {
      place = record { whole = s.whole; few = s.few; within = omega arith; small = omega arith };
      sound = refl;
      run = λ _. refl;
      written = λ _. omega arith;
      read = λ _. omega arith;
    })

module _ (l : List ℕ) (last k ahead : ℕ) (p : Place) (a : Ahead l last k ahead p) where
  -- no run is left
  pub ahead_over : last < p.at → fine l ≡ true → run_at (runs_of (operations_of l)) k ≡ None
  unfolding run_from
  ahead_over h z = sym (a.run z) ∙ rw (no_runs l last p.at a.place.whole h)

  pub ahead_flawed : fine (drop p.at l) ≡ false → fine l ≡ true → run_at (runs_of (operations_of l)) k ≡ None
  ahead_flawed f z = absurd (true≢false (sym z ∙ sym a.sound ∙ f))

-- one run more is passed
pub ahead_next : (l : List ℕ) (last k ahead : ℕ) (p : Place) → 0 < ahead → Ahead l last k ahead p → p.at ≤ last → (q : Place) → Next l p q → Ahead l last k (ahead - 1) q
ahead_next l last k ahead p n a h q x =
    record {
      place = reached_next l last p q (starts_at l last p a.place h) x;
      sound = x.sound ∙ a.sound;
      run = λ z. run_next l p q x (a.sound ∙ z) (ahead - 1) ∙ ap (run_from p.written p.read (runs_after l p.at)) less ∙ a.run z;
      written = λ z. written_next l p q x (a.sound ∙ z) ∙ a.written z;
      read = λ z. read_next l p q x (a.sound ∙ z) ∙ a.read z;
    }
  where
    less : suc (ahead - 1) ≡ ahead
    less = omega arith

-- the same by those that are passed of k
pub ahead_passed : (l : List ℕ) (last k passed : ℕ) (p : Place) → passed < k → Ahead l last k (k - passed) p → p.at ≤ last → (q : Place) → Next l p q → Ahead l last k (k - (passed + 1)) q
ahead_passed l last k passed p n a h q x = subst (λ (j : ℕ). Ahead l last k j q) (omega arith) (ahead_next l last k (k - passed) p (omega arith) a h q x)

pub none_ahead : (l : List ℕ) (last k passed : ℕ) (p : Place) → k ≤ passed → Ahead l last k (k - passed) p → Ahead l last k 0 p
none_ahead l last k passed p h = subst (λ (j : ℕ). Ahead l last k j p) (omega arith)

-- ---- the operations behind

-- the first operation is one of what is left
module _ (l : List ℕ) (at : ℕ) (h : at + 3 ≤ length l) where
  written_first : written_sum (runs_after l at) ≡ written_in (span_of (operation_at l at)) + written_sum (runs_after l (at + 3))
  written_first =
      written_runs_lem (operations_of (drop at l)) ∙ ap (λ os. written_sum (each_span os)) (operation_first l at h)
      ∙ ap (λ (x : ℕ). written_in (span_of (operation_at l at)) + x) (sym (written_runs_lem (operations_of (drop (at + 3) l))))

  read_first : read_sum (runs_after l at) ≡ read_in (span_of (operation_at l at)) + read_sum (runs_after l (at + 3))
  read_first =
      read_runs (operations_of (drop at l)) ∙ ap (λ os. read_sum (each_span os)) (operation_first l at h)
      ∙ ap (λ (x : ℕ). read_in (span_of (operation_at l at)) + x) (sym (read_runs (operations_of (drop (at + 3) l))))

module _ (l : List ℕ) (last : ℕ) (p : Place) (s : Starts l last p) where
  h : p.at + 3 ≤ length l
  h = omega (arith, s.whole, s.here)

  pub one_unknown : 1 < get_or l p.at 0 → fine (drop p.at l) ≡ false
  one_unknown large = flaw_direction l p.at h large

  module _ (x : Direction) (n : ℕ) (known : get_or l p.at 0 ≤ 1) (ex : x ≡ direction_at l p.at) (en : n ≡ word_of (get_or l (p.at + 1) 0) (get_or l (p.at + 2) 0)) where
    passed_is : operation x n ≡ operation_at l p.at
    passed_is = λ i. operation (ex i) (en i)

    written_by : written_in (span_of (operation_at l p.at)) ≡ written_in (span x n)
    written_by = ap (λ (y : Operation). written_in (span_of y)) (sym passed_is)

    read_by : read_in (span_of (operation_at l p.at)) ≡ read_in (span x n)
    read_by = ap (λ (y : Operation). read_in (span_of y)) (sym passed_is)

    pub one_flawed : empty_read (operation x n) ≡ true → fine (drop p.at l) ≡ false
    one_flawed q = flaw_empty l p.at h known (ap empty_read (sym passed_is) ∙ q)

    pub one_passed : empty_read (operation x n) ≡ false → n ≤ 65535 → (m : ℕ) → m ≡ n → (q : Place) → q ≡ added_to p x (p.at + 3) m → NextOne l p q
    one_passed full few m em q e =
        rw (e, em)
        (record {
          onward = omega arith;
          within = h;
          small = omega (arith, both x p.written p.read n, s.small);
          sound = fine_next l p.at h known (ap empty_read (sym passed_is) ∙ full);
          written = omega (arith, written_first l p.at h, written_by);
          read = omega (arith, read_first l p.at h, read_by);
        })

pub between_start : (l : List ℕ) (last : ℕ) (p : Place) → Reached l last p → Between l last p p
between_start l last p r = record { place = r; sound = refl; written = λ _. refl; read = λ _. refl }

module _ (l : List ℕ) (last : ℕ) (p q : Place) (b : Between l last p q) where
  pub between_next : (t : Place) → NextOne l q t → Between l last p t
  between_next t x =
      record {
        place = record { whole = b.place.whole; few = b.place.few; within = x.within; small = x.small };
        sound = x.sound ∙ b.sound;
        written = λ z. x.written ∙ b.written z;
        read = λ z. x.read ∙ b.read z;
      }

  pub rests_flawed : fine (drop q.at l) ≡ false → fine (drop p.at l) ≡ false
  rests_flawed f = sym b.sound ∙ f

  pub rests_part : last < q.at → (q.at ≡ length l → ⊥) → fine (drop p.at l) ≡ false
  rests_part h n =
      let lt : q.at < length l = omega (arith, b.place.within, n) in
      sym b.sound ∙ fine_part l q.at lt (omega (arith, b.place.whole))

  pub rests_at : last < q.at → q.at ≡ length l → Summed l p q
  rests_at h e =
      let good : fine (drop p.at l) ≡ true = sym b.sound ∙ fine_end l q.at (omega arith) in
      let over : runs_after l q.at ≡ [] = no_runs l last q.at b.place.whole h in
      record {
        sound = good;
        small = omega (arith, b.place.small, b.place.few);
        written = omega (arith, b.written good, ap written_sum over);
        read = omega (arith, b.read good, ap read_sum over);
      }
