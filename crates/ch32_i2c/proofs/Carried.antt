-- A machine whose states stand in blocks is seen through begin and step as it is.
-- Assumes nothing.
use mathlib.Core.Path.{◌≡◌, refl, ap, sym, subst, ◌∙◌}
use mathlib.Core.Bool.{Bool, true, false, not, true≢false, cond}
use mathlib.Core.List.{List, [], ◌∷◌, ◌++◌}
use mathlib.Core.Option.{none, some, Option}
use Prim.Native.Nat.{ℕ, suc}
use native.Mathlib.Omega.{arith}
use lib.ListN.{length, length-set}
use Rattle.access.specs.declared.ending.Error.TheVariants.{InvalidState}
use Rattle.access.specs.declared.need.Need.{Need}
use Rattle.access.specs.declared.need.Need.TheVariants as need
use Rattle.access.specs.declared.next.Next.{Next}
use Rattle.access.specs.declared.next.Next.TheVariants as next
use Rattle.access.specs.Endings.{Ending, failed}
use Rattle.access.specs.Record.{Shown}
use Rattle.access.specs.Machine.{Machine, filled, kept, seen_owed, seen_answered, shown_from, is_end}
use Rattle.call.specs.OnBlock.{OnBlock, owed_by, moved_by, refused, step_on, IsRun}
use Rattle.calls.proofs.KeptLaws.{end_keeps}
use Rattle.call.specs.Left.{Left, left, refused_with, begin_left, step_left}
use Rattle.ch32_i2c.specs.Fed.{Entry, lefts_from, last_from, handed_out, nexts_of, in_turn, stored, Still, EndsStill, Makes}
use Rattle.ch32_i2c.specs.Fed as fed

kept_length : (n : Need) (a : ℕ) (r : List ℕ) → length (kept n a r) ≡ length r
kept_length (need.Read x) a r = refl
kept_length (need.Write x v) a r = refl
kept_length need.Clock a r = refl
kept_length (need.Send p) a r = refl
kept_length (need.Keep p) a r = length-set r p _
kept_length need.Drop a r = refl
kept_length (need.End e) a r = refl

-- ---- one need

owed_next : (bytes : List ℕ) (n : Need) → filled bytes n ∷ [] ≡ in_turn 1 (nexts_of (seen_owed bytes n))
owed_next bytes (need.Read x) = refl
owed_next bytes (need.Write x v) = refl
owed_next bytes need.Clock = refl
owed_next bytes (need.Send p) = refl
owed_next bytes (need.Keep p) = refl
owed_next bytes need.Drop = refl
owed_next bytes (need.End e) = refl

owed_stored : (bytes : List ℕ) (n : Need) (r : List ℕ) → r ≡ stored (seen_owed bytes n).arrivals r
owed_stored bytes (need.Read x) r = refl
owed_stored bytes (need.Write x v) r = refl
owed_stored bytes need.Clock r = refl
owed_stored bytes (need.Send p) r = refl
owed_stored bytes (need.Keep p) r = refl
owed_stored bytes need.Drop r = refl
owed_stored bytes (need.End e) r = refl

answered_next : (bytes : List ℕ) (n : Need) (a : ℕ) (rest : Shown) (k : ℕ) → is_end n ≡ false → filled bytes n ∷ in_turn k (nexts_of rest) ≡ in_turn (suc k) (nexts_of (seen_answered bytes n a rest))
answered_next bytes (need.Read x) a rest k e = refl
answered_next bytes (need.Write x v) a rest k e = refl
answered_next bytes need.Clock a rest k e = refl
answered_next bytes (need.Send p) a rest k e = refl
answered_next bytes (need.Keep p) a rest k e = refl
answered_next bytes need.Drop a rest k e = refl
answered_next bytes (need.End x) a rest k e = absurd (true≢false e)

answered_stored : (bytes : List ℕ) (n : Need) (a : ℕ) (rest : Shown) (r : List ℕ) → is_end n ≡ false → stored rest.arrivals (kept n a r) ≡ stored (seen_answered bytes n a rest).arrivals r
answered_stored bytes (need.Read x) a rest r e = refl
answered_stored bytes (need.Write x v) a rest r e = refl
answered_stored bytes need.Clock a rest r e = refl
answered_stored bytes (need.Send p) a rest r e = refl
answered_stored bytes (need.Keep p) a rest r e = refl
answered_stored bytes need.Drop a rest r e = refl
answered_stored bytes (need.End x) a rest r e = absurd (true≢false e)

ended_next : (bytes : List ℕ) (n : Need) (a : ℕ) (rest : Shown) (k : ℕ) → is_end n ≡ true → filled bytes n ∷ in_turn k [] ≡ in_turn (suc k) (nexts_of (seen_answered bytes n a rest))
ended_next bytes (need.Read x) a rest k e = absurd (true≢false (sym e))
ended_next bytes (need.Write x v) a rest k e = absurd (true≢false (sym e))
ended_next bytes need.Clock a rest k e = absurd (true≢false (sym e))
ended_next bytes (need.Send p) a rest k e = absurd (true≢false (sym e))
ended_next bytes (need.Keep p) a rest k e = absurd (true≢false (sym e))
ended_next bytes need.Drop a rest k e = absurd (true≢false (sym e))
ended_next bytes (need.End x) a rest k e = refl

ended_stored : (bytes : List ℕ) (n : Need) (a : ℕ) (rest : Shown) (r : List ℕ) → is_end n ≡ true → r ≡ stored (seen_answered bytes n a rest).arrivals r
ended_stored bytes (need.Read x) a rest r e = absurd (true≢false (sym e))
ended_stored bytes (need.Write x v) a rest r e = absurd (true≢false (sym e))
ended_stored bytes need.Clock a rest r e = absurd (true≢false (sym e))
ended_stored bytes (need.Send p) a rest r e = absurd (true≢false (sym e))
ended_stored bytes (need.Keep p) a rest r e = absurd (true≢false (sym e))
ended_stored bytes need.Drop a rest r e = absurd (true≢false (sym e))
ended_stored bytes (need.End x) a rest r e = refl

-- what is handed out for an end, and for what is none
pub filled_end : (bytes : List ℕ) (n : Need) → fed.is_end (filled bytes n) ≡ is_end n
filled_end bytes (need.Read x) = refl
filled_end bytes (need.Write x v) = refl
filled_end bytes need.Clock = refl
filled_end bytes (need.Send p) = refl
filled_end bytes (need.Keep p) = refl
filled_end bytes need.Drop = refl
filled_end bytes (need.End e) = refl

-- what is shown of an end, and of what is none
pub owed_end : (bytes : List ℕ) (n : Need) (x : Ending) → (seen_owed bytes n).end ≡ some x → is_end n ≡ true
owed_end bytes (need.Read y) x q = let z : ◌≡◌ {A = ℕ} 0 1 = cc in absurd (omega arith)
owed_end bytes (need.Write y v) x q = let z : ◌≡◌ {A = ℕ} 0 1 = cc in absurd (omega arith)
owed_end bytes need.Clock x q = let z : ◌≡◌ {A = ℕ} 0 1 = cc in absurd (omega arith)
owed_end bytes (need.Send p) x q = let z : ◌≡◌ {A = ℕ} 0 1 = cc in absurd (omega arith)
owed_end bytes (need.Keep p) x q = let z : ◌≡◌ {A = ℕ} 0 1 = cc in absurd (omega arith)
owed_end bytes need.Drop x q = let z : ◌≡◌ {A = ℕ} 0 1 = cc in absurd (omega arith)
owed_end bytes (need.End e) x q = refl

owed_open : (bytes : List ℕ) (n : Need) → (seen_owed bytes n).end ≡ none → is_end n ≡ false
owed_open bytes (need.Read y) q = refl
owed_open bytes (need.Write y v) q = refl
owed_open bytes need.Clock q = refl
owed_open bytes (need.Send p) q = refl
owed_open bytes (need.Keep p) q = refl
owed_open bytes need.Drop q = refl
owed_open bytes (need.End e) q = let z : ◌≡◌ {A = ℕ} 0 1 = cc in absurd (omega arith)

ended_closed : (bytes : List ℕ) (n : Need) (a : ℕ) (rest : Shown) → is_end n ≡ true → (seen_answered bytes n a rest).end ≡ none → ⊥
ended_closed bytes (need.Read x) a rest e q = true≢false (sym e)
ended_closed bytes (need.Write x v) a rest e q = true≢false (sym e)
ended_closed bytes need.Clock a rest e q = true≢false (sym e)
ended_closed bytes (need.Send p) a rest e q = true≢false (sym e)
ended_closed bytes (need.Keep p) a rest e q = true≢false (sym e)
ended_closed bytes need.Drop a rest e q = true≢false (sym e)
ended_closed bytes (need.End x) a rest e q = let z : ◌≡◌ {A = ℕ} 0 1 = cc in omega arith

answered_end : (bytes : List ℕ) (n : Need) (a : ℕ) (rest : Shown) → is_end n ≡ false → (seen_answered bytes n a rest).end ≡ rest.end
answered_end bytes (need.Read x) a rest e = refl
answered_end bytes (need.Write x v) a rest e = refl
answered_end bytes need.Clock a rest e = refl
answered_end bytes (need.Send p) a rest e = refl
answered_end bytes (need.Keep p) a rest e = refl
answered_end bytes need.Drop a rest e = refl
answered_end bytes (need.End x) a rest e = absurd (true≢false e)

-- ---- the machine m, with these bytes lent and so many bytes to read, seen through the entry c

pub record Carries (m : Machine) (bytes : List ℕ) (room : ℕ) (c : Entry) (image : m.State → List ℕ) (Good : m.State → Type 0) : Type 0 where
  pub stays : (s : m.State) (a : ℕ) → Good s → Good (m.move s a)
  pub taken : (s : m.State) (r : List ℕ) (a : ℕ) → Good s → length r ≡ room → is_end (m.need s) ≡ false
      → c.step (image s) r a ≡ left (filled bytes (m.need (m.move s a))) (image (m.move s a)) (kept (m.need s) a r)
  pub ended : (s : m.State) (r : List ℕ) (a : ℕ) → Good s → length r ≡ room → is_end (m.need s) ≡ true → c.step (image s) r a ≡ refused_with InvalidState (image s) r

module _ {m : Machine} {bytes : List ℕ} {room : ℕ} {c : Entry} {image : m.State → List ℕ} {Good : m.State → Type 0} (k : Carries m bytes room c image Good) where
  abbrev left_at : m.State → List ℕ → Left
  left_at s r = left (filled bytes (m.need s)) (image s) r

  -- behind the end
  ended_again : (s : m.State) (r : List ℕ) → Good s → length r ≡ room → is_end (m.need s) ≡ true → (answers : List ℕ)
      → handed_out (lefts_from c (refused_with InvalidState (image s) r) answers) ≡ in_turn (suc (length answers)) []
  ended_again s r g l e [] = refl
  ended_again s r g l e (a ∷ answers) =
      ap (λ (h : Left). next.End (failed InvalidState) ∷ handed_out (lefts_from c h answers)) (k.ended s r a g l e) ∙ ap (λ (ns : List Next). next.End (failed InvalidState) ∷ ns) (ended_again s r g l e answers)

  ended_read : (s : m.State) (r : List ℕ) → Good s → length r ≡ room → is_end (m.need s) ≡ true → (answers : List ℕ) → (last_from c (refused_with InvalidState (image s) r) answers).read ≡ r
  ended_read s r g l e [] = refl
  ended_read s r g l e (a ∷ answers) = ap (λ (h : Left). (last_from c h answers).read) (k.ended s r a g l e) ∙ ended_read s r g l e answers

  pub carried_accesses : (s : m.State) (r : List ℕ) → Good s → length r ≡ room → (answers : List ℕ)
      → handed_out (lefts_from c (left_at s r) answers) ≡ in_turn (suc (length answers)) (nexts_of (shown_from m bytes s answers))
  carried_accesses s r g l [] = owed_next bytes (m.need s)
  carried_accesses s r g l (a ∷ answers) = go (is_end (m.need s)) refl (carried_accesses (m.move s a) (kept (m.need s) a r) (k.stays s a g) (kept_length (m.need s) a r ∙ l) answers)
    where
      go : (b : Bool) → is_end (m.need s) ≡ b
          → handed_out (lefts_from c (left_at (m.move s a) (kept (m.need s) a r)) answers) ≡ in_turn (suc (length answers)) (nexts_of (shown_from m bytes (m.move s a) answers))
          → handed_out (lefts_from c (left_at s r) (a ∷ answers)) ≡ in_turn (suc (suc (length answers))) (nexts_of (shown_from m bytes s (a ∷ answers)))
      go false e h =
          ap (λ (x : Left). filled bytes (m.need s) ∷ handed_out (lefts_from c x answers)) (k.taken s r a g l e)
          ∙ ap (λ (ns : List Next). filled bytes (m.need s) ∷ ns) h
          ∙ answered_next bytes (m.need s) a (shown_from m bytes (m.move s a) answers) (suc (length answers)) e
      go true e h =
          ap (λ (x : Left). filled bytes (m.need s) ∷ handed_out (lefts_from c x answers)) (k.ended s r a g l e)
          ∙ ap (λ (ns : List Next). filled bytes (m.need s) ∷ ns) (ended_again s r g l e answers)
          ∙ ended_next bytes (m.need s) a (shown_from m bytes (m.move s a) answers) (suc (length answers)) e

  pub carried_read : (s : m.State) (r : List ℕ) → Good s → length r ≡ room → (answers : List ℕ)
      → (last_from c (left_at s r) answers).read ≡ stored (shown_from m bytes s answers).arrivals r
  carried_read s r g l [] = owed_stored bytes (m.need s) r
  carried_read s r g l (a ∷ answers) = go (is_end (m.need s)) refl (carried_read (m.move s a) (kept (m.need s) a r) (k.stays s a g) (kept_length (m.need s) a r ∙ l) answers)
    where
      go : (b : Bool) → is_end (m.need s) ≡ b → (last_from c (left_at (m.move s a) (kept (m.need s) a r)) answers).read ≡ stored (shown_from m bytes (m.move s a) answers).arrivals (kept (m.need s) a r)
          → (last_from c (left_at s r) (a ∷ answers)).read ≡ stored (shown_from m bytes s (a ∷ answers)).arrivals r
      go false e h =
          ap (λ (x : Left). (last_from c x answers).read) (k.taken s r a g l e)
          ∙ h
          ∙ answered_stored bytes (m.need s) a (shown_from m bytes (m.move s a) answers) r e
      go true e h =
          ap (λ (x : Left). (last_from c x answers).read) (k.ended s r a g l e)
          ∙ ended_read s r g l e answers
          ∙ ended_stored bytes (m.need s) a (shown_from m bytes (m.move s a) answers) r e

  -- behind the end nothing changes
  still_ended : (s : m.State) (r : List ℕ) → Good s → length r ≡ room → is_end (m.need s) ≡ true → (answers : List ℕ) → EndsStill (lefts_from c (refused_with InvalidState (image s) r) answers)
  still_ended s r g l e [] = tt
  still_ended s r g l e (a ∷ []) = ((λ _. k.ended s r a g l e), tt)
  still_ended s r g l e (a ∷ a' ∷ answers) =
      ((λ _. k.ended s r a g l e), subst (λ (h : Left). EndsStill (lefts_from c h (a' ∷ answers))) (sym (k.ended s r a g l e)) (still_ended s r g l e (a' ∷ answers)))

  -- the first of a list of what is left
  first_still : (h : Left) (rest : List ℕ) (x : Left) → (fed.is_end x.next ≡ true → h ≡ refused_with InvalidState x.block x.read) → EndsStill (lefts_from c h rest) → Still x (lefts_from c h rest)
  first_still h [] x p q = (p, tt)
  first_still h (a ∷ rest) x p q = (p, q)

  pub carried_still : (s : m.State) (r : List ℕ) → Good s → length r ≡ room → (answers : List ℕ) → EndsStill (lefts_from c (left_at s r) answers)
  carried_still s r g l [] = tt
  carried_still s r g l (a ∷ answers) = go (is_end (m.need s)) refl (carried_still (m.move s a) (kept (m.need s) a r) (k.stays s a g) (kept_length (m.need s) a r ∙ l) answers)
    where
      go : (b : Bool) → is_end (m.need s) ≡ b → EndsStill (lefts_from c (left_at (m.move s a) (kept (m.need s) a r)) answers) → Still (left_at s r) (lefts_from c (c.step (image s) r a) answers)
      go false e h =
          first_still (c.step (image s) r a) answers (left_at s r) (λ z. absurd (true≢false (sym z ∙ filled_end bytes (m.need s) ∙ e)))
          (subst (λ (x : Left). EndsStill (lefts_from c x answers)) (sym (k.taken s r a g l e)) h)
      go true e h =
          first_still (c.step (image s) r a) answers (left_at s r) (λ _. k.ended s r a g l e) (subst (λ (x : Left). EndsStill (lefts_from c x answers)) (sym (k.ended s r a g l e)) (still_ended s r g l e answers))

  -- behind the end a step is refused, and leaves what the last one left
  ended_left : (s : m.State) (r : List ℕ) → Good s → length r ≡ room → is_end (m.need s) ≡ true → (answers : List ℕ) → last_from c (refused_with InvalidState (image s) r) answers ≡ refused_with InvalidState (image s) r
  ended_left s r g l e [] = refl
  ended_left s r g l e (a ∷ answers) = ap (λ (h : Left). last_from c h answers) (k.ended s r a g l e) ∙ ended_left s r g l e answers

  carried_over : (s : m.State) (r : List ℕ) → Good s → length r ≡ room → (answers : List ℕ) (x : Ending) → (shown_from m bytes s answers).end ≡ some x → (a : ℕ)
      → last_from c (left_at s r) (answers ++ (a ∷ [])) ≡ refused_with InvalidState (last_from c (left_at s r) answers).block (last_from c (left_at s r) answers).read
  carried_over s r g l [] x q a = k.ended s r a g l (owed_end bytes (m.need s) x q)
  carried_over s r g l (b ∷ answers) x q a = go (is_end (m.need s)) refl (carried_over (m.move s b) (kept (m.need s) b r) (k.stays s b g) (kept_length (m.need s) b r ∙ l) answers x)
    where
      go : (t : Bool) → is_end (m.need s) ≡ t
          → ((shown_from m bytes (m.move s b) answers).end ≡ some x → (a : ℕ)
          → last_from c (left_at (m.move s b) (kept (m.need s) b r)) (answers ++ (a ∷ []))
          ≡ refused_with InvalidState (last_from c (left_at (m.move s b) (kept (m.need s) b r)) answers).block (last_from c (left_at (m.move s b) (kept (m.need s) b r)) answers).read)
          → last_from c (c.step (image s) r b) (answers ++ (a ∷ [])) ≡ refused_with InvalidState (last_from c (c.step (image s) r b) answers).block (last_from c (c.step (image s) r b) answers).read
      go false e h =
          subst (λ (y : Left). last_from c y (answers ++ (a ∷ [])) ≡ refused_with InvalidState (last_from c y answers).block (last_from c y answers).read) (sym (k.taken s r b g l e))
          (h (sym (answered_end bytes (m.need s) b (shown_from m bytes (m.move s b) answers) e) ∙ q) a)
      go true e h =
          subst (λ (y : Left). last_from c y (answers ++ (a ∷ [])) ≡ refused_with InvalidState (last_from c y answers).block (last_from c y answers).read) (sym (k.ended s r b g l e))
          (ended_left s r g l e (answers ++ (a ∷ [])) ∙ ap (λ (y : Left). refused_with InvalidState y.block y.read) (sym (ended_left s r g l e answers)))

  -- while there is no end a step takes the block that is left
  module _ (takes : List ℕ → List ℕ → Bool) (law : (s : m.State) (r : List ℕ) → Good s → length r ≡ room → takes (image s) r ≡ not (is_end (m.need s))) where
    carried_open : (s : m.State) (r : List ℕ) → Good s → length r ≡ room → (answers : List ℕ) → (shown_from m bytes s answers).end ≡ none
        → takes (last_from c (left_at s r) answers).block (last_from c (left_at s r) answers).read ≡ true
    carried_open s r g l [] q = law s r g l ∙ ap not (owed_open bytes (m.need s) q)
    carried_open s r g l (a ∷ answers) q = go (is_end (m.need s)) refl (carried_open (m.move s a) (kept (m.need s) a r) (k.stays s a g) (kept_length (m.need s) a r ∙ l) answers)
      where
        go : (t : Bool) → is_end (m.need s) ≡ t
            → ((shown_from m bytes (m.move s a) answers).end ≡ none
            → takes (last_from c (left_at (m.move s a) (kept (m.need s) a r)) answers).block (last_from c (left_at (m.move s a) (kept (m.need s) a r)) answers).read ≡ true)
            → takes (last_from c (c.step (image s) r a) answers).block (last_from c (c.step (image s) r a) answers).read ≡ true
        go false e h =
            subst (λ (x : Left). takes (last_from c x answers).block (last_from c x answers).read ≡ true) (sym (k.taken s r a g l e))
            (h (sym (answered_end bytes (m.need s) a (shown_from m bytes (m.move s a) answers) e) ∙ q))
        go true e h = absurd (ended_closed bytes (m.need s) a (shown_from m bytes (m.move s a) answers) e q)

    pub still_open : (s : m.State) (b r : List ℕ) → Good s → length r ≡ room → c.begin b r ≡ left_at s r → (answers : List ℕ) → (shown_from m bytes s answers).end ≡ none
        → takes (last_from c (c.begin b r) answers).block (last_from c (c.begin b r) answers).read ≡ true
    still_open s b r g l e answers q = subst (λ (x : Left). takes (last_from c x answers).block (last_from c x answers).read ≡ true) (sym e) (carried_open s r g l answers q)

  -- begin leaves a state's image: then the call makes what the machine shows
  pub carried : (s : m.State) (b r : List ℕ) → Good s → length r ≡ room → c.begin b r ≡ left_at s r → (answers : List ℕ) → Makes c b r answers (shown_from m bytes s answers)
  carried s b r g l e answers =
      record {
        accesses = ap (λ (h : Left). handed_out (lefts_from c h answers)) e ∙ carried_accesses s r g l answers;
        still = subst (λ (h : Left). EndsStill (lefts_from c h answers)) (sym e) (carried_still s r g l answers);
        read = ap (λ (h : Left). (last_from c h answers).read) e ∙ carried_read s r g l answers;
      }

  -- and behind its end nothing changes
  pub over : (s : m.State) (b r : List ℕ) → Good s → length r ≡ room → c.begin b r ≡ left_at s r → (answers : List ℕ) (x : Ending) → (shown_from m bytes s answers).end ≡ some x → (a : ℕ)
      → last_from c (c.begin b r) (answers ++ (a ∷ [])) ≡ refused_with InvalidState (last_from c (c.begin b r) answers).block (last_from c (c.begin b r) answers).read
  over s b r g l e answers x q a =
      subst (λ (y : Left). last_from c y (answers ++ (a ∷ [])) ≡ refused_with InvalidState (last_from c y answers).block (last_from c y answers).read) (sym e) (carried_over s r g l answers x q a)

-- what is shown of an ended state, whatever the answers; and behind an end
ended_shown : (m : Machine) (bytes : List ℕ) (s : m.State) (answers more : List ℕ) → is_end (m.need s) ≡ true → shown_from m bytes s (answers ++ more) ≡ shown_from m bytes s answers
ended_shown m bytes s [] [] e = refl
ended_shown m bytes s [] (b ∷ more) e = ended_owed bytes (m.need s) b (shown_from m bytes (m.move s b) more) e
  where
    ended_owed : (bytes : List ℕ) (n : Need) (a : ℕ) (rest : Shown) → is_end n ≡ true → seen_answered bytes n a rest ≡ seen_owed bytes n
    ended_owed bytes (need.Read x) a rest e = absurd (true≢false (sym e))
    ended_owed bytes (need.Write x v) a rest e = absurd (true≢false (sym e))
    ended_owed bytes need.Clock a rest e = absurd (true≢false (sym e))
    ended_owed bytes (need.Send p) a rest e = absurd (true≢false (sym e))
    ended_owed bytes (need.Keep p) a rest e = absurd (true≢false (sym e))
    ended_owed bytes need.Drop a rest e = absurd (true≢false (sym e))
    ended_owed bytes (need.End x) a rest e = refl
ended_shown m bytes s (a ∷ answers) more e = ended_answered bytes (m.need s) a (shown_from m bytes (m.move s a) (answers ++ more)) (shown_from m bytes (m.move s a) answers) e
  where
    ended_answered : (bytes : List ℕ) (n : Need) (a : ℕ) (x y : Shown) → is_end n ≡ true → seen_answered bytes n a x ≡ seen_answered bytes n a y
    ended_answered bytes (need.Read r) a x y e = absurd (true≢false (sym e))
    ended_answered bytes (need.Write r v) a x y e = absurd (true≢false (sym e))
    ended_answered bytes need.Clock a x y e = absurd (true≢false (sym e))
    ended_answered bytes (need.Send p) a x y e = absurd (true≢false (sym e))
    ended_answered bytes (need.Keep p) a x y e = absurd (true≢false (sym e))
    ended_answered bytes need.Drop a x y e = absurd (true≢false (sym e))
    ended_answered bytes (need.End z) a x y e = refl

pub shown_over : (m : Machine) (bytes : List ℕ) (s : m.State) (answers more : List ℕ) (x : Ending) → (shown_from m bytes s answers).end ≡ some x → shown_from m bytes s (answers ++ more) ≡ shown_from m bytes s answers
shown_over m bytes s [] more x q = ended_shown m bytes s [] more (owed_end bytes (m.need s) x q)
shown_over m bytes s (a ∷ answers) more x q = go (is_end (m.need s)) refl (shown_over m bytes (m.move s a) answers more x)
  where
    go : (t : Bool) → is_end (m.need s) ≡ t
        → ((shown_from m bytes (m.move s a) answers).end ≡ some x → shown_from m bytes (m.move s a) (answers ++ more) ≡ shown_from m bytes (m.move s a) answers)
        → shown_from m bytes s (a ∷ (answers ++ more)) ≡ shown_from m bytes s (a ∷ answers)
    go true e h = ended_shown m bytes s (a ∷ answers) more e
    go false e h = ap (seen_answered bytes (m.need s) a) (h (sym (answered_end bytes (m.need s) a (shown_from m bytes (m.move s a) answers) e) ∙ q))

-- an entry that lends nothing to read
abbrev pub unread : Entry → Entry
unread c = record { begin = λ b r. c.begin b []; step = λ b r a. c.step b [] a }

pub nothing_read : (r : List ℕ) → length r ≡ 0 → r ≡ []
nothing_read [] e = refl
nothing_read (x ∷ r) e = absurd (omega (arith, e))

pub carries_unread : {m : Machine} {bytes : List ℕ} {c : Entry} {image : m.State → List ℕ} {Good : m.State → Type 0} → Carries m bytes 0 c image Good → Carries m bytes 0 (unread c) image Good
carries_unread {m} {bytes} {c} {image} {Good} k =
    record {
      stays = k.stays;
      taken =
          λ s r a g e q.
          k.taken s [] a g refl q
          ∙ ap (λ (x : List ℕ). left (filled bytes (m.need (m.move s a))) (image (m.move s a)) (kept (m.need s) a x)) (sym (nothing_read r e));
      ended = λ s r a g e q. k.ended s [] a g refl q ∙ ap (λ (x : List ℕ). refused_with InvalidState (image s) x) (sym (nothing_read r e));
    }

-- ---- a call on a block that is a machine's run

module _ {c : OnBlock} {m : Machine} {at : m.State → c.machine.State} {Reached : m.State → Type 0} (run : IsRun c m at Reached) (bytes : List ℕ) where
  module _ (s : m.State) (r : List ℕ) (a : ℕ) (g : Reached s) where
    abbrev by_held : Option c.machine.State → Left
    by_held o = begin_left bytes (cond (not (is_end (owed_by c o))) (moved_by c o (c.image (at s)) a) (refused InvalidState (c.image (at s)))) (kept (owed_by c o) a r)

    step_taken : is_end (m.need s) ≡ false → step_left c bytes (c.image (at s)) r a ≡ left (filled bytes (m.need (m.move s a))) (c.image (at (m.move s a))) (kept (m.need s) a r)
    unfolding step_on
    step_taken e = ap by_held (run.held s g) ∙ rw (run.needs s, e, run.moves s a, run.needs (m.move s a))

    step_ended : is_end (m.need s) ≡ true → step_left c bytes (c.image (at s)) r a ≡ refused_with InvalidState (c.image (at s)) r
    unfolding step_on
    step_ended e = ap by_held (run.held s g) ∙ rw (run.needs s, e, end_keeps (m.need s) a r e)

  -- an entry whose step is that call's, with so many bytes to read
  pub carries : (e : Entry) (room : ℕ) → ((b r : List ℕ) (a : ℕ) → length r ≡ room → e.step b r a ≡ step_left c bytes b r a) → Carries m bytes room e (λ s. c.image (at s)) Reached
  carries e room step =
      record {
        stays = run.stays;
        taken = λ s r a g l k. step (c.image (at s)) r a l ∙ step_taken s r a g k;
        ended = λ s r a g l k. step (c.image (at s)) r a l ∙ step_ended s r a g k;
      }
