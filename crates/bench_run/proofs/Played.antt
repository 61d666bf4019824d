-- What the bench plays of a call that follows a program is what is seen of the program on the same answers, if there are turns enough.
-- Assumes nothing.
use Rattle.access.specs.Endings.{Ending}
use mathlib.Core.Path.{◌≡◌, refl, sym, ap, ◌∙◌}
use mathlib.Core.Bool.{Bool, true, false, true≢false}
use mathlib.Core.List.{List, [], ◌∷◌, ◌++◌, append_assoc}
use mathlib.Core.Option.{none, some}
use Prim.Native.Nat.{ℕ, zero, suc, ◌+◌, ◌-◌, ◌*◌, ◌≤◌, ◌<◌}
use native.Mathlib.Nat.{add_assoc, add-zero}
use native.Mathlib.Omega.{arith}
use lib.ListN.{length, get_or, take, drop, set, length-drop}
use lib.Seq.{get_or-drop, drop-drop}
use Rattle.access.specs.declared.next.Next.TheVariants as next
use Rattle.access.specs.Program.{Access, read, write, send, clock, Program, finish, access, keep, cut}
use Rattle.access.specs.Record.{Shown, no_more, event, shown_of, answer_to}
use Rattle.call.specs.Left.{Left}
use Rattle.ch32_i2c.specs.Fed.{Entry, next_of, stored}
use Rattle.ch32_i2c.specs.Demands.{transaction, entry_of}
use Rattle.ch32_i2c.specs.Transfer.{transaction_step}
use Rattle.bench_text.specs.Shown.{arrived_text}
use Rattle.bench_run.specs.Play.{asked, arriving, is_end, access_text, finish_text, play_from}
use Rattle.bench_run.proofs.PlayLaws.{play_over, play_ended, play_open, play_on}
use Rattle.bench_run.specs.Laid.{takes_answer, next_answer, handed, laid}
use Rattle.bench_run.specs.Layer1.{lines_of, used_in, end_line}
use Rattle.bench_run.proofs.Counts.{arriving_in, Few, few_keep, few_answered, some_left, few_written}
use Rattle.bench_run.proofs.Follows.{Follows, owes_end, owes_access, owes_something, follows_keep, follows_step}

-- ---- one access

no_end : (x : Access) → is_end (next_of x) ≡ false
no_end (read r) = refl
no_end (write r v) = refl
no_end (send b) = refl
no_end clock = refl

asks_one : (x : Access) → takes_answer x ≡ true → asked (next_of x) ≡ 1
asks_one (read r) t = refl
asks_one (write r v) t = absurd (true≢false (sym t))
asks_one (send b) t = absurd (true≢false (sym t))
asks_one clock t = refl

asks_none : (x : Access) → takes_answer x ≡ false → asked (next_of x) ≡ 0
asks_none (read r) t = absurd (true≢false t)
asks_none (write r v) t = refl
asks_none (send b) t = refl
asks_none clock t = absurd (true≢false t)

-- what is printed of what is seen, with these bytes read, and so many answers used and bytes arrived before
abbrev pub text_from : Shown → List ℕ → ℕ → ℕ → List ℕ
text_from s bytes used arrived = lines_of s.events ++ (arrived_text (take (arrived + arriving_in s.events) (stored s.arrivals bytes)) ++ end_line s.end (used + used_in s.events))

-- a line before
with_line : (x : Access) (a : ℕ) (s : Shown) (bytes : List ℕ) (used arrived : ℕ)
    → access_text (next_of x) a ++ text_from s bytes (used + asked (next_of x)) (arrived + arriving (next_of x)) ≡ text_from (event x (answer_to x a) s) bytes used arrived
with_line (read r) a s bytes used arrived = simp (append_assoc, add_assoc)
with_line (write r v) a s bytes used arrived = simp (append_assoc, add_assoc)
with_line (send b) a s bytes used arrived = simp (append_assoc, add_assoc)
with_line clock a s bytes used arrived = simp (append_assoc, add_assoc)

-- ---- the play

module _ (chip address : ℕ) (list written answers : List ℕ) where
  abbrev entry : Entry
  entry = entry_of (transaction chip address list written)

  module _ (turns used arrived : ℕ) (h : Left) where
    abbrev plays : List ℕ → Type 0
    plays text = play_from turns list written answers h used arrived ≡ text

    -- the last lines, with turns left or none
    abbrev last : List ℕ
    last = finish_text h.next (take arrived h.read) used

    last_lines : ((n : ℕ) → play_from (suc n) list written answers h used arrived ≡ last) → plays last
    last_lines f = go turns
      where
        go : (n : ℕ) → play_from n list written answers h used arrived ≡ last
        go zero = play_over list written answers h used arrived zero (omega arith)
        go (suc n) = f n

    stops : is_end h.next ≡ true → plays last
    stops e = last_lines (λ n. play_ended list written answers h used arrived (suc n) (omega arith) e)

    waits : is_end h.next ≡ false → length answers < used + asked h.next → plays last
    waits e l = last_lines (λ n. play_open list written answers h used arrived (suc n) (omega arith) e l)

    ended : {e : Ending} {bytes : List ℕ} → h.next ≡ next.End e → h.read ≡ bytes → plays (text_from (no_more (some e)) bytes used arrived)
    ended p q = stops (rw p) ∙ rw (p, q, add-zero arrived, add-zero used)

    open_at : (x : Access) {bytes : List ℕ} → takes_answer x ≡ true → h.next ≡ next_of x → h.read ≡ bytes → length answers ≤ used → plays (text_from (event x none (no_more none)) bytes used arrived)
    open_at (read r) t p q l = waits (rw p) (rw p (omega arith)) ∙ rw (p, q, add-zero arrived, add-zero used)
    open_at (write r v) t p q l = absurd (true≢false (sym t))
    open_at (send b) t p q l = absurd (true≢false (sym t))
    open_at clock t p q l = waits (rw p) (rw p (omega arith)) ∙ rw (p, q, add-zero arrived, add-zero used)

    goes_on : (x : Access) (a : ℕ) → h.next ≡ next_of x → used + asked (next_of x) ≤ length answers → 0 < turns → get_or answers used 0 ≡ a
        → plays (access_text (next_of x) a ++ play_from (turns - 1) list written answers (transaction_step h.block list written h.read a) (used + asked (next_of x)) (arrived + arriving (next_of x)))
    goes_on x a p fit pos g = play_on list written answers h used arrived turns pos (rw p (no_end x)) (rw p fit) ∙ rw (p, g)

  -- ---- the answers that are left

  none_left : (used : ℕ) → drop used answers ≡ [] → length answers ≤ used
  none_left used e = omega (arith, length-drop used answers, ap length e)

  first_left : (used : ℕ) (left : List ℕ) → drop used answers ≡ left → get_or answers used 0 ≡ get_or left 0 0
  first_left used left e = ap (λ (i : ℕ). get_or answers i 0) (sym (add-zero used)) ∙ sym (get_or-drop used answers 0 0) ∙ ap (λ (l : List ℕ). get_or l 0 0) e

  one_left : (used a : ℕ) (left : List ℕ) → drop used answers ≡ a ∷ left → (used < length answers) × ((get_or answers used 0 ≡ a) × (drop (used + 1) answers ≡ left))
  one_left used a left e = (
    omega (arith, length-drop used answers, ap length e),
    (
      first_left used (a ∷ left) e,
      sym (drop-drop 1 used answers) ∙ ap (λ (l : List ℕ). drop 1 l) e,
    ),
  )

  next_left : (used : ℕ) (left : List ℕ) → drop used answers ≡ left → get_or answers used 0 ≡ next_answer left
  next_left used [] e = first_left used [] e
  next_left used (a ∷ left) e = first_left used (a ∷ left) e

  -- ---- from what was left on: w writes are paid for, and each answer that is left pays for itself and two more

  abbrev Plays : Program → Type 0
  Plays p = (turns w n at used arrived : ℕ) (bytes left : List ℕ) (h : Left) → Follows entry n at p bytes h → Few w n at p → drop used answers ≡ left → used ≤ length answers
      → w + 3 * length left < n → w + 3 * length left ≤ turns → play_from turns list written answers h used arrived ≡ text_from (shown_of at p (laid p left)) bytes used arrived

  access_plays : (x : Access) (k : ℕ → Program) → ((a : ℕ) → Plays (k a)) → Plays (access x k)
  access_plays x k again turns w n at used arrived bytes left h f c d u l m = go (takes_answer x) refl left d l m
    where
      owes : h.next ≡ next_of x
      owes = owes_access entry (omega arith) f

      go : (t : Bool) → takes_answer x ≡ t → (left : List ℕ) → drop used answers ≡ left → w + 3 * length left < n → w + 3 * length left ≤ turns
          → play_from turns list written answers h used arrived ≡ text_from (shown_of at (access x k) (handed t left (λ a left. a ∷ laid (k a) left))) bytes used arrived
      go true t [] d l m = open_at turns used arrived h x t owes (f.read_is [] (omega arith)) (none_left used d)
      go true t (a ∷ left) d l m =
          let q = one_left used a left d in
          let o = asks_one x t in
          goes_on turns used arrived h x a owes (rw o (omega (arith, q.0))) (omega arith) q.1.0
          ∙ ap (λ (r : List ℕ). access_text (next_of x) a ++ r)
          (again a (turns - 1) (w + 2) (n - 1) at (used + asked (next_of x)) (arrived + arriving (next_of x)) bytes left _ (follows_step entry f (omega arith) a) (few_answered x t c (omega arith) a)
          (rw o q.1.1) (rw o (omega (arith, q.0))) (omega arith) (omega arith))
          ∙ with_line x a (shown_of at (k a) (laid (k a) left)) bytes used arrived
      go false t left d l m =
          let a = next_answer left in
          let o = asks_none x t in
          let v = some_left x t c (omega arith) in
          goes_on turns used arrived h x a owes (rw o (omega arith)) (omega arith) (next_left used left d)
          ∙ ap (λ (r : List ℕ). access_text (next_of x) a ++ r)
          (again a (turns - 1) (w - 1) (n - 1) at (used + asked (next_of x)) (arrived + arriving (next_of x)) bytes left _ (follows_step entry f (omega arith) a) (few_written x t c (omega arith) (omega arith) a)
          (rw (o, add-zero used) d) (rw o (omega arith)) (omega arith) (omega arith))
          ∙ with_line x a (shown_of at (k a) (laid (k a) left)) bytes used arrived

  pub play_is : (p : Program) → Plays p
  play_is (finish e) turns w n at used arrived bytes left h f c d u l m = ended turns used arrived h (owes_end entry (omega arith) f) (f.read_is [] (omega arith))
  play_is cut turns w n at used arrived bytes left h f c d u l m = absurd (owes_something entry (omega arith) f)
  play_is (keep b p) turns w n at used arrived bytes left h f c d u l m = play_is p turns w n (suc at) used arrived (set bytes at b) left h (follows_keep entry f) (few_keep c) d u l m
  play_is (access x k) turns w n at used arrived bytes left h f c d u l m = access_plays x k (λ a. play_is (k a)) turns w n at used arrived bytes left h f c d u l m
