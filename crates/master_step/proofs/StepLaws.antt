-- What is seen before a step is what its group asks for.
-- Assumes nothing.
use Prim.Native.Nat.{ℕ, ◌<◌}
use native.Mathlib.Omega.{arith}
use mathlib.Core.Path.{◌≡◌, refl, sym, ap, subst, ◌∙◌}
use mathlib.Core.Bool.{Bool, true, false, cond, ◌&&◌, ◌||◌, true≢false}
use mathlib.Core.List.{List}
use lib.Dec.{eqb, ltb}
use lib.ListN.{get_or}
use borrow.Author.Tests.{eq-eqb, ne_eqb}
use Rattle.access.proofs.Choice.{first_true, second_true, true_same}
use Rattle.access.proofs.EndingLaws.{ended_done}
use Rattle.access.specs.declared.need.Need.{Need}
use Rattle.access.specs.Endings.{done, is_done}
use Rattle.block.specs.Bytes32.{word_at}
use Rattle.errors.specs.Met.{has_failed}
use Rattle.operations.specs.declared.operation.Direction.{Direction}
use Rattle.operations.specs.declared.operation.Direction.TheVariants.{Read, Write}
use Rattle.operations.specs.declared.search.Run.{Run}
use Rattle.operations.specs.Operations.{is_read}
use Rattle.master.specs.declared.call.Call.{Call}
use Rattle.master.specs.declared.call.Setting.{Setting}
use Rattle.master.specs.declared.state.Move.{Move}
use Rattle.master.specs.declared.state.Progress.{Progress}
use Rattle.master.specs.Machine.{advance_at, abort_transfer, stops_here}
use Rattle.master.specs.Fits.{counts, fits_at, fits_abort}
use Rattle.master.specs.Calls.{setting_of}
use Rattle.stage_numbers.specs.MasterStage.{is_stage, stage_of, abort_stage_of}
use Rattle.master_step.specs.declared.here.Here.{Here}
use Rattle.master_step.specs.Going.{here_in}
use Rattle.master_step.specs.Held.{call_in, progress_in, ready_at, Moves, Goes, Numbers, block_at, Stand, bytes, stand_in, run_in, Seen, Unbegun, Told, Ready, Steps, StepHere, StepIn, is_taken, stage_in}
use Rattle.master_step.proofs.Laws.{stand_back, left_at, direction_told, goes_at}

only_second : (a b : Bool) → a ≡ false → a || b ≡ true → b ≡ true
only_second true b e h = absurd (true≢false e)
only_second false b e h = h

module _ (s : Stand) {here : Here} {left : ℕ} {b : List ℕ} (k : Ready here left s b) where
  abbrev ends : Bool → Bool
  ends t = cond t (has_failed s.call.chip true s.progress.ending) (ltb s.group 9 && is_done s.progress.ending)

  tested : {t : Bool} → s.group < 10 → eqb s.group 9 ≡ t → ends t ≡ true
  tested o q = ap ends (sym q) ∙ second_true (eqb s.group 0 || counts (run_in here) s.progress) (ends (eqb s.group 9)) (k.ready o)

  unhurt : (n : ℕ) → s.group ≡ n → n < 9 → s.progress.ending ≡ done
  unhurt n e h = ended_done s.progress.ending (second_true (ltb s.group 9) (is_done s.progress.ending) (tested (omega arith) (ne_eqb s.group 9 (λ z. omega arith))))

  pub counted : (n : ℕ) → s.group ≡ n → 0 < n → n < 10 → counts (run_in here) s.progress ≡ true
  counted n e h l = only_second (eqb s.group 0) (counts (run_in here) s.progress) (ne_eqb s.group 0 (λ z. omega arith)) (first_true (eqb s.group 0 || counts (run_in here) s.progress) (ends (eqb s.group 9)) (k.ready (omega arith)))

  pub unstarted : s.group ≡ 0 → Unbegun here left s b
  unstarted e = record { held = k.told.held; start = k.told.start; stops = k.told.stops; nack = k.told.nack; rest = k.rest; ending = unhurt 0 e (omega arith) }

  -- the direction of the progress is that of the run
  direction : counts (run_in here) s.progress ≡ true → s.progress.reading ≡ here.reading
  direction n = true_same (is_read (run_in here).direction) s.progress.reading (first_true _ _ n) ∙ direction_told here

  pub seen : (n : ℕ) → s.group ≡ n → 0 < n → n < 9 → Seen here left s b
  seen n e h l = record { held = k.told.held; start = k.told.start; stops = k.told.stops; nack = k.told.nack; reading = direction (counted n e h (omega arith)); rest = k.rest; ending = unhurt n e l }

  -- in an abort the run's counts and the error are known
  pub aborting : (w p a : ℕ) {after : List ℕ} {asked : Need} → s.group ≡ 9
      → Steps (is_stage 9 w p && fits_abort s.call.chip (abort_stage_of p)) s.call (abort_transfer s.call.chip (abort_stage_of p) s.progress a) b after asked
      → Steps (ltb 9 10 && (is_stage 9 w p && fits_at (setting_of s.call) (run_in here) (stage_of 9 w p) s.progress)) s.call (advance_at (setting_of s.call) (run_in here) (stage_of 9 w p) s.progress a) b after asked
  aborting w p a {after} {asked} e t =
      let hurt : has_failed s.call.chip true s.progress.ending ≡ true = tested (omega arith) (eq-eqb s.group 9 e) in
      let count : counts (run_in here) s.progress ≡ true = counted 9 e (omega arith) (omega arith) in
      subst (λ (x : Bool). Steps x s.call (abort_transfer s.call.chip (abort_stage_of p) s.progress a) b after asked)
      (λ i. is_stage 9 w p && (sym count i && (sym hurt i && fits_abort s.call.chip (abort_stage_of p)))) t

-- the numbers of a stage, its group written in another way
pub numbered : {g n w p : ℕ} {s : Stand} → g ≡ n → Numbers g w p s → Numbers n w p s
numbered e k = record { group_is = k.group_is ∙ e; what_is = k.what_is; phase_is = k.phase_is }

-- the numbers of the block
pub numbers_in : (b : List ℕ) {g : ℕ} → get_or b 3 0 ≡ g → Numbers g (get_or b 4 0) (get_or b 5 0) (stand_in b)
unfolding stand_in
numbers_in b e = record { group_is = e; what_is = refl; phase_is = refl }

pub ready_told : (b : List ℕ) (here : Here) {g : ℕ} → get_or b 3 0 ≡ g → ready_at (call_in b).chip g (run_in here) (progress_in b) ≡ true → ready_at (call_in b).chip (stand_in b).group (run_in here) (progress_in b) ≡ true
unfolding stand_in
ready_told b here e h = ap (λ (n : ℕ). ready_at (call_in b).chip n (run_in here) (progress_in b)) e ∙ h

pub left_told : (s : Stand) (b : List ℕ) → bytes s ≡ b → s.progress.left ≡ word_at b 12
left_told s b e = sym (left_at s.call s.progress s.group s.what s.phase) ∙ ap (λ (x : List ℕ). word_at x 12) e

-- ---- of all calls and runs that the block and what is known may be of

pub run_told : (c : Call) (r : Run) (here : Here) → here ≡ here_in c r (is_read r.direction) → run_in here ≡ r
run_told c r here e = rw e (ap (λ (x : Direction). record { direction = x; length = r.length; before = r.before; more = r.more }) (direction_back r.direction))
  where
    direction_back : (x : Direction) → cond (is_read x) Read Write ≡ x
    direction_back Read = refl
    direction_back Write = refl

pub step_told : (here : Here) (a : ℕ) {b after : List ℕ} {asked : Need} → StepHere here a b after asked → StepIn here a b after asked
step_told here a {b} {after} {asked} steps c r d k =
    let say : stand_in b ≡ record { call = c; progress = d; group = get_or b 3 0; what = get_or b 4 0; phase = get_or b 5 0 } = ap stand_in k.held ∙ stand_back c d (get_or b 3 0) (get_or b 4 0) (get_or b 5 0) in
    let run : run_in here ≡ r = run_told c r here k.going in
    let told : Told here (record { call = c; progress = d; group = get_or b 3 0; what = get_or b 4 0; phase = get_or b 5 0 }) b =
    record {
      held = sym k.held;
      start = sym (ap (λ (h : Here). h.start) k.going);
      stops = ap (stops_here (setting_of c)) run ∙ sym (ap (λ (h : Here). h.stops) k.going);
      nack = sym (ap (λ (h : Here). h.nack) k.going);
    } in
    let at_stand = λ (s : Stand). Told here s b → Steps (is_taken s.call (run_in here) s.progress b) s.call (advance_at (setting_of s.call) (run_in here) (stage_in b) s.progress a) b after asked in
    subst (λ (x : Run). Steps (is_taken c x d b) c (advance_at (setting_of c) x (stage_in b) d a) b after asked) run (subst at_stand say steps told)

-- a move in the block of the call c
pub goes_told : (m : Setting → Run → Progress → Move) (c : Call) (r : Run) (d : Progress) (g w p : ℕ) {here : Here} {left : ℕ} {b after : List ℕ} {asked : Need} → Goes here left b after asked m → block_at c d g w p ≡ b → here ≡ here_in c r (is_read r.direction) → d.left ≡ left → d.ending ≡ done → d.reading ≡ is_read r.direction
    → Moves c (m (setting_of c) r d) after asked
goes_told m c r d g w p {here} {left} {b} {after} {asked} goes e k l n x =
    let run : run_in here ≡ r = run_told c r here k in
    let seen : Seen here left (record { call = c; progress = d; group = g; what = w; phase = p }) b =
    record {
      held = e;
      start = sym (ap (λ (h : Here). h.start) k);
      stops = ap (stops_here (setting_of c)) run ∙ sym (ap (λ (h : Here). h.stops) k);
      nack = sym (ap (λ (h : Here). h.nack) k);
      reading = x ∙ sym (ap (λ (h : Here). h.reading) k);
      rest = l;
      ending = n;
    } in
    subst (λ (y : Run). Moves c (m (setting_of c) y d) after asked) run (goes_at m (record { call = c; progress = d; group = g; what = w; phase = p }) goes seen)
