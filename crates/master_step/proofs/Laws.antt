-- What a block says, what a store makes of it, and what the words read from it are; a step is taken or refused.
-- Assumes nothing.
use mathlib.Core.Path.{◌≡◌, refl, sym, ap, subst, ◌∙◌}
use mathlib.Core.Bool.{Bool, true, false, cond, ◌&&◌, true≢false}
use mathlib.Core.List.{List}
use Prim.Native.Nat.{ℕ, pred, ◌+◌, ◌*◌, ◌%◌, ◌/◌}
use native.Mathlib.Omega.{arith}
use lib.ListN.{get_or, set}
use Rattle.access.specs.declared.need.Need.{Need}
use Rattle.access.specs.Endings.{Ending, done}
use Rattle.block.specs.Bytes32.{bytes_of, word_at, with_word}
use Rattle.block.proofs.Codec.{said_back}
use Rattle.images.specs.EndImage.{KeepsEnd, with_ending}
use Rattle.images.specs.MasterImage.{master_fields, master_of}
use Rattle.images.specs.Numbers.{flag_number, chip_of}
use Rattle.images.proofs.EndImageLaws.{keeps_end, put_says}
use Rattle.images.proofs.MasterImageLaws.{master_back}
use Rattle.images.proofs.NumberLaws.{chip_back}
use Rattle.operations.specs.declared.search.Run.{Run}
use Rattle.operations.specs.Operations.{is_read}
use Rattle.master.specs.declared.call.Call.{Call}
use Rattle.master.specs.declared.call.Setting.{Setting}
use Rattle.master.specs.declared.stage.Stage.{Stage}
use Rattle.master.specs.declared.stage.Stage.TheVariants.{Ended}
use Rattle.master.specs.declared.state.Move.{Move}
use Rattle.master.specs.declared.state.Progress.{Progress}
use Rattle.master.specs.declared.state.State.{State}
use Rattle.master.specs.Machine.{to, owed_at, saves, saves_divider, saves_rise, byte_done, begun, next_run, next16, ends_with}
use Rattle.master.specs.Fits.{counts, runs}
use Rattle.master.specs.Calls.{setting_of}
use Rattle.master.specs.Steps.{state_at}
use Rattle.stage_numbers.specs.MasterStage.{stage_group, stage_what, stage_phase, stage_of}
use Rattle.master_step.specs.declared.here.Here.{Here}
use Rattle.master_step.specs.Going.{here_of}
use Rattle.master_step.specs.Held.{Goes, Puts, fields_at, block_at, Stand, bytes, stand_in, run_in, Moves, Refuses, Steps, Seen}

-- ---- what a block says

said : (c : Call) (d : Progress) (g w p : ℕ) → master_of (fields_at c d g w p) ≡ state_at c (to (stage_of g w p) d)
unfolding master_of fields_at master_fields
said c d g w p = ap (λ (s : State). record { call = s.call; stage = stage_of g w p; progress = s.progress }) (master_back (state_at c (to Ended d)))

pub stand_back : (c : Call) (d : Progress) (g w p : ℕ) → stand_in (block_at c d g w p) ≡ record { call = c; progress = d; group = g; what = w; phase = p }
unfolding stand_in block_at bytes_of fields_at
stand_back c d g w p = ap (λ (s : State). record { call = s.call; progress = s.progress; group = g; what = w; phase = p }) (ap master_of (said_back (fields_at c d g w p)) ∙ said c d g w p)

-- a block with the numbers of a stage is the state's
pub image : (c : Call) (d : Progress) (st : Stage) → bytes_of (master_fields (state_at c (to st d))) ≡ block_at c d (stage_group st) (stage_what st) (stage_phase st)
unfolding block_at fields_at master_fields
image c d st = refl

pub moves : {c : Call} {after : List ℕ} {asked : Need} {st : Stage} {d : Progress} → after ≡ block_at c d (stage_group st) (stage_what st) (stage_phase st) → asked ≡ owed_at (setting_of c) st d → Moves c (to st d) after asked
moves {c} {st = st} {d = d} e n = record { block = e ∙ sym (image c d st); owed = n }

-- ---- the words read from it

word_back : (n : ℕ) → n % 256 + n / 256 * 256 ≡ n
word_back n = omega arith

module _ (c : Call) (d : Progress) (g w p : ℕ) where
  pub run_at : word_at (block_at c d g w p) 10 ≡ d.run
  unfolding block_at bytes_of fields_at
  run_at = word_back d.run

  pub left_at : word_at (block_at c d g w p) 12 ≡ d.left
  unfolding block_at bytes_of fields_at
  left_at = word_back d.left

  pub place_at : word_at (block_at c d g w p) 14 ≡ d.place
  unfolding block_at bytes_of fields_at
  place_at = word_back d.place

  pub word_told : word_at (block_at c d g w p) 16 ≡ d.word
  unfolding block_at bytes_of fields_at
  word_told = word_back d.word

  pub address_told : word_at (block_at c d g w p) 8 ≡ c.address
  unfolding block_at bytes_of fields_at
  address_told = word_back c.address

  pub divider_at : word_at (block_at c d g w p) 18 ≡ d.divider
  unfolding block_at bytes_of fields_at
  divider_at = word_back d.divider

  pub rise_at : word_at (block_at c d g w p) 20 ≡ d.rise
  unfolding block_at bytes_of fields_at
  rise_at = word_back d.rise

  pub flag_at : get_or (block_at c d g w p) 6 0 ≡ flag_number d.reading
  unfolding block_at bytes_of fields_at
  flag_at = refl

  pub chip_at : chip_of (get_or (block_at c d g w p) 1 0) ≡ c.chip
  unfolding block_at bytes_of fields_at
  chip_at = chip_back c.chip

  -- how the call is to end
  pub end_at : KeepsEnd (block_at c d g w p) d.ending
  unfolding block_at fields_at
  end_at = keeps_end (fields_at c d g w p) d.ending refl refl refl

pub end_kept : (c : Call) (d : Progress) (g w p : ℕ) {b : List ℕ} → block_at c d g w p ≡ b → KeepsEnd b d.ending
end_kept c d g w p e = subst (λ (x : List ℕ). KeepsEnd x d.ending) e (end_at c d g w p)

-- the run that is known of is the run of its direction
pub direction_told : (h : Here) → is_read (run_in h).direction ≡ h.reading
direction_told h = go h.reading
  where
    go : (b : Bool) → is_read (run_in (record { reading = b; length = h.length; before = h.before; more = h.more; start = h.start; stops = h.stops; nack = h.nack })).direction ≡ b
    go true = refl
    go false = refl

-- ---- the stores

module _ (c : Call) (d : Progress) (g w p : ℕ) {b : List ℕ} (e : block_at c d g w p ≡ b) where
  pub to_stage : (group what phase : ℕ) → block_at c d group what phase ≡ set (set (set b 3 group) 4 what) 5 phase
  unfolding block_at bytes_of fields_at
  to_stage group what phase = ap (λ (x : List ℕ). set (set (set x 3 group) 4 what) 5 phase) e

  pub to_phase : (phase : ℕ) → block_at c d g w phase ≡ set b 5 phase
  unfolding block_at bytes_of fields_at
  to_phase phase = ap (λ (x : List ℕ). set x 5 phase) e

  pub saved : (v : ℕ) → block_at c (saves v d) g w p ≡ with_word b 16 v
  unfolding block_at bytes_of fields_at
  saved v = ap (λ (x : List ℕ). with_word x 16 v) e

  pub saved_divider : (v : ℕ) → block_at c (saves_divider v d) g w p ≡ with_word b 18 v
  unfolding block_at bytes_of fields_at
  saved_divider v = ap (λ (x : List ℕ). with_word x 18 v) e

  pub saved_rise : (v : ℕ) → block_at c (saves_rise v d) g w p ≡ with_word b 20 v
  unfolding block_at bytes_of fields_at
  saved_rise v = ap (λ (x : List ℕ). with_word x 20 v) e

  pub done_byte : (left place : ℕ) → left ≡ pred d.left → place ≡ next16 (word_at b 14) → block_at c (byte_done d) g w p ≡ with_word (with_word b 12 left) 14 place
  unfolding block_at bytes_of fields_at
  done_byte left place l q = rw (l, q, ← e, word_back d.place) refl

  pub begun_here : (h : Here) (marks : ℕ) → marks ≡ flag_number h.reading → block_at c (begun (run_in h) d) g w p ≡ with_word (with_word (set b 6 marks) 12 h.length) 14 h.before
  unfolding block_at bytes_of fields_at
  begun_here h marks m = rw (m, ← e, direction_told h) refl

  pub next_begun : (run : ℕ) → run ≡ next16 (word_at b 10) → block_at c (next_run d) g w p ≡ with_word (with_word (with_word (set b 6 0) 10 run) 12 0) 14 0
  unfolding block_at bytes_of fields_at
  next_begun run q = rw (q, ← e, word_back d.run) refl

  pub ends_at : (x : Ending) → block_at c (ends_with x d) g w p ≡ with_ending x b
  unfolding block_at fields_at
  ends_at x = sym (put_says x (fields_at c d g w p)) ∙ ap (with_ending x) e

-- ---- a step

pub takes : {t : Bool} {c : Call} {m : Move} {before after : List ℕ} {asked : Need} → t ≡ true → Moves c m after asked → Steps t c m before after asked
takes e m = record { taken = λ _. m; refused = λ k. absurd (true≢false (sym e ∙ k)) }

pub refuses : {t : Bool} {c : Call} {m : Move} {before after : List ℕ} {asked : Need} → t ≡ false → Refuses before after asked → Steps t c m before after asked
refuses e n = record { taken = λ k. absurd (true≢false (sym k ∙ e)); refused = λ _. n }

-- within a run whose counts are right, with no error met, the group's own test decides
pub decides : (r : Run) (d : Progress) (b : Bool) → counts r d ≡ true → d.ending ≡ done → runs r b d ≡ b
decides r d b e n = rw (e, n)

-- what a step knows is what there is to know
pub record Going (c : Call) (r : Run) (d : Progress) (here : Here) : Type 0 where
  pub going : here ≡ here_of c r d
  pub ending : d.ending ≡ done

pub going : {here : Here} {left : ℕ} {s : Stand} {b : List ℕ} → Seen here left s b → Going s.call (run_in here) s.progress here
going {here} e = record { going = λ i. record { reading = sym e.reading i; length = here.length; before = here.before; more = here.more; start = sym e.start i; stops = sym e.stops i; nack = sym e.nack i }; ending = e.ending }

and_true : (b : Bool) → b && true ≡ b
and_true true = refl
and_true false = refl

-- a test of two parts, the second of which holds
pub stepped : {t u v : Bool} {c : Call} {m : Move} {before after : List ℕ} {asked : Need} → t ≡ u && v → v ≡ true → Steps u c m before after asked → Steps t c m before after asked
stepped {u = u} {c = c} {m = m} {before = before} {after = after} {asked = asked} e h s =
    subst (λ (x : Bool). Steps x c m before after asked) (sym (e ∙ ap (λ (b : Bool). u && b) h ∙ and_true u)) s

-- a store, and a move, in the block of the call c
pub puts_told : (f : Stand → Stand) (c : Call) (d : Progress) (g w p : ℕ) {b after : List ℕ} → Puts b after f → block_at c d g w p ≡ b → bytes (f (record { call = c; progress = d; group = g; what = w; phase = p })) ≡ after
puts_told f c d g w p {b} {after} puts e = subst (λ (s : Stand). bytes s ≡ b → bytes (f s) ≡ after) (ap stand_in (sym e) ∙ stand_back c d g w p) puts e

-- a move behind stores that have made this of the block
pub goes_at : (m : Setting → Run → Progress → Move) (s : Stand) {here : Here} {left : ℕ} {b after : List ℕ} {asked : Need} → Goes here left b after asked m → Seen here left s b → Moves s.call (m (setting_of s.call) (run_in here) s.progress) after asked
goes_at m s {here} {left} {b} {after} {asked} goes k =
    subst (λ (x : Stand). Seen here left x b → Moves x.call (m (setting_of x.call) (run_in here) x.progress) after asked) (ap stand_in (sym k.held) ∙ stand_back s.call s.progress s.group s.what s.phase) goes k

-- a choice by a test that is known
module _ {t : Bool} {c : Call} {after : List ℕ} {asked : Need} where
  pub first : {x : Move} (y : Move) → t ≡ true → Moves c x after asked → Moves c (cond t x y) after asked
  first {x} y e m = subst (λ (b : Bool). Moves c (cond b x y) after asked) (sym e) m

  pub second : (x : Move) {y : Move} → t ≡ false → Moves c y after asked → Moves c (cond t x y) after asked
  second x {y} e m = subst (λ (b : Bool). Moves c (cond b x y) after asked) (sym e) m

-- a move from a kind that is told
pub as_told : {A : Type 0} (m : A → Move) {x y : A} {c : Call} {after : List ℕ} {asked : Need} → x ≡ y → Moves c (m y) after asked → Moves c (m x) after asked
as_told m {c = c} {after = after} {asked = asked} e = subst (λ v. Moves c (m v) after asked) (sym e)
