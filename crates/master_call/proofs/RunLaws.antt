-- The runs of frames and write-reads, by how much is lent: what a step has to know there, and when there is none.
-- Assumes nothing.
use Prim.Native.Nat.{ℕ, ◌+◌, ◌≤◌, ◌<◌}
use mathlib.Core.Path.{◌≡◌, refl, sym, ◌∙◌}
use mathlib.Core.Bool.{Bool, true, false, cond, not, ◌&&◌, ◌||◌, true≢false}
use mathlib.Core.List.{List, [], ◌∷◌}
use native.Mathlib.Omega.{arith}
use borrow.Author.Tests.{eqb-true, eqb-false, leb-true, leb-false, ltb-true, ltb-false, lt-ltb, le-ltb}
use lib.Dec.{eqb, leb, ltb}
use lib.ListN.{length, get_or}
use Rattle.access.specs.declared.need.Need.{Need}
use Rattle.access.proofs.Choice.{first_true, second_true}
use Rattle.block.specs.Bytes32.{word_at, fields_of, Bytes}
use Rattle.block.proofs.WidthLaws.{byte_below}
use Rattle.operations.specs.declared.operation.Direction.TheVariants as direction
use Rattle.operations.specs.declared.search.Run.{Run}
use Rattle.operations.specs.Runs.{span}
use Rattle.master_lent.proofs.LookLaws.{first_run, only_run, second_run, no_second, no_third}
use Rattle.master.specs.Rust.{sends_start, sends_stop, sends_nack}
use Rattle.master.specs.Steps.{fits_lent}
use Rattle.access.proofs.Bytes.{bytes}
use Rattle.images.specs.MasterImage.{frame_options_of, master_of}
use Rattle.master_step.specs.declared.here.Here.{Here}
use Rattle.master_step.specs.Held.{Refuses, StepIn}
use Rattle.master_step.proofs.GroupLaws.{unset}
use Rattle.master_call.specs.CallStep.{is_call_of, held_in, here_by, few_enough, Stepped}
use Rattle.master_call.proofs.CallLaws.{refused_open, absent_open, not_open, in_run, no_call, own_entry, is_call_lem, is_ending_lem, held}

-- ---- what a frame asks, by the number of its option

start_is : (o : ℕ) → o < 256 → sends_start (frame_options_of o) ≡ ltb o 3
start_is = bytes (λ n. ltb n 3) (λ n. sends_start (frame_options_of n)) refl

stop_is : (o : ℕ) → o < 256 → sends_stop (frame_options_of o) ≡ eqb o 0 || eqb o 4
stop_is = bytes (λ n. eqb n 0 || eqb n 4) (λ n. sends_stop (frame_options_of n)) refl

nack_is : (o : ℕ) → o < 256 → sends_nack (frame_options_of o) ≡ not (eqb o 2 || eqb o 3)
nack_is = bytes (λ n. not (eqb n 2 || eqb n 3)) (λ n. sends_nack (frame_options_of n)) refl

-- STOP of the whole frame, where no run follows
pub stops_as : (more : Bool) → not more && true ≡ cond more false true
stops_as true = refl
stops_as false = refl

-- ---- the call of a block

-- the kind of a block's call
module _ (entry : ℕ) (b : List ℕ) (e : is_call_of entry b ≡ true) where
  pub entry_is : get_or b 0 0 ≡ entry
  unfolding fields_of
  entry_is = eqb-true (get_or b 0 0) entry (own_entry entry b e)

-- ---- a write

abbrev pub writing : List ℕ → ℕ → Bool
writing b w = is_call_of 4 b && (leb (word_at b 8) 127 && (leb w 65535 && eqb (word_at b 10) 0))

pub write_short : (b : List ℕ) (w : ℕ) → writing b w ≡ true → w ≤ 65535
write_short b w e = leb-true w 65535 (first_true (leb w 65535) _ (second_true (leb (word_at b 8) 127) _ (second_true (is_call_of 4 b) _ e)))

module _ (b : List ℕ) (w a : ℕ) (after : List ℕ) (asked : Need) where
  module _ (size : length b ≡ 32) (all : Bytes b) (e : writing b w ≡ true) where
    abbrev write_run : Run
    write_run = record { direction = direction.Write; length = w; before = 0; more = false }

    write_call : is_call_of 4 b ≡ true
    write_call = first_true (is_call_of 4 b) _ e

    write_address : word_at b 8 ≤ 127
    write_address = leb-true (word_at b 8) 127 (first_true (leb (word_at b 8) 127) _ (second_true (is_call_of 4 b) _ e))

    write_first : word_at b 10 ≡ 0
    write_first = eqb-true (word_at b 10) 0 (second_true (leb w 65535) _ (second_true (leb (word_at b 8) 127) _ (second_true (is_call_of 4 b) _ e)))

    pub write_steps : (here : Here) → here ≡ here_by false w 0 false (get_or b 2 0) → StepIn here a b after asked → Stepped (held_in 4 b) [] w 0 a b after asked
    unfolding master_of fields_of
    write_steps here h steps =
        held 4 b [] w 0 a after asked write_call
        (in_run b [] w 0 a after asked size all (is_call_lem 4 b write_call) (is_ending_lem 4 b write_call)
        (rw (entry_is 4 b write_call, le-ltb 127 (word_at b 8) write_address, le-ltb 65535 w (write_short b w e)))
        write_run
        (rw (entry_is 4 b write_call) (sym (only_run direction.Write w (word_at b 10) write_first)))
        here
        (h ∙ rw (entry_is 4 b write_call, start_is (get_or b 2 0) (byte_below b all 2), stop_is (get_or b 2 0) (byte_below b all 2), nack_is (get_or b 2 0) (byte_below b all 2)))
        steps)

  pub write_refused : writing b w ≡ false → Refuses b after asked → Stepped (held_in 4 b) [] w 0 a b after asked
  unfolding master_of fields_of fits_lent
  write_refused e r = go (is_call_of 4 b) (leb (word_at b 8) 127) (leb w 65535) (eqb (word_at b 10) 0) refl refl refl refl e
    where
      go : (c d l n : Bool) → is_call_of 4 b ≡ c → leb (word_at b 8) 127 ≡ d → leb w 65535 ≡ l → eqb (word_at b 10) 0 ≡ n → c && (d && (l && n)) ≡ false → Stepped (held_in 4 b) [] w 0 a b after asked
      go false d l n c-is d-is l-is n-is z = no_call 4 b [] w 0 a after asked c-is r
      go true false l n c-is d-is l-is n-is z =
          held 4 b [] w 0 a after asked c-is (not_open b [] w 0 a after asked (refused_open (master_of (fields_of b)) [] w 0 false refl (rw (entry_is 4 b c-is, lt-ltb 127 (word_at b 8) (leb-false (word_at b 8) 127 d-is)))) r)
      go true true false n c-is d-is l-is n-is z =
          held 4 b [] w 0 a after asked c-is (not_open b [] w 0 a after asked (refused_open (master_of (fields_of b)) [] w 0 false refl (rw (entry_is 4 b c-is, le-ltb 127 (word_at b 8) (leb-true (word_at b 8) 127 d-is), lt-ltb 65535 w (leb-false w 65535 l-is)))) r)
      go true true true false c-is d-is l-is n-is z =
          held 4 b [] w 0 a after asked c-is (not_open b [] w 0 a after asked (absent_open (master_of (fields_of b)) [] w 0 (rw (entry_is 4 b c-is, le-ltb 127 (word_at b 8) (leb-true (word_at b 8) 127 d-is), le-ltb 65535 w (leb-true w 65535 l-is)))
          (rw (entry_is 4 b c-is) (sym (no_second (span direction.Write w) (word_at b 10) (eqb-false (word_at b 10) 0 n-is))))) r)
      go true true true true c-is d-is l-is n-is z = absurd (true≢false z)

-- ---- a read

abbrev pub reading : List ℕ → ℕ → Bool
reading b n = is_call_of 5 b && (leb (word_at b 8) 127 && (not (eqb n 0) && (leb n 65535 && eqb (word_at b 10) 0)))

pub read_short : (b : List ℕ) (n : ℕ) → reading b n ≡ true → n ≤ 65535
read_short b n e = leb-true n 65535 (first_true (leb n 65535) _ (second_true (not (eqb n 0)) _ (second_true (leb (word_at b 8) 127) _ (second_true (is_call_of 5 b) _ e))))

module _ (b : List ℕ) (n a : ℕ) (after : List ℕ) (asked : Need) where
  module _ (size : length b ≡ 32) (all : Bytes b) (e : reading b n ≡ true) where
    abbrev read_run : Run
    read_run = record { direction = direction.Read; length = n; before = 0; more = false }

    read_call : is_call_of 5 b ≡ true
    read_call = first_true (is_call_of 5 b) _ e

    read_address : word_at b 8 ≤ 127
    read_address = leb-true (word_at b 8) 127 (first_true (leb (word_at b 8) 127) _ (second_true (is_call_of 5 b) _ e))

    read_filled : eqb n 0 ≡ false
    read_filled = unset (eqb n 0) (first_true (not (eqb n 0)) _ (second_true (leb (word_at b 8) 127) _ (second_true (is_call_of 5 b) _ e)))

    read_first : word_at b 10 ≡ 0
    read_first = eqb-true (word_at b 10) 0 (second_true (leb n 65535) _ (second_true (not (eqb n 0)) _ (second_true (leb (word_at b 8) 127) _ (second_true (is_call_of 5 b) _ e))))

    pub read_steps : (here : Here) → here ≡ here_by true n 0 false (get_or b 2 0) → StepIn here a b after asked → Stepped (held_in 5 b) [] 0 n a b after asked
    unfolding master_of fields_of
    read_steps here h steps =
        held 5 b [] 0 n a after asked read_call
        (in_run b [] 0 n a after asked size all (is_call_lem 5 b read_call) (is_ending_lem 5 b read_call)
        (rw (entry_is 5 b read_call, le-ltb 127 (word_at b 8) read_address, read_filled, le-ltb 65535 n (read_short b n e)))
        read_run
        (rw (entry_is 5 b read_call) (sym (only_run direction.Read n (word_at b 10) read_first)))
        here
        (h ∙ rw (entry_is 5 b read_call, start_is (get_or b 2 0) (byte_below b all 2), stop_is (get_or b 2 0) (byte_below b all 2), nack_is (get_or b 2 0) (byte_below b all 2)))
        steps)

  pub read_refused : reading b n ≡ false → Refuses b after asked → Stepped (held_in 5 b) [] 0 n a b after asked
  unfolding master_of fields_of fits_lent
  read_refused e r = go (is_call_of 5 b) (leb (word_at b 8) 127) (eqb n 0) (leb n 65535) (eqb (word_at b 10) 0) refl refl refl refl refl e
    where
      go : (c d z l k : Bool) → is_call_of 5 b ≡ c → leb (word_at b 8) 127 ≡ d → eqb n 0 ≡ z → leb n 65535 ≡ l → eqb (word_at b 10) 0 ≡ k → c && (d && (not z && (l && k))) ≡ false
          → Stepped (held_in 5 b) [] 0 n a b after asked
      go false d z l k c-is d-is z-is l-is k-is t = no_call 5 b [] 0 n a after asked c-is r
      go true false z l k c-is d-is z-is l-is k-is t =
          held 5 b [] 0 n a after asked c-is (not_open b [] 0 n a after asked (refused_open (master_of (fields_of b)) [] 0 n false refl (rw (entry_is 5 b c-is, lt-ltb 127 (word_at b 8) (leb-false (word_at b 8) 127 d-is)))) r)
      go true true true l k c-is d-is z-is l-is k-is t =
          held 5 b [] 0 n a after asked c-is (not_open b [] 0 n a after asked (refused_open (master_of (fields_of b)) [] 0 n false refl (rw (entry_is 5 b c-is, le-ltb 127 (word_at b 8) (leb-true (word_at b 8) 127 d-is), z-is))) r)
      go true true false false k c-is d-is z-is l-is k-is t =
          held 5 b [] 0 n a after asked c-is (not_open b [] 0 n a after asked (refused_open (master_of (fields_of b)) [] 0 n false refl (rw (entry_is 5 b c-is, le-ltb 127 (word_at b 8) (leb-true (word_at b 8) 127 d-is), z-is, lt-ltb 65535 n (leb-false n 65535 l-is)))) r)
      go true true false true false c-is d-is z-is l-is k-is t =
          held 5 b [] 0 n a after asked c-is (not_open b [] 0 n a after asked (absent_open (master_of (fields_of b)) [] 0 n (rw (entry_is 5 b c-is, le-ltb 127 (word_at b 8) (leb-true (word_at b 8) 127 d-is), z-is, le-ltb 65535 n (leb-true n 65535 l-is)))
          (rw (entry_is 5 b c-is) (sym (no_second (span direction.Read n) (word_at b 10) (eqb-false (word_at b 10) 0 k-is))))) r)
      go true true false true true c-is d-is z-is l-is k-is t = absurd (true≢false t)

-- ---- a write-read

abbrev pub both : List ℕ → ℕ → ℕ → Bool
both b w n = is_call_of 3 b && (leb (word_at b 8) 127 && (few_enough w n && ltb (word_at b 10) 2))

both_few : (b : List ℕ) (w n : ℕ) → both b w n ≡ true → few_enough w n ≡ true
both_few b w n e = first_true (few_enough w n) _ (second_true (leb (word_at b 8) 127) _ (second_true (is_call_of 3 b) _ e))

pub both_short : (b : List ℕ) (w n : ℕ) → both b w n ≡ true → w + n ≤ 65535
both_short b w n e = leb-true (w + n) 65535 (second_true (not (eqb n 0)) _ (both_few b w n e))

module _ (b : List ℕ) (w n a : ℕ) (after : List ℕ) (asked : Need) where
  module _ (size : length b ≡ 32) (all : Bytes b) (e : both b w n ≡ true) where
    both_call : is_call_of 3 b ≡ true
    both_call = first_true (is_call_of 3 b) _ e

    both_address : word_at b 8 ≤ 127
    both_address = leb-true (word_at b 8) 127 (first_true (leb (word_at b 8) 127) _ (second_true (is_call_of 3 b) _ e))

    both_filled : eqb n 0 ≡ false
    both_filled = unset (eqb n 0) (first_true (not (eqb n 0)) _ (both_few b w n e))

    both_run : word_at b 10 < 2
    both_run = ltb-true (word_at b 10) 2 (second_true (few_enough w n) _ (second_true (leb (word_at b 8) 127) _ (second_true (is_call_of 3 b) _ e)))

    abbrev first_of : Run
    first_of = record { direction = direction.Write; length = w; before = 0; more = true }

    abbrev second_of : Run
    second_of = record { direction = direction.Read; length = n; before = 0; more = false }

    pub written_steps : word_at b 10 ≡ 0 → (here : Here) → here ≡ here_by false w 0 true 0 → StepIn here a b after asked → Stepped (held_in 3 b) [] w n a b after asked
    unfolding master_of fields_of
    written_steps z here h steps =
        held 3 b [] w n a after asked both_call
        (in_run b [] w n a after asked size all (is_call_lem 3 b both_call) (is_ending_lem 3 b both_call)
        (rw (entry_is 3 b both_call, both_filled, le-ltb 127 (word_at b 8) both_address, le-ltb 65535 (w + n) (both_short b w n e)))
        first_of
        (rw (entry_is 3 b both_call) (sym (first_run (span direction.Write w) (span direction.Read n ∷ []) (word_at b 10) z)))
        here
        (h ∙ rw (entry_is 3 b both_call))
        steps)

    pub read_back_steps : (word_at b 10 ≡ 0 → ⊥) → (here : Here) → here ≡ here_by true n 0 false 0 → StepIn here a b after asked → Stepped (held_in 3 b) [] w n a b after asked
    unfolding master_of fields_of
    read_back_steps z here h steps =
        held 3 b [] w n a after asked both_call
        (in_run b [] w n a after asked size all (is_call_lem 3 b both_call) (is_ending_lem 3 b both_call)
        (rw (entry_is 3 b both_call, both_filled, le-ltb 127 (word_at b 8) both_address, le-ltb 65535 (w + n) (both_short b w n e)))
        second_of
        (rw (entry_is 3 b both_call) (sym (second_run w n (word_at b 10) (omega (arith, both_run, z)))))
        here
        (h ∙ rw (entry_is 3 b both_call))
        steps)

  pub both_refused : both b w n ≡ false → Refuses b after asked → Stepped (held_in 3 b) [] w n a b after asked
  unfolding master_of fields_of fits_lent
  both_refused e r = go (is_call_of 3 b) (leb (word_at b 8) 127) (eqb n 0) (leb (w + n) 65535) (ltb (word_at b 10) 2) refl refl refl refl refl e
    where
      go : (c d z l k : Bool) → is_call_of 3 b ≡ c → leb (word_at b 8) 127 ≡ d → eqb n 0 ≡ z → leb (w + n) 65535 ≡ l → ltb (word_at b 10) 2 ≡ k → c && (d && ((not z && l) && k)) ≡ false
          → Stepped (held_in 3 b) [] w n a b after asked
      go false d z l k c-is d-is z-is l-is k-is t = no_call 3 b [] w n a after asked c-is r
      go true d true l k c-is d-is z-is l-is k-is t =
          held 3 b [] w n a after asked c-is (not_open b [] w n a after asked (refused_open (master_of (fields_of b)) [] w n false refl (rw (entry_is 3 b c-is, z-is))) r)
      go true false false l k c-is d-is z-is l-is k-is t =
          held 3 b [] w n a after asked c-is (not_open b [] w n a after asked (refused_open (master_of (fields_of b)) [] w n false refl (rw (entry_is 3 b c-is, z-is, lt-ltb 127 (word_at b 8) (leb-false (word_at b 8) 127 d-is)))) r)
      go true true false false k c-is d-is z-is l-is k-is t =
          held 3 b [] w n a after asked c-is (not_open b [] w n a after asked (refused_open (master_of (fields_of b)) [] w n false refl (rw (entry_is 3 b c-is, z-is, le-ltb 127 (word_at b 8) (leb-true (word_at b 8) 127 d-is), lt-ltb 65535 (w + n) (leb-false (w + n) 65535 l-is)))) r)
      go true true false true false c-is d-is z-is l-is k-is t =
          let high : 2 ≤ word_at b 10 = ltb-false (word_at b 10) 2 k-is in
          held 3 b [] w n a after asked c-is (not_open b [] w n a after asked (absent_open (master_of (fields_of b)) [] w n (rw (entry_is 3 b c-is, z-is, le-ltb 127 (word_at b 8) (leb-true (word_at b 8) 127 d-is), le-ltb 65535 (w + n) (leb-true (w + n) 65535 l-is)))
          (rw (entry_is 3 b c-is) (sym (no_third (span direction.Write w) (span direction.Read n) (word_at b 10) (λ q. omega (arith, high, q)) (λ q. omega (arith, high, q)))))) r)
      go true true false true true c-is d-is z-is l-is k-is t = absurd (true≢false t)
