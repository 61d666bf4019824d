-- The bench prints what layer 1 gives.
-- Assumes nothing.
use mathlib.Core.Path.{◌≡◌, refl, sym, ap, ◌∙◌, subst}
use mathlib.Core.Bool.{Bool, true, false, not, true≢false}
use mathlib.Core.List.{List, [], map}
use mathlib.Core.Option.{Option, none, some}
use Prim.Native.Nat.{ℕ, ◌+◌, ◌*◌, ◌<◌, ◌≤◌}
use native.Mathlib.Nat.{zero-add}
use native.Mathlib.Omega.{arith}
use lib.Dec.{eqb}
use lib.ListN.{length, take, replicate}
use lib.Seq.{length-take-le}
use Rattle.registers.specs.Word.{field_of}
use Rattle.registers.specs.Fields.{DATA}
use Rattle.access.specs.declared.ending.Error.{Error}
use Rattle.access.specs.declared.ending.Error.TheVariants.{InvalidState, InvalidArgument}
use Rattle.access.specs.Endings.{failed}
use Rattle.access.specs.Program.{Program}
use Rattle.access.specs.Record.{Shown, no_more, shown_of}
use Rattle.access.specs.Machine.{shown_from}
use Rattle.alike.specs.Like.{forgetting}
use Rattle.block.specs.Bytes32.{block_size}
use Rattle.operations.specs.Runs.{read_sum}
use Rattle.master.specs.declared.call.Kind.TheVariants as kind
use Rattle.master.specs.declared.call.Call as master
use Rattle.master.specs.Rust.{the_rust}
use Rattle.master.specs.Ours as parts
use Rattle.master.specs.Machine as machine
use Rattle.master.specs.Calls.{Lent, lent_with, refuse, refusal, shape_of, rust_with, ours_with}
use Rattle.master.proofs.CallAgrees.{passed_cause, master_is_ours}
use Rattle.images.specs.Numbers.{chip_of}
use Rattle.call.specs.Left.{Left, refused_with}
use Rattle.ch32_i2c.specs.Fed.{payload_in, record_in}
use Rattle.ch32_i2c.specs.Transfer.{call_of, transaction_begin}
use Rattle.ch32_i2c.specs.Demands.{Call, unknown, own_refusal, refusal_of, the_rusts, call_end_as_the_rusts, entry_of, ours, rust, Records}
use Rattle.ch32_i2c.proofs.CallsRun.{call_shown_lem}
use Rattle.ch32_i2c.proofs.Demands.{demand_1, demand_2}
use Rattle.bench_text.specs.Input.{Said, Input, call, input_of}
use Rattle.bench_run.specs.Play.{play_from, most_turns}
use Rattle.bench_run.specs.Printed.{printed_of}
use Rattle.bench_run.proofs.PlayLaws.{play_ended}
use Rattle.bench_run.specs.Laid.{laid}
use Rattle.bench_run.specs.Layer1.{used_in, bytes_in, text_of}
use Rattle.bench_run.specs.Claims.{transaction_of, program_of, our_words, rust_words, our_play, rust_play, ending_with, cause_of, BenchPrints}
use Rattle.bench_text.proofs.SaidLaws.{call_bounded}
use Rattle.bench_run.proofs.SaidForm.{causes, faults}
use Rattle.bench_run.proofs.Counts.{writes_in, Few, laid_short, laid_counted}
use Rattle.bench_run.proofs.LaidLaws.{none_laid, laid_same}
use Rattle.bench_run.proofs.Follows.{Follows}
use Rattle.bench_run.proofs.Played.{text_from, play_is}
use Rattle.bench_run.proofs.Writes.{two_writes}
use Rattle.bench_run.proofs.Arrived.{Arrived, transfer_arrived, arrived_fits, arrived_whole}

-- a cause of the Rust's is none that was added before it
behind_added : (b : Bool) (x : Error) (rest : Option Error) (e : Error) → the_rusts x ≡ false → the_rusts e ≡ true → refuse b x rest ≡ some e → rest ≡ some e
behind_added true x rest e f t q = let z : x ≡ e = cc in absurd (true≢false (sym t ∙ ap the_rusts (sym z) ∙ f))
behind_added false x rest e f t q = q

-- the block that the bench lends
abbrev zeros : List ℕ
zeros = replicate 32 0

module _ (chip address : ℕ) (s : Said) where
  abbrev c : Call
  c = transaction_of chip address s

  abbrev mc : master.Call
  mc = call_of chip address kind.Transaction

  abbrev l : Lent
  l = lent_with s.list s.written s.room

  module _ (turns : ℕ) where
    abbrev program : Program
    program = program_of (parts.ours (chip_of chip)) turns chip address s

    abbrev rusts_program : Program
    rusts_program = program_of (the_rust (chip_of chip)) turns chip address s

    -- ---- what is seen of layer 1's text is its program's

    ours_program : (xs : List ℕ) → ours turns c s.room xs ≡ shown_of 0 program xs
    unfolding ours_with
    ours_program xs = refl

    rust_program : (xs : List ℕ) → rust turns c s.room xs ≡ shown_of 0 rusts_program xs
    unfolding rust_with
    rust_program xs = refl

    abbrev play : Shown
    play = shown_of 0 program (laid program s.answers)

    pub used : used_in (our_play turns chip address s).events ≤ length s.answers
    used = subst (λ (x : Shown). used_in x.events ≤ length s.answers) (sym (ours_program (our_words turns chip address s))) (laid_counted program 0 s.answers).1

    -- ---- the Rust's

    same_words : rust_words turns chip address s ≡ our_words turns chip address s
    same_words =
        laid_same rusts_program program 0 0
        (λ xs. ap (λ (x : Shown). x.events) (sym (rust_program xs) ∙ demand_2.as_the_rust c s.room turns xs ∙ ap (forgetting (call_end_as_the_rusts c)) (ours_program xs))) s.answers

    as_the_rust : rust_play turns chip address s ≡ forgetting (call_end_as_the_rusts c) (our_play turns chip address s)
    as_the_rust = ap (rust turns c s.room) same_words ∙ demand_2.as_the_rust c s.room turns (our_words turns chip address s)

    rust_refuses : (e : Error) → cause_of chip address s ≡ some e → the_rusts e ≡ true → 0 < turns → rust_play turns chip address s ≡ no_more (some (failed e))
    rust_refuses e q t pos =
        let o = behind_added (unknown c) InvalidArgument (own_refusal c s.room) e refl t (behind_added (not (eqb block_size block_size)) InvalidState _ e refl t q) in
        let h = demand_2.refused c s.room e o t turns [] pos in
        ap (rust turns c s.room) (none_laid rusts_program 0 (ap (λ (x : Shown). x.events) (sym (rust_program []) ∙ h)) s.answers) ∙ h

  -- ---- an accepted call

  module _ (accepted : cause_of chip address s ≡ none) where
    own : refusal mc l ≡ none
    own = (passed_cause (unknown c) InvalidArgument _ (passed_cause (not (eqb block_size block_size)) InvalidState _ accepted).1).1

    room_is : read_sum (shape_of mc l).runs ≡ s.room
    room_is = sym (master_is_ours.covers mc l own).read

    module _ (turns : ℕ) where
      -- the machine shows the same
      machine_shows : (xs : List ℕ) → length xs < turns → shown_from (machine.master (shape_of mc l)) l.written (machine.start (shape_of mc l)) xs ≡ shown_of 0 (program turns) xs
      machine_shows xs h = call_shown_lem mc l own xs ∙ master_is_ours.same mc l (master_is_ours.covers mc l own) turns xs h ∙ ours_program turns xs

      two_for_each : Few 0 turns 0 (program turns)
      two_for_each =
          record {
            writes =
                λ xs h. subst (λ (x : Shown). writes_in x.events ≤ 0 + 2 * used_in x.events) (machine_shows xs h)
                (omega (arith, two_writes (shape_of mc l) l.written xs));
          }

      arrived : (xs : List ℕ) → length xs < turns → Arrived s.room (shown_of 0 (program turns) xs)
      arrived xs h = subst (λ (x : Shown). Arrived s.room x) (machine_shows xs h) (rw room_is at (transfer_arrived mc l own xs))

      module _ (enough : 3 * length s.answers < turns) where
        short : length (our_words turns chip address s) ≤ 3 * length s.answers
        short = omega (arith, laid_short (program turns) 0 turns 0 s.answers two_for_each (omega arith))

        few : length (our_words turns chip address s) ≤ 3 * used_in (play turns).events
        few = omega (arith, (laid_counted (program turns) 0 s.answers).0, two_for_each.writes (our_words turns chip address s) (omega (arith, short)))

        played_arrived : Arrived s.room (play turns)
        played_arrived = arrived (our_words turns chip address s) (omega (arith, short))

    module _ (bytes : List ℕ) (sized : length bytes ≡ s.room) (turns : ℕ) (enough : 3 * length s.answers < turns) where
      begun : Left
      begun = transaction_begin zeros chip address s.list s.written bytes

      lent_accepted : refusal_of c (length zeros) (length bytes) ≡ none
      lent_accepted = ap (refusal_of c block_size) sized ∙ accepted

      -- what C calls records what the program shows
      recorded : (xs : List ℕ) → length xs < turns → Records c zeros bytes xs (shown_of 0 (program turns) xs)
      recorded xs h =
          subst (λ (x : Shown). Records c zeros bytes xs x) (ap (λ (n : ℕ). ours turns c n xs) sized ∙ ours_program turns xs)
          (demand_2.records c zeros bytes tt lent_accepted turns xs h)

      follows : Follows (entry_of c) turns 0 (program turns) bytes begun
      unfolding begun
      follows = record { record_is = λ xs h. (recorded xs h).record_is; end_is = λ xs h. (recorded xs h).end_is; read_is = λ xs h. (recorded xs h).read_is }

      text_whole : text_from (play turns) bytes 0 0 ≡ text_of (play turns)
      text_whole =
          rw (arrived_whole (program turns) (our_words turns chip address s) s.room (played_arrived turns enough) bytes sized, zero-add (used_in (play turns).events))

      -- any limit that three for each answer does not pass
      plays : (limit : ℕ) → 3 * length s.answers ≤ limit → play_from limit s.list s.written s.answers begun 0 0 ≡ text_of (our_play turns chip address s)
      plays limit h =
          play_is chip address s.list s.written s.answers (program turns) limit 0 turns 0 0 0 bytes s.answers begun follows (two_for_each turns) refl (omega arith) (omega arith) (omega arith)
          ∙ text_whole
          ∙ ap text_of (sym (ours_program turns (our_words turns chip address s)))

  -- ---- a refused call

  refused_text : (bytes : List ℕ) → length bytes ≡ s.room → (e : Error) → cause_of chip address s ≡ some e
      → play_from most_turns s.list s.written s.answers (transaction_begin zeros chip address s.list s.written bytes) 0 0 ≡ text_of (no_more (some (failed e)))
  refused_text bytes sized e q =
      ap (λ (h : Left). play_from most_turns s.list s.written s.answers h 0 0) (demand_1.refuses c zeros bytes tt e (ap (refusal_of c block_size) sized ∙ q))
      ∙ play_ended s.list s.written s.answers (refused_with e zeros bytes) 0 0 most_turns (omega arith) refl

-- ---- the whole

module _ (text read : List ℕ) (long : 65535 ≤ length read) (chip address : ℕ) (s : Said) (e : input_of text ≡ call chip address s) where
  lent : length (take s.room read) ≡ s.room
  lent = length-take-le s.room read (omega (arith, (call_bounded text chip address s e).room))

  given : 3 * length s.answers < most_turns
  given = omega (arith, (call_bounded text chip address s e).given)

  accepted_prints : cause_of chip address s ≡ none → (turns : ℕ) → 3 * length s.answers < turns → printed_of (input_of text) read ≡ text_of (our_play turns chip address s)
  unfolding begun
  accepted_prints q turns h = ap (λ (i : Input). printed_of i read) e ∙ plays chip address s q (take s.room read) lent turns h most_turns (omega (arith, given))

  refused_prints : (x : Error) → cause_of chip address s ≡ some x → printed_of (input_of text) read ≡ text_of (no_more (some (failed x)))
  refused_prints x q = ap (λ (i : Input). printed_of i read) e ∙ refused_text chip address s (take s.room read) lent x q

pub bench_prints : BenchPrints
bench_prints =
    record {
      accepted = accepted_prints;
      rusts =
          λ text read long chip address s e q turns h.
          accepted_prints text read long chip address s e q turns h
          ∙ ap (λ (x : Shown). text_of (ending_with (our_play turns chip address s).end x)) (sym (as_the_rust chip address s turns));
      as_the_rust = λ turns chip address s. as_the_rust chip address s turns;
      refused = refused_prints;
      rust_refuses = λ chip address s e q t turns pos. rust_refuses chip address s turns e q t pos;
      causes = causes;
      faults = faults;
      bad = λ text read k e. ap (λ (i : Input). printed_of i read) e;
      few = λ chip address s q turns h. subst (λ (x : Shown). length (our_words turns chip address s) ≤ 3 * used_in x.events) (sym (ours_program chip address s turns (our_words turns chip address s))) (few chip address s q turns h);
      used = λ turns chip address s. used chip address s turns;
      given = λ text chip address s e. omega (arith, (call_bounded text chip address s e).given);
      within =
          λ chip address s q turns h.
          subst (λ (x : Shown). length x.arrivals ≤ s.room) (sym (ours_program chip address s turns (our_words turns chip address s)))
          (arrived_fits (program chip address s turns) (our_words turns chip address s) s.room (played_arrived chip address s q turns h));
      room = λ text chip address s e. (call_bounded text chip address s e).room;
      payload =
          λ chip address s q turns h.
          subst (λ (x : Shown). bytes_in x.arrivals ≡ map (field_of DATA) (payload_in (record_in x))) (sym (ours_program chip address s turns (our_words turns chip address s)))
          (played_arrived chip address s q turns h).payload;
      our_program = λ turns chip address s words. ours_program chip address s turns words;
      rust_program = λ turns chip address s words. rust_program chip address s turns words;
    }
