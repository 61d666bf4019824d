-- The program of joined runs agrees with the machine, from the run that it is in to the end of the call.
-- Assumes nothing.
use Rattle.std.specs.Prelude.{Err}
use mathlib.Core.Path.{◌≡◌, refl, sym, ap, ◌∙◌, subst}
use mathlib.Core.Bool.{Bool, true, false}
use mathlib.Core.List.{List, [], ◌∷◌, ◌++◌, map}
use Prim.Native.Nat.{ℕ, zero, suc, ◌+◌, ◌≤◌, ◌<◌}
use native.Mathlib.Nat.{add-suc, suc-add, add-zero}
use native.Mathlib.Omega.{arith}
use lib.Dec.{ltb}
use lib.ListN.{length, drop}
use lib.Seq.{drop-drop, drop-append_seam}
use Rattle.registers.specs.declared.chip.Chip.{Chip}
use Rattle.access.specs.declared.need.Need.TheVariants as need
use Rattle.access.specs.Endings.{done}
use Rattle.access.specs.Program.{Program, finish}
use Rattle.access.proofs.Agreement.{Agree, ends, along, program_is}
use Rattle.operations.specs.Runs.{Span, run_after, run_from, run_at, written_in, read_in, read_sum}
use Rattle.master.specs.declared.call.Setting.{Setting}
use Rattle.master.specs.declared.stage.Stage.TheVariants.{Begin, Ended}
use Rattle.master.specs.declared.state.Progress.{Progress}
use Rattle.master.specs.declared.state.Move.{Move}
use Rattle.master.specs.Rust as rust
use Rattle.master.specs.Ours as ours
use Rattle.master.specs.Joined.{Joined, JW, JR, framed, runs_program}
use Rattle.master.specs.Machine.{Shape, to, saves, counted, begun, next_run, next16, stops_here, continues, found_run, run_of, owed, master}
use Rattle.master.proofs.Counts.{next_place}
use Rattle.master.proofs.MasterAgrees.{frame_in, write_bytes_agrees, blocking_read_iter_agrees}
use Rattle.master.proofs.LentLaws.{span_j, bytes_in, bytes_j, FilledJ}

-- where the machine is before the first of these runs
abbrev pub resumes : List Joined → Progress → Move
resumes [] d = to Ended d
resumes (j ∷ js) d = to Begin d

module _ (chip : Chip) (address : ℕ) (ok : ltb 0x7f address ≡ false) (runs : List Span) (bytes : List ℕ) (short : length bytes ≤ 65535) where
  abbrev setting : Setting
  setting = record { chip = chip; address = address; frame = framed true true }

  abbrev shape : Shape
  shape = record { setting = setting; runs = runs }

  -- where run number i begins: js are the runs from it on, w bytes are written and r are read before it
  pub record Stands (js : List Joined) (i w r : ℕ) (d : Progress) : Type 0 where
    pub number : d.run ≡ i
    pub ending : d.ending ≡ done
    pub list : (k : ℕ) → run_at runs (i + k) ≡ run_from w r (map span_j js) k
    pub left : drop w bytes ≡ bytes_j js
    pub filled : FilledJ js
    pub few : i + length js ≤ 65536
    pub small : r + read_sum (map span_j js) ≤ 65535

  this_run : (j : Joined) (js : List Joined) (i w r : ℕ) (d : Progress) → Stands (j ∷ js) i w r d → run_of shape d.run ≡ run_after w r (span_j j) (map span_j js)
  unfolding run_from
  this_run j js i w r d s = ap (λ (x : ℕ). run_of shape x) (s.number ∙ sym (add-zero i)) ∙ ap found_run (s.list 0)

  left_behind : (j : Joined) (js : List Joined) (w : ℕ) → drop w bytes ≡ bytes_in j ++ bytes_j js → drop (w + written_in (span_j j)) bytes ≡ bytes_j js
  left_behind (JW bs) js w e = sym (drop-drop (length bs) w bytes) ∙ ap (λ (l : List ℕ). drop (length bs) l) e ∙ drop-append_seam bs (bytes_j js)
  left_behind (JR m) js w e = ap (λ (x : ℕ). drop x bytes) (add-zero w) ∙ e

  -- on to the next run
  onward : (j : Joined) (js : List Joined) (i w r : ℕ) (d : Progress) (b : Bool) (p v q : ℕ) → Stands (j ∷ js) i w r d → 0 < length js
      → Stands js (suc i) (w + written_in (span_j j)) (r + read_in (span_j j)) (next_run (counted b p q (saves v d)))
  unfolding run_from
  onward j js i w r d b p v q s more =
      record {
        number = ap next16 s.number ∙ next_place i (omega (arith, s.few));
        ending = s.ending;
        list = λ k. ap (λ (x : ℕ). run_at runs x) (suc-add i k ∙ sym (add-suc i k)) ∙ s.list (suc k);
        left = left_behind j js w s.left;
        filled = s.filled.1;
        few = omega (arith, s.few);
        small = omega (arith, s.small);
      }

  -- the program of the runs js, and that it agrees from where they begin
  abbrev program : List Joined → ℕ → Program
  program js n = runs_program chip (ours.ours chip) address js n (λ x. finish (Err x)) (λ _. finish done)

  abbrev Agrees : List Joined → ℕ → Type 0
  Agrees js n = (i w r : ℕ) (d : Progress) → Stands js i w r d → Agree (master shape) bytes n r (program js n) (resumes js d)

  -- behind a run
  behind_agrees : (j : Joined) (js : List Joined) (i w r : ℕ) (d : Progress) (n : ℕ) (b : Bool) (p v q : ℕ) → Stands (j ∷ js) i w r d → Agrees js n
      → Agree (master shape) bytes n (r + read_in (span_j j)) (program js n) (continues (run_of shape d.run) (counted b p q (saves v d)))
  unfolding runs_program owed
  behind_agrees j [] i w r d n b p v q s rest =
      along (ap (λ x. continues x (counted b p q (saves v d))) (sym (this_run j [] i w r d s))) (ends done (ap need.End s.ending))
  behind_agrees j (j' ∷ js) i w r d n b p v q s rest =
      along (ap (λ x. continues x (counted b p q (saves v d))) (sym (this_run j (j' ∷ js) i w r d s)))
      (rest (suc i) (w + written_in (span_j j)) (r + read_in (span_j j)) (next_run (counted b p q (saves v d))) (onward j (j' ∷ js) i w r d b p v q s (omega arith)))

  -- STOP at the last run alone
  stops_at_last : (j : Joined) (js : List Joined) (w r : ℕ) → rust.is_empty js ≡ stops_here setting (run_after w r (span_j j) (map span_j js))
  stops_at_last j [] w r = refl
  stops_at_last j (j' ∷ js) w r = refl

  frame_here : (j : Joined) (js : List Joined) (i w r : ℕ) (d : Progress) → Stands (j ∷ js) i w r d → framed true (rust.is_empty js) ≡ frame_in shape bytes d
  frame_here j js i w r d s = ap (framed true) (stops_at_last j js w r ∙ ap (stops_here setting) (sym (this_run j js i w r d s)))

  pub runs_agree : (js : List Joined) (n : ℕ) → Agrees js n
  unfolding runs_program owed
  runs_agree [] n i w r d s = ends done (ap need.End s.ending)
  runs_agree (JW bs ∷ js) n i w r d s =
      program_is (ap (λ f. ours.write_bytes chip address bs f n (λ x. finish (Err x)) (λ _. program js n)) (frame_here (JW bs) js i w r d s))
      (write_bytes_agrees shape bytes ok n r _ bs (bytes_j js) w d (ap (λ x. begun x d) (this_run (JW bs) js i w r d s)) short s.left
      (λ v q _. subst (λ (x : ℕ). Agree (master shape) bytes n x (program js n) (continues (run_of shape d.run) (counted false 0 q (saves v d)))) (add-zero r)
      (behind_agrees (JW bs) js i w r d n false 0 v q s (runs_agree js n))))
  runs_agree (JR zero ∷ js) n i w r d s = absurd (omega (arith, s.filled.0))
  runs_agree (JR (suc m) ∷ js) n i w r d s =
      program_is (ap (λ f. ours.blocking_read_iter chip address (suc m) f n (λ x. finish (Err x)) (λ _. program js n)) (frame_here (JR (suc m)) js i w r d s))
      (blocking_read_iter_agrees shape bytes ok n r _ m d (ap (λ x. begun x d) (this_run (JR (suc m)) js i w r d s)) (omega (arith, s.small))
      (λ v. behind_agrees (JR (suc m)) js i w r d n true 0 v (r + suc m) s (runs_agree js n)))
