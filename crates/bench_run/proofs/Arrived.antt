-- The bytes that arrive in a transfer: each answered read of DATAR is one, they lie in order from the first place on, and they fit into what is
-- lent.
-- Assumes nothing.
use mathlib.Core.Path.{◌≡◌, refl, sym, ap, ◌∙◌, subst}
use mathlib.Core.Bool.{Bool, true, false, cond, beq, not, ◌&&◌, ◌||◌, true≢false}
use mathlib.Core.List.{List, [], ◌∷◌, ◌++◌, map, append_assoc, append-nil}
use Prim.Native.Nat.{ℕ, zero, suc, ◌+◌, ◌≤◌, ◌<◌}
use native.Mathlib.Nat.{add-zero, zero-add}
use native.Mathlib.Omega.{arith}
use borrow.Author.Tests.{ltb-true, eqb-true}
use lib.Dec.{eqb, leb, ltb}
use lib.ListN.{length, take, set, length-set}
use lib.Seq.{take-suc-set}
use Rattle.std.specs.Prelude.{Option, Some, None}
use Rattle.registers.specs.Word.{field_of}
use Rattle.registers.specs.Fields.{DATA}
use Rattle.access.specs.declared.need.Need.{Need}
use Rattle.access.specs.declared.need.Need.TheVariants as need
use Rattle.access.specs.Endings.{is_done}
use Rattle.access.specs.Program.{Program, finish, access, keep, cut}
use Rattle.access.specs.Record.{Arrival, Shown, shown_of, is_data}
use Rattle.access.specs.Machine.{Machine, seen_owed, seen_answered, shown_from}
use Rattle.access.proofs.Choice.{first_true, second_true, true_same}
use Rattle.operations.specs.declared.operation.Direction.{Direction}
use Rattle.operations.specs.declared.operation.Direction.TheVariants as direction
use Rattle.operations.specs.declared.search.Run.{Run}
use Rattle.operations.specs.Operations.{is_read}
use Rattle.operations.specs.Runs.{Span, span, written_in, read_in, read_sum, run_from, run_at}
use Rattle.operations.proofs.FoundLaws.{same_run, not_found}
use Rattle.master.specs.declared.call.Setting.{Setting}
use Rattle.master.specs.declared.stage.FallStage.TheVariants as falling
use Rattle.master.specs.declared.stage.LaunchStage.TheVariants as launch
use Rattle.master.specs.declared.stage.WaitStage.TheVariants as wait
use Rattle.master.specs.declared.stage.AddressStage.TheVariants as address
use Rattle.master.specs.declared.stage.RecvStage.TheVariants as recv
use Rattle.master.specs.declared.stage.ReadStage.{ReadStage}
use Rattle.master.specs.declared.stage.ReadStage.TheVariants as reading
use Rattle.master.specs.declared.stage.Half.TheVariants as half
use Rattle.master.specs.declared.stage.AbortStage.{AbortStage}
use Rattle.master.specs.declared.stage.AbortStage.TheVariants as abort
use Rattle.master.specs.declared.stage.Stage.{Stage}
use Rattle.master.specs.declared.stage.Stage.TheVariants.{Begin, WaitStop, LaunchStart, Wait, Address, SendByte, RecvByte, ReadIter, GenerateStop, Abort, Ended}
use Rattle.master.specs.declared.state.Progress.{Progress}
use Rattle.master.specs.declared.state.Move.{Move}
use Rattle.master.specs.declared.call.Call.{Call}
use Rattle.master.specs.Machine.{Shape, owed_at, owed_read, owed_abort, owed, master, start}
use Rattle.master.specs.Fits.{counts, runs, receiving, last_ones, fits_found, fits}
use Rattle.master.specs.Calls.{Lent, Accepted, shape_of}
use Rattle.master.proofs.AcceptedFits.{states_fit}
use Rattle.ch32_i2c.specs.Fed.{stored, record_in, payload_in}
use Rattle.bench_run.specs.Layer1.{bytes_in}
use Rattle.bench_run.proofs.Counts.{arriving_in}

-- ---- in order

-- places one after the other
abbrev Consecutive : ℕ → List Arrival → Type 0
Consecutive at [] = Unit {0}
Consecutive at (x ∷ xs) = (x.place ≡ at) × Consecutive (suc at) xs

in_order : (p : Program) (at : ℕ) (answers : List ℕ) → Consecutive at (shown_of at p answers).arrivals
in_order (finish e) at answers = tt
in_order (access x k) at [] = tt
in_order (access x k) at (a ∷ answers) = in_order (k a) at answers
in_order (keep b p) at answers = (refl, in_order p (suc at) answers)
in_order cut at answers = tt

abbrev pub Within : ℕ → List Arrival → Type 0
Within room [] = Unit {0}
Within room (x ∷ xs) = (x.place < room) × Within room xs

few_arrived : (xs : List Arrival) (at room : ℕ) → Consecutive at xs → Within room xs → at ≤ room → at + length xs ≤ room
few_arrived [] at room c w h = omega arith
few_arrived (x ∷ xs) at room c w h = omega (arith, few_arrived xs (suc at) room c.1 w.1 (omega (arith, c.0, w.0)))

stored_at : (xs : List Arrival) (at : ℕ) (bytes : List ℕ) → Consecutive at xs → at + length xs ≤ length bytes → take (at + length xs) (stored xs bytes) ≡ take at bytes ++ bytes_in xs
stored_at [] at bytes c h = rw (add-zero at, append-nil (take at bytes))
stored_at (x ∷ xs) at bytes c h =
    let k : at + suc (length xs) ≡ suc at + length xs = omega arith in
    rw (c.0, k)
    (stored_at xs (suc at) (set bytes at x.byte) c.1 (omega (arith, length-set bytes at x.byte))
    ∙ rw (take-suc-set bytes at x.byte (omega arith), append_assoc (take at bytes) (x.byte ∷ []) (bytes_in xs)))

-- ---- what a state of a transfer needs: payload is read by `Keep` alone, at a place that is lent

abbrev Told : ℕ → Need → Type 0
Told room (need.Read r) = is_data r ≡ false
Told room (need.Write r v) = Unit {0}
Told room need.Clock = Unit {0}
Told room (need.Send p) = Unit {0}
Told room (need.Keep p) = p < room
Told room need.Drop = ⊥
Told room (need.End e) = Unit {0}

-- a read run lies within the bytes read
found_read : (ss : List Span) (w r k : ℕ) (x : Run) → run_from w r ss k ≡ Some x → is_read x.direction ≡ true → x.before + x.length ≤ r + read_sum ss
unfolding run_from
found_read [] w r k x e d = absurd (not_found e)
found_read (s ∷ ss) w r zero x e d =
    subst (λ (y : Run). is_read y.direction ≡ true → y.before + y.length ≤ r + (read_in s + read_sum ss)) (same_run e) (go s.direction) d
  where
    go : (d : Direction) → is_read d ≡ true → cond (is_read d) r w + s.length ≤ r + (read_in (span d s.length) + read_sum ss)
    go direction.Write e = absurd (true≢false (sym e))
    go direction.Read e = omega arith
found_read (s ∷ ss) w r (suc k) x e d = omega (arith, found_read ss (w + written_in s) (r + read_in s) k x e d)

-- a byte that is left to read has its place there
place_lent : (ss : List Span) (k : ℕ) (r : Run) (d : Progress) → run_at ss k ≡ Some r → counts r d ≡ true → d.reading ≡ true → 0 < d.left → d.place < read_sum ss
place_lent ss k r d f c e l =
    let p = second_true (beq (is_read r.direction) d.reading) (leb d.left r.length && eqb (d.place + d.left) (r.before + r.length)) c in
    let q = first_true (beq (is_read r.direction) d.reading) (leb d.left r.length && eqb (d.place + d.left) (r.before + r.length)) c in
    let s = eqb-true (d.place + d.left) (r.before + r.length) (second_true (leb d.left r.length) (eqb (d.place + d.left) (r.before + r.length)) p) in
    omega (arith, s, found_read ss 0 0 k r f (sym (true_same (is_read r.direction) d.reading q) ∙ e))

module _ (ss : List Span) (g : Setting) where
  -- within a run, while bytes are left to read
  reading_told : (k : ℕ) (r : Run) (d : Progress) (b : Bool) → run_at ss k ≡ Some r → runs r b d ≡ true → (b ≡ true → (d.reading ≡ true) × (0 < d.left)) → d.place < read_sum ss
  reading_told k r d b f e facts =
      let c = first_true (counts r d) (is_done d.ending && b) e in
      let t = second_true (is_done d.ending) b (second_true (counts r d) (is_done d.ending && b) e) in
      place_lent ss k r d f c (facts t).0 (facts t).1

  receiving_facts : (r : Run) (d : Progress) → receiving g r d ≡ true → (d.reading ≡ true) × (0 < d.left)
  receiving_facts r d e =
      let rest = not g.frame.send_nack || (ltb 3 d.left || eqb r.length 1) in
      (first_true d.reading (ltb 0 d.left && rest) e, ltb-true 0 d.left (first_true (ltb 0 d.left) rest (second_true d.reading (ltb 0 d.left && rest) e)))

  last_facts : (n : ℕ) (r : Run) (d : Progress) → last_ones g r (suc n) d ≡ true → (d.reading ≡ true) × (0 < d.left)
  last_facts n r d e =
      let rest = eqb d.left (suc n) && ltb 1 r.length in
      let q = second_true g.frame.send_nack rest (second_true d.reading (g.frame.send_nack && rest) e) in
      let l = eqb-true d.left (suc n) (first_true (eqb d.left (suc n)) (ltb 1 r.length) q) in
      (first_true d.reading (g.frame.send_nack && rest) e, omega arith)

  abbrev Fit : ℕ → Stage → Progress → Type 0
  Fit k st d = fits_found g (run_at ss k) st d ≡ true

  -- the run of a state that fits, where it is in one
  in_run : (k : ℕ) (st : Stage) (d : Progress) {P : Type 0} → Fit k st d → ((r : Run) → run_at ss k ≡ Some r → fits_found g (Some r) st d ≡ true → P) → (fits_found g None st d ≡ true → P) → P
  in_run k st d {P} e found nothing = go (run_at ss k) refl e
    where
      go : (f : Option Run) → run_at ss k ≡ f → fits_found g f st d ≡ true → P
      go (Some r) q e = found r q e
      go None q e = nothing e

  read_told : (k : ℕ) (st : ReadStage) (d : Progress) → Fit k (ReadIter st) d → Told (read_sum ss) (owed_read g.frame.send_nack st d)
  read_told k reading.PosWrite d e = tt
  read_told k reading.AckRead d e = refl
  read_told k reading.AckWrite d e = tt
  read_told k reading.StartRead d e = refl
  read_told k reading.StartWrite d e = tt
  read_told k reading.NackRead d e = refl
  read_told k reading.NackWrite d e = tt
  read_told k reading.Third d e = in_run k (ReadIter reading.Third) d e (λ r q t. reading_told k r d _ q t (last_facts 2 r d)) (λ t. absurd (true≢false (sym t)))
  read_told k reading.AgainRead d e = refl
  read_told k reading.AgainWrite d e = tt
  read_told k reading.SecondLast d e = in_run k (ReadIter reading.SecondLast) d e (λ r q t. reading_told k r d _ q t (last_facts 1 r d)) (λ t. absurd (true≢false (sym t)))
  read_told k reading.Last d e = in_run k (ReadIter reading.Last) d e (λ r q t. reading_told k r d _ q t (last_facts 0 r d)) (λ t. absurd (true≢false (sym t)))
  read_told k reading.PosOffRead d e = refl
  read_told k reading.PosOffWrite d e = tt

  abort_told : (st : AbortStage) (d : Progress) → Told (read_sum ss) (owed_abort st d)
  abort_told abort.FinishRead d = refl
  abort_told abort.FinishWrite d = tt
  abort_told abort.Control d = refl
  abort_told abort.Frequency d = refl
  abort_told abort.Divider d = refl
  abort_told abort.Rise d = refl
  abort_told abort.Reset d = tt
  abort_told abort.Release d = tt
  abort_told abort.PutFrequency d = tt
  abort_told abort.PutDivider d = tt
  abort_told abort.PutRise d = tt
  abort_told abort.Enable d = tt
  abort_told abort.Master d = refl
  abort_told abort.StopRead d = refl
  abort_told abort.StopWrite d = tt

  told_at : (k : ℕ) (st : Stage) (d : Progress) → Fit k st d → Told (read_sum ss) (owed_at g st d)
  told_at k Begin d e = refl
  told_at k (WaitStop f falling.Control) d e = refl
  told_at k (WaitStop f falling.Clock) d e = tt
  told_at k (LaunchStart launch.Control) d e = refl
  told_at k (LaunchStart launch.Status) d e = refl
  told_at k (LaunchStart launch.Read) d e = refl
  told_at k (LaunchStart launch.Write) d e = tt
  told_at k (Wait f wait.Status) d e = refl
  told_at k (Wait f wait.Clear) d e = tt
  told_at k (Wait f wait.Clock) d e = tt
  told_at k (Address address.Control) d e = refl
  told_at k (Address address.Master) d e = refl
  told_at k (Address address.Word) d e = tt
  told_at k (Address address.Cleared) d e = refl
  told_at k SendByte d e = tt
  told_at k (RecvByte recv.Status) d e = refl
  told_at k (RecvByte recv.Data) d e = in_run k (RecvByte recv.Data) d e (λ r q t. reading_told k r d _ q t (receiving_facts r d)) (λ t. absurd (true≢false (sym t)))
  told_at k (ReadIter st) d e = read_told k st d e
  told_at k (GenerateStop x half.Read) d e = refl
  told_at k (GenerateStop x half.Write) d e = tt
  told_at k (Abort st) d e = abort_told st d
  told_at k Ended d e = tt

-- ---- so in what is shown of a machine

-- places that are lent, a byte for each answered read of DATAR, and the bytes are the lower halves of these answers
pub record Arrived (room : ℕ) (s : Shown) : Type 0 where
  pub within : Within room s.arrivals
  pub counted : arriving_in s.events ≡ length s.arrivals
  pub payload : bytes_in s.arrivals ≡ map (field_of DATA) (payload_in (record_in s))

module _ (m : Machine) (bytes : List ℕ) (room : ℕ) (Good : m.State → Type 0) (stays : (s : m.State) (a : ℕ) → Good s → Good (m.move s a)) (told : (s : m.State) → Good s → Told room (m.need s)) where
  owed_arrived : (n : Need) → Told room n → Arrived room (seen_owed bytes n)
  owed_arrived (need.Read r) t = record { within = tt; counted = refl; payload = rw t }
  owed_arrived (need.Write r v) t = record { within = tt; counted = refl; payload = refl }
  owed_arrived need.Clock t = record { within = tt; counted = refl; payload = refl }
  owed_arrived (need.Send p) t = record { within = tt; counted = refl; payload = refl }
  owed_arrived (need.Keep p) t = record { within = tt; counted = refl; payload = refl }
  owed_arrived need.Drop t = absurd t
  owed_arrived (need.End e) t = record { within = tt; counted = refl; payload = refl }

  answered_arrived : (n : Need) (a : ℕ) (rest : Shown) → Told room n → Arrived room rest → Arrived room (seen_answered bytes n a rest)
  answered_arrived (need.Read r) a rest t h = record { within = h.within; counted = rw t (zero-add (arriving_in rest.events) ∙ h.counted); payload = rw t h.payload }
  answered_arrived (need.Write r v) a rest t h = record { within = h.within; counted = zero-add (arriving_in rest.events) ∙ h.counted; payload = h.payload }
  answered_arrived need.Clock a rest t h = record { within = h.within; counted = zero-add (arriving_in rest.events) ∙ h.counted; payload = h.payload }
  answered_arrived (need.Send p) a rest t h = record { within = h.within; counted = zero-add (arriving_in rest.events) ∙ h.counted; payload = h.payload }
  answered_arrived (need.Keep p) a rest t h = record { within = (t, h.within); counted = omega (arith, h.counted); payload = ap (λ (l : List ℕ). field_of DATA a ∷ l) h.payload }
  answered_arrived need.Drop a rest t h = absurd t
  answered_arrived (need.End e) a rest t h = record { within = tt; counted = refl; payload = refl }

  shown_arrived : (s : m.State) → Good s → (answers : List ℕ) → Arrived room (shown_from m bytes s answers)
  shown_arrived s g [] = owed_arrived (m.need s) (told s g)
  shown_arrived s g (a ∷ answers) = answered_arrived (m.need s) a (shown_from m bytes (m.move s a) answers) (told s g) (shown_arrived (m.move s a) (stays s a g) answers)

-- ---- an accepted transfer

machine_told : (sh : Shape) (s : Move) → fits sh s ≡ true → Told (read_sum sh.runs) (owed sh s)
unfolding fits owed
machine_told sh s e = told_at sh.runs sh.setting s.progress.run s.stage s.progress e

pub transfer_arrived : (c : Call) (l : Lent) → Accepted c l → (answers : List ℕ) → Arrived (read_sum (shape_of c l).runs) (shown_from (master (shape_of c l)) l.written (start (shape_of c l)) answers)
transfer_arrived c l q answers =
    shown_arrived (master (shape_of c l)) l.written (read_sum (shape_of c l).runs) (λ s. fits (shape_of c l) s ≡ true) (λ s a g. states_fit.kept c l q s a g) (machine_told (shape_of c l))
    (start (shape_of c l)) (states_fit.begins c l q) answers

-- what arrived, of a program that shows it: none is cut off
module _ (p : Program) (answers : List ℕ) (room : ℕ) (h : Arrived room (shown_of 0 p answers)) where
  pub arrived_fits : length (shown_of 0 p answers).arrivals ≤ room
  arrived_fits = omega (arith, few_arrived (shown_of 0 p answers).arrivals 0 room (in_order p 0 answers) h.within (omega arith))

  pub arrived_whole : (bytes : List ℕ) → length bytes ≡ room → take (0 + arriving_in (shown_of 0 p answers).events) (stored (shown_of 0 p answers).arrivals bytes) ≡ bytes_in (shown_of 0 p answers).arrivals
  arrived_whole bytes e = rw h.counted (stored_at (shown_of 0 p answers).arrivals 0 bytes (in_order p 0 answers) (omega (arith, arrived_fits)))
