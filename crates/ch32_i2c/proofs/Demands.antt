-- The three demands hold.
-- Assumes nothing.
use mathlib.Core.Path.{◌≡◌, refl, ap, sym, subst, ◌∙◌}
use mathlib.Core.Bool.{Bool, true, false, cond, ◌||◌, true≢false}
use mathlib.Core.List.{List, [], ◌∷◌, ◌++◌, map}
use mathlib.Core.Option.{Option, none, some}
use Prim.Native.Nat.{ℕ, suc, ◌+◌, ◌<◌, ◌≤◌}
use native.Mathlib.Omega.{arith}
use lib.Dec.{ltb}
use lib.ListN.{length, take, length-map}
use lib.Seq.{take_all}
use borrow.Author.Tests.{ltb-false, le-ltb}
use Rattle.access.specs.declared.ending.Error.{Error}
use Rattle.access.specs.declared.ending.Error.TheVariants.{InvalidState, BufferTooLong}
use Rattle.access.specs.Endings.{Ending, done, returned, returned_both, failed}
use Rattle.access.specs.Program.{Program, finish}
use Rattle.access.specs.Record.{Shown, no_more, shown_of, DifferInPayload, Same, SameStruck, EndsAlike, struck}
use Rattle.access.specs.Machine.{shown_from}
use Rattle.access.proofs.Choice.{second_false}
use Rattle.access.proofs.NumberLaws.{number_injective}
use Rattle.alike.specs.Like.{forget_end, forgetting, all_allowed}
use Rattle.alike.proofs.LikeLaws.{nothing_forgotten}
use Rattle.errors.specs.AsTheRust.{added_forgotten}
use Rattle.errors.specs.Check.{has_no_berr}
use Rattle.errors.proofs.CheckLaws.{others_stay, second_forgotten, flags_decide}
use Rattle.errors.proofs.DepartLaws.{class_is_the_rusts}
use Rattle.operations.specs.Operations.{operations_of}
use Rattle.operations.proofs.SumLaws.{written_runs_lem}
use Rattle.timing.specs.Rust.{timing}
use Rattle.timing.proofs.InitAgrees.{init_is_the_rust}
use Rattle.master.specs.declared.call.Call as master
use Rattle.master.specs.declared.call.Kind.TheVariants as kind
use Rattle.master.specs.Calls.{Lent, lent_with, cut, refusal, InForm, rust_with, ours_with, call_shown, spans_by, spans_of}
use Rattle.master.specs.Claims.{Comparable}
use Rattle.master.specs.Joined.{Joined, JW, JR, joined}
use Rattle.master.specs.Rust.{the_rust}
use Rattle.master.specs.Ours as masterOurs
use Rattle.master.proofs.CallAgrees.{master_is_ours}
use Rattle.master.proofs.LentLaws.{bytes_j, list_bytes}
use Rattle.master.proofs.Joining.{runs_join}
use Rattle.master.proofs.OursIsTheRust as masterIs
use Rattle.master.proofs.Secret.{master_is_secret}
use Rattle.slave.specs.declared.config.SlaveConfig.{SlaveConfig}
use Rattle.slave.specs.declared.state.Kind.TheVariants.{Listen, RespondToWrite, RespondToRead}
use Rattle.slave.specs.Init as initSlaveMachine
use Rattle.slave.specs.Calls.{size_refusal, init_shown, rust_init, slave_shown}
use Rattle.slave.specs.Calls as slaveCalls
use Rattle.slave.proofs.CallAgrees.{slave_is_ours}
use Rattle.slave.proofs.OursIsTheRust as slaveIs
use Rattle.slave.proofs.Secret.{slave_is_secret}
use Rattle.slave_driver.specs.Lent as slaveLent
use Rattle.images.specs.Numbers.{chip_of, transaction_entry, write_read_entry, write_entry, read_entry}
use Rattle.images.specs.MasterImage.{frame_options_of}
use Rattle.call.specs.Left.{Left, refused_with}
use Rattle.ch32_i2c.specs.Fed.{lefts, handed_out, stored, Makes, Begins, Seen, seen_of, record_in, StruckSeen, struck_by, as_seen, struck_in, DifferAtPayload, payload_in}
use Rattle.ch32_i2c.specs.Manual.{Keeps}
use Rattle.ch32_i2c.specs.Init as cInit
use Rattle.ch32_i2c.specs.Transfer.{call_of}
use Rattle.ch32_i2c.specs.InitSlave as cInitSlave
use Rattle.ch32_i2c.specs.Demands.{Call, init, transaction, write_read, write, read, init_slave, listen, respond_to_write, respond_to_read, entry_of, Reads, unknown, own_refusal, refusal_of, Accepted, rust, ours, checks_of, check_departs, call_end_as_the_rusts, timed_shown, the_rusts, NoneAdded, can_end, IsMet, takes, nothing_to_do, Over, Demand1, Demand2, Demand3, SeenAlike, SameRuns, transactions, write_reads, writes, reads, bytes_of_run, written_runs, ours_after, record_after, end_after, struck_after, Records, RecordsBy, RecordsRust, IsTheRust, BerrUnread, has_berr, EndsMoved, runs_shown, words_of, OfDemand2, RepliesEnd, SeenSame}
use Rattle.ch32_i2c.proofs.Recorded.{record_is, end_is, struck_same}
use Rattle.ch32_i2c.proofs.PayloadLaws.{differ_same, Answered, answered, answers_same}
use Rattle.ch32_i2c.proofs.CallsRun.{parts, Runs, begin_left_lem, response_left, transfer_runs, write_runs, response_runs, unread_runs, init_runs, init_slave_runs, config_unreserved, shown_timed, small}
use Rattle.ch32_i2c.proofs.SlaveEnds.{reply_ends, reply_end, listen_ends, tells_command, tells_status, tells_counts}
use Rattle.ch32_i2c.proofs.Begins.{transaction_starts, write_read_starts, frame_starts, read_starts, transfer_begins, response_begins, init_begins, init_slave_begins}
use Rattle.ch32_i2c.proofs.Goes.{Is15, init_goes, master_goes, init_slave_goes, slave_goes}
use Rattle.ch32_i2c.proofs.RustRefuses.{master_refused, master_unadded, timing_added, config_faulty, config_unadded}
use Rattle.ch32_i2c.proofs.Moved.{unmoved_end, moved_end, berr_undecided}
use Rattle.ch32_i2c.proofs.Unread.{none_has_berr}
use Rattle.ch32_i2c.proofs.RunsRecord.{transaction_runs}
use Rattle.ch32_i2c.proofs.Words.{address_passed, Obey, struck_keeps, transfer_obeys, init_slave_obeys, init_obeys, obeys_free}
use Rattle.ch32_i2c.proofs.Refuses.{transfer_refuses, response_refuses, init_refuses, init_slave_refuses}
use Rattle.ch32_i2c.proofs.Stops.{init_stops, master_stops, init_slave_stops, slave_stops}
use Rattle.std.specs.Prelude.{Result, Ok, Err}
use Rattle.timing.specs.declared.settings.Timing.{Timing}

-- ---- what the machine of a call shows

abbrev shown_by : Call → ℕ → List ℕ → Shown
shown_by (init chip input frequency duty) room = shown_timed chip (timing (chip_of chip) input frequency (cInit.duty_of duty))
shown_by (transaction chip address list written) room = call_shown (call_of chip address kind.Transaction) (lent_with list written room)
shown_by (write_read chip address written) room = call_shown (call_of chip address kind.WriteRead) (lent_with [] written room)
shown_by (write chip address option written) room = call_shown (call_of chip address (kind.Write (frame_options_of option))) (lent_with [] written 0)
shown_by (read chip address option) room = call_shown (call_of chip address (kind.Read (frame_options_of option))) (lent_with [] [] room)
shown_by (init_slave ten address has second general stretching) room = init_shown (cInitSlave.config_of ten address has second general stretching)
shown_by (listen chip) room = slave_shown (chip_of chip) Listen (slaveLent.lent_with [] 0)
shown_by (respond_to_write chip) room = slave_shown (chip_of chip) RespondToWrite (slaveLent.lent_with [] room)
shown_by (respond_to_read chip reply) room = slave_shown (chip_of chip) RespondToRead (slaveLent.lent_with reply 0)

-- where nothing is lent to read
at_nothing : (c : Call) (P : List ℕ → Type 0) (block bytes : List ℕ) → bytes ≡ [] → (Accepted c block [] → P []) → Accepted c block bytes → P bytes
at_nothing c P block bytes e f a = subst (λ (r : List ℕ). Accepted c block r → P r) (sym e) f a

abbrev Run : Call → List ℕ → List ℕ → Type 0
Run c block bytes = Runs (can_end c) (entry_of c) (takes c) block bytes (shown_by c (length bytes))

abbrev Begun : Call → List ℕ → List ℕ → Type 0
Begun c block bytes = Begins (entry_of c) (takes c) (nothing_to_do c) block bytes

runs : (c : Call) (block bytes : List ℕ) → Reads c bytes → Accepted c block bytes → Run c block bytes
runs (init chip input frequency duty) block bytes e a =
    at_nothing (init chip input frequency duty) (Run (init chip input frequency duty) block) block bytes e
    (λ a. let p = parts (init chip input frequency duty) block [] a in init_runs chip input frequency duty block p.size p.known p.own) a
runs (transaction chip address list written) block bytes e a =
    let p = parts (transaction chip address list written) block bytes a in
    transfer_runs (call_of chip address kind.Transaction) (lent_with list written (length bytes)) p.own (unknown (transaction chip address list written)) block bytes p.size p.known refl
runs (write_read chip address written) block bytes e a =
    let p = parts (write_read chip address written) block bytes a in
    transfer_runs (call_of chip address kind.WriteRead) (lent_with [] written (length bytes)) p.own (unknown (write_read chip address written)) block bytes p.size p.known refl
runs (write chip address option written) block bytes e a =
    at_nothing (write chip address option written) (Run (write chip address option written) block) block bytes e
    (λ a. let p = parts (write chip address option written) block [] a in write_runs (call_of chip address (kind.Write (frame_options_of option))) written p.own (unknown (write chip address option written)) block p.size p.known) a
runs (read chip address option) block bytes e a =
    let p = parts (read chip address option) block bytes a in
    transfer_runs (call_of chip address (kind.Read (frame_options_of option))) (lent_with [] [] (length bytes)) p.own (unknown (read chip address option)) block bytes p.size p.known refl
runs (init_slave ten address has second general stretching) block bytes e a =
    at_nothing (init_slave ten address has second general stretching) (Run (init_slave ten address has second general stretching) block) block bytes e
    (λ a. let p = parts (init_slave ten address has second general stretching) block [] a in init_slave_runs ten address has second general stretching block p.size p.known p.own) a
runs (listen chip) block bytes e a =
    at_nothing (listen chip) (Run (listen chip) block) block bytes e
    (λ a. let p = parts (listen chip) block [] a in unread_runs chip Listen [] (omega arith) block p.size p.known) a
runs (respond_to_write chip) block bytes e a =
    let p = parts (respond_to_write chip) block bytes a in
    response_runs chip RespondToWrite (slaveLent.lent_with [] (length bytes)) (small (length bytes) p.own) block bytes p.size p.known refl
runs (respond_to_read chip reply) block bytes e a =
    at_nothing (respond_to_read chip reply) (Run (respond_to_read chip reply) block) block bytes e
    (λ a. let p = parts (respond_to_read chip reply) block [] a in unread_runs chip RespondToRead reply (small (length reply) p.own) block p.size p.known) a

-- ---- it is our text's

timed_ours : (chip input frequency duty : ℕ) (x : Result Timing Error) → timing (chip_of chip) input frequency (cInit.duty_of duty) ≡ x → (turns : ℕ) (answers : List ℕ) → length answers < turns
    → shown_timed chip x answers ≡ timed_shown chip turns x answers
timed_ours chip input frequency duty (Ok t) q turns answers h = (init_is_the_rust (chip_of chip) input frequency (cInit.duty_of duty) t q).same answers turns h
timed_ours chip input frequency duty (Err e) q turns answers h = refl

shown_ours : (c : Call) (room : ℕ) → NoneAdded c room → (turns : ℕ) (answers : List ℕ) → length answers < turns → shown_by c room answers ≡ ours turns c room answers
shown_ours (init chip input frequency duty) room q turns answers h = timed_ours chip input frequency duty (timing (chip_of chip) input frequency (cInit.duty_of duty)) refl turns answers h
shown_ours (transaction chip address list written) room q turns answers h = master_is_ours.same (call_of chip address kind.Transaction) (lent_with list written room) q turns answers h
shown_ours (write_read chip address written) room q turns answers h = master_is_ours.same (call_of chip address kind.WriteRead) (lent_with [] written room) q turns answers h
shown_ours (write chip address option written) room q turns answers h = master_is_ours.same (call_of chip address (kind.Write (frame_options_of option))) (lent_with [] written 0) q turns answers h
shown_ours (read chip address option) room q turns answers h = master_is_ours.same (call_of chip address (kind.Read (frame_options_of option))) (lent_with [] [] room) q turns answers h
shown_ours (init_slave ten address has second general stretching) room q turns answers h = slave_is_ours.init (cInitSlave.config_of ten address has second general stretching) q turns answers h
shown_ours (listen chip) room q turns answers h = slave_is_ours.same (chip_of chip) Listen (slaveLent.lent_with [] 0) (omega arith) turns answers h
shown_ours (respond_to_write chip) room q turns answers h = slave_is_ours.same (chip_of chip) RespondToWrite (slaveLent.lent_with [] room) q turns answers h
shown_ours (respond_to_read chip reply) room q turns answers h = slave_is_ours.same (chip_of chip) RespondToRead (slaveLent.lent_with reply 0) q turns answers h

-- ---- and our text is the Rust's

as_the_rust : (c : Call) (room turns : ℕ) (answers : List ℕ) → rust turns c room answers ≡ forgetting (call_end_as_the_rusts c) (ours turns c room answers)
as_the_rust (init chip input frequency duty) room turns answers = nothing_forgotten (timed_shown chip turns (timing (chip_of chip) input frequency (cInit.duty_of duty)) answers)
as_the_rust (transaction chip address list written) room turns answers = masterIs.ours_is_the_rust (call_of chip address kind.Transaction) (lent_with list written room) turns answers
as_the_rust (write_read chip address written) room turns answers = masterIs.ours_is_the_rust (call_of chip address kind.WriteRead) (lent_with [] written room) turns answers
as_the_rust (write chip address option written) room turns answers = masterIs.ours_is_the_rust (call_of chip address (kind.Write (frame_options_of option))) (lent_with [] written 0) turns answers
as_the_rust (read chip address option) room turns answers = masterIs.ours_is_the_rust (call_of chip address (kind.Read (frame_options_of option))) (lent_with [] [] room) turns answers
as_the_rust (init_slave ten address has second general stretching) room turns answers = nothing_forgotten (rust_init turns (cInitSlave.config_of ten address has second general stretching) answers)
as_the_rust (listen chip) room turns answers = slaveIs.ours_is_the_rust (chip_of chip) Listen (slaveLent.lent_with [] 0) turns answers
as_the_rust (respond_to_write chip) room turns answers = slaveIs.ours_is_the_rust (chip_of chip) RespondToWrite (slaveLent.lent_with [] room) turns answers
as_the_rust (respond_to_read chip reply) room turns answers = slaveIs.ours_is_the_rust (chip_of chip) RespondToRead (slaveLent.lent_with reply 0) turns answers

-- an end that no error check decided
others : (c : Call) (e : Error) → call_end_as_the_rusts c (failed e) ≡ failed e
others (init chip input frequency duty) e = refl
others (transaction chip address list written) e = others_stay.failures (chip_of chip) true e
others (write_read chip address written) e = others_stay.failures (chip_of chip) true e
others (write chip address option written) e = others_stay.failures (chip_of chip) true e
others (read chip address option) e = others_stay.failures (chip_of chip) true e
others (init_slave ten address has second general stretching) e = refl
others (listen chip) e = others_stay.failures (chip_of chip) false e
others (respond_to_write chip) e = others_stay.failures (chip_of chip) false e
others (respond_to_read chip reply) e = others_stay.failures (chip_of chip) false e

second : (chip : ℕ) (reply : List ℕ) (v x : ℕ) → call_end_as_the_rusts (respond_to_read chip reply) (returned_both v x) ≡ returned v
second chip reply v x = second_forgotten (chip_of chip) false v x

returns : (c : Call) (v : ℕ) → call_end_as_the_rusts c (returned v) ≡ returned v
returns (init chip input frequency duty) v = refl
returns (transaction chip address list written) v = others_stay.done (chip_of chip) true v
returns (write_read chip address written) v = others_stay.done (chip_of chip) true v
returns (write chip address option written) v = others_stay.done (chip_of chip) true v
returns (read chip address option) v = others_stay.done (chip_of chip) true v
returns (init_slave ten address has second general stretching) v = refl
returns (listen chip) v = others_stay.done (chip_of chip) false v
returns (respond_to_write chip) v = others_stay.done (chip_of chip) false v
returns (respond_to_read chip reply) v = others_stay.done (chip_of chip) false v

-- an accepted call has no added cause
none_added : (c : Call) (room : ℕ) → own_refusal c room ≡ none → NoneAdded c room
none_added (init chip input frequency duty) room q = q
none_added (transaction chip address list written) room q = master_is_ours.covers (call_of chip address kind.Transaction) (lent_with list written room) q
none_added (write_read chip address written) room q = master_is_ours.covers (call_of chip address kind.WriteRead) (lent_with [] written room) q
none_added (write chip address option written) room q = master_is_ours.covers (call_of chip address (kind.Write (frame_options_of option))) (lent_with [] written 0) q
none_added (read chip address option) room q = master_is_ours.covers (call_of chip address (kind.Read (frame_options_of option))) (lent_with [] [] room) q
none_added (init_slave ten address has second general stretching) room q = config_unreserved (cInitSlave.config_of ten address has second general stretching) q
none_added (listen chip) room q = tt
none_added (respond_to_write chip) room q = small room q
none_added (respond_to_read chip reply) room q = small (length reply) q

accepted_ours : (c : Call) (block bytes : List ℕ) → Accepted c block bytes → (turns : ℕ) (answers : List ℕ) → length answers < turns → shown_by c (length bytes) answers ≡ ours turns c (length bytes) answers
accepted_ours c block bytes a turns answers h = shown_ours c (length bytes) (none_added c (length bytes) (parts c block bytes a).own) turns answers h

-- the Rust refuses with 6 and 9
init_slave_refused : (c : SlaveConfig) (e : Error) → initSlaveMachine.init_refusal c ≡ some e → (answers : List ℕ) → init_shown c answers ≡ no_more (some (failed e))
unfolding init_shown
init_slave_refused c e q answers = ap (λ (o : Option Error). slaveCalls.seen_after o (shown_from initSlaveMachine.init_machine [] (initSlaveMachine.started c) answers)) q

size_added : {P : Type 0} (n : ℕ) (e : Error) → the_rusts e ≡ true → size_refusal n ≡ some e → P
size_added n e r q = go (ltb 65535 n) q
  where
    go : {P : Type 0} (b : Bool) → cond b (some BufferTooLong) none ≡ some e → P
    go true q = let z : BufferTooLong ≡ e = cc in absurd (true≢false (sym r ∙ ap the_rusts (sym z)))
    go false q = let z : ◌≡◌ {A = ℕ} 0 1 = cc in absurd (omega arith)

rust_refused : (c : Call) (room : ℕ) (e : Error) → own_refusal c room ≡ some e → the_rusts e ≡ true → (turns : ℕ) (answers : List ℕ) → length answers < turns → rust turns c room answers ≡ no_more (some (failed e))
rust_refused (init chip input frequency duty) room e q r turns answers h = timing_added (chip_of chip) input frequency (cInit.duty_of duty) e r q
rust_refused (transaction chip address list written) room e q r turns answers h = master_refused (call_of chip address kind.Transaction) (lent_with list written room) turns answers e r q
rust_refused (write_read chip address written) room e q r turns answers h = master_refused (call_of chip address kind.WriteRead) (lent_with [] written room) turns answers e r q
rust_refused (write chip address option written) room e q r turns answers h = master_refused (call_of chip address (kind.Write (frame_options_of option))) (lent_with [] written 0) turns answers e r q
rust_refused (read chip address option) room e q r turns answers h = master_refused (call_of chip address (kind.Read (frame_options_of option))) (lent_with [] [] room) turns answers e r q
rust_refused (init_slave ten address has second general stretching) room e q r turns answers h =
    let c = cInitSlave.config_of ten address has second general stretching in
    sym (slave_is_ours.init_refused c (config_faulty c e r q) turns answers h) ∙ init_slave_refused c e q answers
rust_refused (listen chip) room e q r turns answers h = let z : ◌≡◌ {A = ℕ} 0 1 = cc in absurd (omega arith)
rust_refused (respond_to_write chip) room e q r turns answers h = size_added room e r q
rust_refused (respond_to_read chip reply) room e q r turns answers h = size_added (length reply) e r q

small_refused : {P : Type 0} (n : ℕ) (e : Error) → n ≤ 65535 → size_refusal n ≡ some e → P
small_refused n e h q = let z : none ≡ some e = ap (λ (b : Bool). cond b (some BufferTooLong) none) (sym (le-ltb 65535 n h)) ∙ q in let y : ◌≡◌ {A = ℕ} 0 1 = cc in absurd (omega arith)

unadded : (c : Call) (room : ℕ) (e : Error) → NoneAdded c room → own_refusal c room ≡ some e → the_rusts e ≡ true
unadded (init chip input frequency duty) room e n q = let y : ◌≡◌ {A = ℕ} 0 1 = cc in absurd (omega arith)
unadded (transaction chip address list written) room e n q = master_unadded (call_of chip address kind.Transaction) (lent_with list written room) e n q
unadded (write_read chip address written) room e n q = master_unadded (call_of chip address kind.WriteRead) (lent_with [] written room) e n q
unadded (write chip address option written) room e n q = master_unadded (call_of chip address (kind.Write (frame_options_of option))) (lent_with [] written 0) e n q
unadded (read chip address option) room e n q = master_unadded (call_of chip address (kind.Read (frame_options_of option))) (lent_with [] [] room) e n q
unadded (init_slave ten address has second general stretching) room e n q = config_unadded (cInitSlave.config_of ten address has second general stretching) e n q
unadded (listen chip) room e n q = let z : ◌≡◌ {A = ℕ} 0 1 = cc in absurd (omega arith)
unadded (respond_to_write chip) room e n q = small_refused room e n q
unadded (respond_to_read chip reply) room e n q = small_refused (length reply) e n q

-- ---- begin refuses with the first cause

-- where nothing is lent to read
nothing_lent : (e : Error) (b bytes : List ℕ) (h : Left) → bytes ≡ [] → h ≡ refused_with e b [] → h ≡ refused_with e b bytes
nothing_lent e b bytes h q k = k ∙ ap (λ (r : List ℕ). refused_with e b r) (sym q)

refuses : (c : Call) (block bytes : List ℕ) → Reads c bytes → (e : Error) → refusal_of c (length block) (length bytes) ≡ some e → (entry_of c).begin block bytes ≡ refused_with e block bytes
refuses (init chip input frequency duty) b r k e q = nothing_lent e b r _ k (init_refuses chip input frequency duty b e q)
refuses (transaction chip address list written) b r k e q = transfer_refuses (ltb 3 chip) (call_of chip address kind.Transaction) b (lent_with list written (length r)) r e q
refuses (write_read chip address written) b r k e q = transfer_refuses (ltb 3 chip) (call_of chip address kind.WriteRead) b (lent_with [] written (length r)) r e q
refuses (write chip address option written) b r k e q = nothing_lent e b r _ k (transfer_refuses (ltb 3 chip || ltb 5 option) (call_of chip address (kind.Write (frame_options_of option))) b (lent_with [] written 0) [] e q)
refuses (read chip address option) b r k e q = transfer_refuses (ltb 3 chip || ltb 5 option) (call_of chip address (kind.Read (frame_options_of option))) b (lent_with [] [] (length r)) r e q
refuses (init_slave ten address has second general stretching) b r k e q = nothing_lent e b r _ k (init_slave_refuses ten address has second general stretching b e q)
refuses (listen chip) b r k e q = nothing_lent e b r _ k (response_refuses 0 chip Listen [] b [] e q)
refuses (respond_to_write chip) b r k e q = response_refuses (length r) chip RespondToWrite [] b r e q
refuses (respond_to_read chip reply) b r k e q = nothing_lent e b r _ k (response_refuses (length reply) chip RespondToRead reply b [] e q)

-- ---- a step that is not taken

stopped : (b bytes : List ℕ) (h : Left) → bytes ≡ [] → h ≡ refused_with InvalidState b [] → h ≡ refused_with InvalidState b bytes
stopped b bytes h q k = nothing_lent InvalidState b bytes h q k

stops : (c : Call) (block bytes : List ℕ) → Reads c bytes → takes c block bytes ≡ false → (a : ℕ) → (entry_of c).step block bytes a ≡ refused_with InvalidState block bytes
stops (init chip input frequency duty) b r k q a = stopped b r _ k (init_stops b a q)
stops (transaction chip address list written) b r k q a = master_stops transaction_entry b list written r a q
stops (write_read chip address written) b r k q a = master_stops write_read_entry b [] written r a q
stops (write chip address option written) b r k q a = stopped b r _ k (master_stops write_entry b [] written [] a q)
stops (read chip address option) b r k q a = master_stops read_entry b [] [] r a q
stops (init_slave ten address has second general stretching) b r k q a = stopped b r _ k (init_slave_stops b a q)
stops (listen chip) b r k q a = stopped b r _ k (slave_stops Listen b (slaveLent.lent_with [] 0) [] [] a q)
stops (respond_to_write chip) b r k q a = slave_stops RespondToWrite b (slaveLent.lent_with [] (length r)) [] r a q
stops (respond_to_read chip reply) b r k q a = stopped b r _ k (slave_stops RespondToRead b (slaveLent.lent_with reply 0) reply [] a q)

-- ---- a step that is taken

goes : (c : Call) (block bytes : List ℕ) → takes c block bytes ≡ true → (a : ℕ) → Is15 ((entry_of c).step block bytes a).next → ⊥
goes (init chip input frequency duty) b r t a = init_goes b a t
goes (transaction chip address list written) b r t a = master_goes transaction_entry b list written r a t
goes (write_read chip address written) b r t a = master_goes write_read_entry b [] written r a t
goes (write chip address option written) b r t a = master_goes write_entry b [] written [] a t
goes (read chip address option) b r t a = master_goes read_entry b [] [] r a t
goes (init_slave ten address has second general stretching) b r t a = init_slave_goes b a t
goes (listen chip) b r t a = slave_goes Listen b (slaveLent.lent_with [] 0) [] [] a t
goes (respond_to_write chip) b r t a = slave_goes RespondToWrite b (slaveLent.lent_with [] (length r)) [] r a t
goes (respond_to_read chip reply) b r t a = slave_goes RespondToRead b (slaveLent.lent_with reply 0) reply [] a t

-- ---- begin of an accepted call

begins : (c : Call) (block bytes : List ℕ) → Reads c bytes → Accepted c block bytes → Begins (entry_of c) (takes c) (nothing_to_do c) block bytes
begins (init chip input frequency duty) block bytes e a =
    at_nothing (init chip input frequency duty) (Begun (init chip input frequency duty) block) block bytes e
    (λ a. let p = parts (init chip input frequency duty) block [] a in init_begins chip input frequency duty block p.size p.known p.own) a
begins (transaction chip address list written) block bytes e a =
    let p = parts (transaction chip address list written) block bytes a in
    let c = call_of chip address kind.Transaction in
    let l = lent_with list written (length bytes) in
    transfer_begins c l p.own block bytes refl (entry_of (transaction chip address list written)) (takes (transaction chip address list written)) (nothing_to_do (transaction chip address list written))
    (begin_left_lem c l p.own (ltb 3 chip) block bytes p.size p.known refl) refl (transaction_starts chip address list written (length bytes) p.own)
begins (write_read chip address written) block bytes e a =
    let p = parts (write_read chip address written) block bytes a in
    let c = call_of chip address kind.WriteRead in
    let l = lent_with [] written (length bytes) in
    transfer_begins c l p.own block bytes refl (entry_of (write_read chip address written)) (takes (write_read chip address written)) false
    (begin_left_lem c l p.own (ltb 3 chip) block bytes p.size p.known refl) refl (write_read_starts chip address written (length bytes))
begins (write chip address option written) block bytes e a =
    at_nothing (write chip address option written) (Begun (write chip address option written) block) block bytes e
    (λ a.
    let p = parts (write chip address option written) block [] a in
    let c = call_of chip address (kind.Write (frame_options_of option)) in
    let l = lent_with [] written 0 in
    transfer_begins c l p.own block [] refl (entry_of (write chip address option written)) (takes (write chip address option written)) (nothing_to_do (write chip address option written))
    (begin_left_lem c l p.own (ltb 3 chip || ltb 5 option) block [] p.size p.known refl) refl
    (frame_starts chip address written option (ltb-false 5 option (second_false (ltb 3 chip) (ltb 5 option) p.known)))) a
begins (read chip address option) block bytes e a =
    let p = parts (read chip address option) block bytes a in
    let c = call_of chip address (kind.Read (frame_options_of option)) in
    let l = lent_with [] [] (length bytes) in
    transfer_begins c l p.own block bytes refl (entry_of (read chip address option)) (takes (read chip address option)) false
    (begin_left_lem c l p.own (ltb 3 chip || ltb 5 option) block bytes p.size p.known refl) refl (read_starts chip address option (length bytes))
begins (init_slave ten address has second general stretching) block bytes e a =
    at_nothing (init_slave ten address has second general stretching) (Begun (init_slave ten address has second general stretching) block) block bytes e
    (λ a. let p = parts (init_slave ten address has second general stretching) block [] a in init_slave_begins ten address has second general stretching block p.size p.known p.own) a
begins (listen chip) block bytes e a =
    at_nothing (listen chip) (Begun (listen chip) block) block bytes e
    (λ a.
    let p = parts (listen chip) block [] a in
    response_begins (chip_of chip) Listen (slaveLent.lent_with [] 0) (omega arith) block [] refl (entry_of (listen chip)) (takes (listen chip))
    (response_left chip Listen (slaveLent.lent_with [] 0) (omega arith) block [] p.size p.known refl) refl) a
begins (respond_to_write chip) block bytes e a =
    let p = parts (respond_to_write chip) block bytes a in
    let l = slaveLent.lent_with [] (length bytes) in
    response_begins (chip_of chip) RespondToWrite l (small (length bytes) p.own) block bytes refl (entry_of (respond_to_write chip)) (takes (respond_to_write chip))
    (response_left chip RespondToWrite l (small (length bytes) p.own) block bytes p.size p.known refl) refl
begins (respond_to_read chip reply) block bytes e a =
    at_nothing (respond_to_read chip reply) (Begun (respond_to_read chip reply) block) block bytes e
    (λ a.
    let p = parts (respond_to_read chip reply) block [] a in
    let l = slaveLent.lent_with reply 0 in
    response_begins (chip_of chip) RespondToRead l (small (length reply) p.own) block [] refl (entry_of (respond_to_read chip reply)) (takes (respond_to_read chip reply))
    (response_left chip RespondToRead l (small (length reply) p.own) block [] p.size p.known refl) refl) a

-- ---- what is seen of an accepted call

module _ (c : Call) (block bytes : List ℕ) (k : Reads c bytes) (a : Accepted c block bytes) where
  seen_shown : (answers : List ℕ) → Records c block bytes answers (shown_by c (length bytes) answers)
  seen_shown answers =
      let r = runs c block bytes k a in
      record {
        record_is = record_is (entry_of c) block bytes answers (shown_by c (length bytes) answers) (r.makes answers) (r.recorded answers);
        end_is = end_is (entry_of c) block bytes answers (shown_by c (length bytes) answers) (r.makes answers) (r.recorded answers);
        read_is = (r.makes answers).read;
      }

  seen_ours : (turns : ℕ) (answers : List ℕ) → length answers < turns → Records c block bytes answers (ours turns c (length bytes) answers)
  seen_ours turns answers h = subst (λ (s : Shown). Records c block bytes answers s) (accepted_ours c block bytes a turns answers h) (seen_shown answers)

  shown_after : (answers : List ℕ) → shown_by c (length bytes) answers ≡ ours_after c (length bytes) answers
  shown_after answers = accepted_ours c block bytes a (suc (length answers)) answers (omega arith)

  of_demand_2 : (answers : List ℕ) → OfDemand2 c block bytes answers
  of_demand_2 answers =
      let r = seen_ours (suc (length answers)) answers (omega arith) in
      let s = ours_after c (length bytes) answers in
      record {
        as_long = ap length r.record_is ∙ length-map s.events seen_of;
        struck = ap (struck_by s.events) r.record_is ∙ struck_same s.events;
        unstruck = r;
      }

-- ---- demands 1 and 2

over : (c : Call) (block bytes : List ℕ) → Reads c bytes → Accepted c block bytes → (answers more : List ℕ) (e : Ending) → end_after c block bytes answers ≡ some e → Over c block bytes answers more
over c block bytes k a answers more e q =
    let r = runs c block bytes k a in
    let h : (shown_by c (length bytes) answers).end ≡ some e = sym (seen_shown c block bytes k a answers).end_is ∙ q in
    let same = r.stays answers more e h in
    record {
      record_stays = (seen_shown c block bytes k a (answers ++ more)).record_is ∙ ap record_in same ∙ sym (seen_shown c block bytes k a answers).record_is;
      end_stays = (seen_shown c block bytes k a (answers ++ more)).end_is ∙ ap (λ (s : Shown). s.end) same ∙ sym (seen_shown c block bytes k a answers).end_is;
      left_stays = r.over answers e h;
    }

pub demand_1 : Demand1
demand_1 =
    record {
      tells = number_injective;
      tells_command = tells_command;
      tells_status = tells_status;
      tells_counts = tells_counts;
      commanded =
          λ chip block a answers e q.
          listen_ends (chip_of chip) (slaveLent.lent_with [] 0) (suc (length answers)) answers e (sym (seen_ours (listen chip) block [] refl a (suc (length answers)) answers (omega arith)).end_is ∙ q);
      replied =
          λ chip reply block a answers e q.
          reply_end (chip_of chip) reply (suc (length answers)) answers e (sym (seen_ours (respond_to_read chip reply) block [] refl a (suc (length answers)) answers (omega arith)).end_is ∙ q);
      refuses = refuses;
      accepts = begins;
      goes = goes;
      stops = stops;
      ends = λ c block bytes k a answers. subst (IsMet (can_end c)) (sym (seen_shown c block bytes k a answers).end_is) ((runs c block bytes k a).met answers);
      still_open = λ c block bytes k a answers q. (runs c block bytes k a).still_open answers (sym (seen_shown c block bytes k a answers).end_is ∙ q);
      over = over;
    }

makes : (c : Call) (block bytes : List ℕ) → Reads c bytes → Accepted c block bytes → (turns : ℕ) (answers : List ℕ) → length answers < turns
    → Makes (entry_of c) block bytes answers (ours turns c (length bytes) answers)
makes c block bytes k a turns answers h = subst (λ (s : Shown). Makes (entry_of c) block bytes answers s) (accepted_ours c block bytes a turns answers h) ((runs c block bytes k a).makes answers)

-- what is seen is a text's that is ours with something of its end forgotten
recorded_by : (forget : Ending → Ending) (c : Call) (block bytes : List ℕ) → Reads c bytes → Accepted c block bytes → (turns : ℕ) (answers : List ℕ) → length answers < turns
    → (s : Shown) → s ≡ forgetting forget (ours turns c (length bytes) answers) → RecordsBy forget c block bytes answers s
recorded_by forget c block bytes k a turns answers h s q =
    let r = seen_ours c block bytes k a turns answers h in
    record {
      record_is = r.record_is ∙ ap record_in (sym q);
      end_is = ap (forget_end forget) r.end_is ∙ ap (λ (s : Shown). s.end) (sym q);
      read_is = r.read_is ∙ ap (λ (s : Shown). stored s.arrivals bytes) (sym q);
    }

rusts : (c : Call) (block bytes : List ℕ) → Reads c bytes → Accepted c block bytes → (turns : ℕ) (answers : List ℕ) → length answers < turns → RecordsRust c block bytes answers (rust turns c (length bytes) answers)
rusts c block bytes k a turns answers h = recorded_by (call_end_as_the_rusts c) c block bytes k a turns answers h (rust turns c (length bytes) answers) (as_the_rust c (length bytes) turns answers)

-- ---- where it is the Rust unchanged

unmoved : (c : Call) (block bytes : List ℕ) → Reads c bytes → Accepted c block bytes → (turns : ℕ) (answers : List ℕ) → length answers < turns
    → check_departs (checks_of c) (end_after c block bytes answers) ≡ false → IsTheRust c block bytes answers (rust turns c (length bytes) answers)
unmoved c block bytes k a turns answers h d =
    let r = rusts c block bytes k a turns answers h in
    record { record_is = r.record_is; end_is = sym (unmoved_end c (end_after c block bytes answers) (demand_1.ends c block bytes k a answers) d) ∙ r.end_is; read_is = r.read_is }

moved : (c : Call) (block bytes : List ℕ) → Reads c bytes → Accepted c block bytes → (turns : ℕ) (answers : List ℕ) → length answers < turns
    → check_departs (checks_of c) (end_after c block bytes answers) ≡ true → EndsMoved (end_after c block bytes answers) (rust turns c (length bytes) answers).end
moved c block bytes k a turns answers h d =
    subst (EndsMoved (end_after c block bytes answers)) (rusts c block bytes k a turns answers h).end_is (moved_end c (end_after c block bytes answers) (demand_1.ends c block bytes k a answers) d)

without_berr : (c : Call) (block bytes : List ℕ) → Reads c bytes → Accepted c block bytes → (turns : ℕ) (answers : List ℕ) → length answers < turns → BerrUnread turns c (length bytes) answers
    → IsTheRust c block bytes answers (rust turns c (length bytes) answers)
without_berr (init chip input frequency duty) block bytes k a turns answers h u = unmoved (init chip input frequency duty) block bytes k a turns answers h refl
without_berr (transaction chip address list written) block bytes k a turns answers h u =
    recorded_by added_forgotten (transaction chip address list written) block bytes k a turns answers h _ (masterIs.same_without_berr (call_of chip address kind.Transaction) (lent_with list written (length bytes)) turns answers u)
without_berr (write_read chip address written) block bytes k a turns answers h u =
    recorded_by added_forgotten (write_read chip address written) block bytes k a turns answers h _ (masterIs.same_without_berr (call_of chip address kind.WriteRead) (lent_with [] written (length bytes)) turns answers u)
without_berr (write chip address option written) block bytes k a turns answers h u =
    recorded_by added_forgotten (write chip address option written) block bytes k a turns answers h _ (masterIs.same_without_berr (call_of chip address (kind.Write (frame_options_of option))) (lent_with [] written 0) turns answers u)
without_berr (read chip address option) block bytes k a turns answers h u =
    recorded_by added_forgotten (read chip address option) block bytes k a turns answers h _ (masterIs.same_without_berr (call_of chip address (kind.Read (frame_options_of option))) (lent_with [] [] (length bytes)) turns answers u)
without_berr (init_slave ten address has second general stretching) block bytes k a turns answers h u = unmoved (init_slave ten address has second general stretching) block bytes k a turns answers h refl
without_berr (listen chip) block bytes k a turns answers h u =
    recorded_by added_forgotten (listen chip) block bytes k a turns answers h _ (slaveIs.same_without_berr (chip_of chip) Listen (slaveLent.lent_with [] 0) turns answers u)
without_berr (respond_to_write chip) block bytes k a turns answers h u =
    recorded_by added_forgotten (respond_to_write chip) block bytes k a turns answers h _ (slaveIs.same_without_berr (chip_of chip) RespondToWrite (slaveLent.lent_with [] (length bytes)) turns answers u)
without_berr (respond_to_read chip reply) block bytes k a turns answers h u =
    recorded_by added_forgotten (respond_to_read chip reply) block bytes k a turns answers h _ (slaveIs.same_without_berr (chip_of chip) RespondToRead (slaveLent.lent_with reply 0) turns answers u)

unread : (c : Call) (room turns : ℕ) (answers : List ℕ) → all_allowed has_no_berr (ours turns c room answers).events ≡ true → BerrUnread turns c room answers
unread (init chip input frequency duty) room turns answers q = refl
unread (transaction chip address list written) room turns answers q = masterIs.unread_without_berr (call_of chip address kind.Transaction) (lent_with list written room) turns answers q
unread (write_read chip address written) room turns answers q = masterIs.unread_without_berr (call_of chip address kind.WriteRead) (lent_with [] written room) turns answers q
unread (write chip address option written) room turns answers q = masterIs.unread_without_berr (call_of chip address (kind.Write (frame_options_of option))) (lent_with [] written 0) turns answers q
unread (read chip address option) room turns answers q = masterIs.unread_without_berr (call_of chip address (kind.Read (frame_options_of option))) (lent_with [] [] room) turns answers q
unread (init_slave ten address has second general stretching) room turns answers q = refl
unread (listen chip) room turns answers q = slaveIs.unread_without_berr (chip_of chip) Listen (slaveLent.lent_with [] 0) turns answers q
unread (respond_to_write chip) room turns answers q = slaveIs.unread_without_berr (chip_of chip) RespondToWrite (slaveLent.lent_with [] room) turns answers q
unread (respond_to_read chip reply) room turns answers q = slaveIs.unread_without_berr (chip_of chip) RespondToRead (slaveLent.lent_with reply 0) turns answers q

-- runs with joined bytes
ours_join : (chip address : ℕ) (list written : List ℕ) (room : ℕ) → refusal (call_of chip address kind.Transaction) (lent_with list written room) ≡ none → (turns : ℕ) (answers : List ℕ)
    → ours turns (transaction chip address list written) room answers ≡ runs_shown (masterOurs.ours (chip_of chip)) turns chip address (joined (cut (operations_of list) written)) answers
unfolding refusal ours_with
ours_join chip address list written room q turns answers =
    let l = lent_with list written room in
    ap (λ (p : Program). shown_of 0 p answers)
    (transaction_runs (chip_of chip) (masterOurs.ours (chip_of chip)) address l q (runs_join.ours_passes (chip_of chip) address (address_passed address kind.Transaction l q)) turns (λ f. finish (Err f)) (λ _. finish done))

rust_joins : (chip address : ℕ) (list written : List ℕ) (room : ℕ) → refusal (call_of chip address kind.Transaction) (lent_with list written room) ≡ none → (turns : ℕ) (answers : List ℕ)
    → rust turns (transaction chip address list written) room answers ≡ runs_shown (the_rust (chip_of chip)) turns chip address (joined (cut (operations_of list) written)) answers
unfolding refusal rust_with
rust_joins chip address list written room q turns answers =
    let l = lent_with list written room in
    ap (λ (p : Program). shown_of 0 p answers)
    (transaction_runs (chip_of chip) (the_rust (chip_of chip)) address l q (runs_join.rust_passes (chip_of chip) address (address_passed address kind.Transaction l q)) turns (λ f. finish (Err f)) (λ _. finish done))

joins : (chip address : ℕ) (list written block bytes : List ℕ) → Accepted (transaction chip address list written) block bytes → (turns : ℕ) (answers : List ℕ) → length answers < turns
    → Records (transaction chip address list written) block bytes answers (runs_shown (masterOurs.ours (chip_of chip)) turns chip address (joined (cut (operations_of list) written)) answers)
joins chip address list written block bytes a turns answers h =
    subst (λ (s : Shown). Records (transaction chip address list written) block bytes answers s)
    (ours_join chip address list written (length bytes) (parts (transaction chip address list written) block bytes a).own turns answers)
    (seen_ours (transaction chip address list written) block bytes tt a turns answers h)

-- the words that are written
obeys : (c : Call) (room : ℕ) → own_refusal c room ≡ none → (answers : List ℕ) → Obey (words_of c) (shown_by c room answers).events
obeys (init chip input frequency duty) room q answers = init_obeys chip input frequency duty q answers
obeys (transaction chip address list written) room q answers = transfer_obeys (call_of chip address kind.Transaction) (lent_with list written room) q answers
obeys (write_read chip address written) room q answers = transfer_obeys (call_of chip address kind.WriteRead) (lent_with [] written room) q answers
obeys (write chip address option written) room q answers = transfer_obeys (call_of chip address (kind.Write (frame_options_of option))) (lent_with [] written 0) q answers
obeys (read chip address option) room q answers = transfer_obeys (call_of chip address (kind.Read (frame_options_of option))) (lent_with [] [] room) q answers
obeys (init_slave ten address has second general stretching) room q answers = init_slave_obeys ten address has second general stretching q answers
obeys (listen chip) room q answers = obeys_free (shown_by (listen chip) room answers).events
obeys (respond_to_write chip) room q answers = obeys_free (shown_by (respond_to_write chip) room answers).events
obeys (respond_to_read chip reply) room q answers = obeys_free (shown_by (respond_to_read chip reply) room answers).events

words : (c : Call) (block bytes : List ℕ) → Reads c bytes → Accepted c block bytes → (answers : List ℕ) → Keeps (words_of c) (struck_after c block bytes answers)
words c block bytes k a answers =
    subst (λ (xs : List StruckSeen). Keeps (words_of c) xs) (ap struck_in (shown_after c block bytes k a answers) ∙ sym (of_demand_2 c block bytes k a answers).struck)
    (struck_keeps (words_of c) (shown_by c (length bytes) answers).events (obeys c (length bytes) (parts c block bytes a).own answers))

pub demand_2 : Demand2
demand_2 =
    record {
      same = makes;
      records = seen_ours;
      enough = λ c block bytes a turns answers h. sym (accepted_ours c block bytes a turns answers h) ∙ accepted_ours c block bytes a (suc (length answers)) answers (omega arith);
      as_the_rust = as_the_rust;
      rusts = rusts;
      counts = slaveIs.counts_as_the_rust;
      second = second;
      flags = flags_decide;
      without_ch32v4 = λ c block bytes k a q turns answers h. unmoved c block bytes k a turns answers h (berr_undecided (checks_of c) (end_after c block bytes answers) q);
      without_berr = without_berr;
      unread =
          λ c block bytes k a turns answers h q.
          unread c (length bytes) turns answers
          (none_has_berr (ours turns c (length bytes) answers).events (subst (λ (xs : List Seen). has_berr xs ≡ false) (seen_ours c block bytes k a turns answers h).record_is q));
      unmoved = unmoved;
      moved = moved;
      classes = class_is_the_rusts;
      others = others;
      returns = returns;
      refused = rust_refused;
      unadded = unadded;
      joins = joins;
      rust_joins = λ chip address list written block bytes a turns answers. rust_joins chip address list written (length bytes) (parts (transaction chip address list written) block bytes a).own turns answers;
      joins_with = runs_join;
      words = words;
    }

-- ---- demand 3

module _ (c₁ c₂ : Call) (b₁ r₁ b₂ r₂ : List ℕ) (k₁ : Reads c₁ r₁) (k₂ : Reads c₂ r₂) (a₁ : Accepted c₁ b₁ r₁) (a₂ : Accepted c₂ b₂ r₂) where
  seen_alike : (Alike : Ending → Ending → Type 0) (xs ys : List ℕ)
      → ((i : ℕ) → SameStruck Alike (shown_by c₁ (length r₁) (take i xs)) (shown_by c₂ (length r₂) (take i ys))) → SeenAlike Alike c₁ c₂ b₁ r₁ b₂ r₂ xs ys
  seen_alike Alike xs ys s =
      record {
        records =
            λ i.
            (of_demand_2 c₁ b₁ r₁ k₁ a₁ (take i xs)).struck
            ∙ ap struck_in (sym (shown_after c₁ b₁ r₁ k₁ a₁ (take i xs)))
            ∙ ap (map as_seen) (s i).records
            ∙ ap struck_in (shown_after c₂ b₂ r₂ k₂ a₂ (take i ys))
            ∙ sym (of_demand_2 c₂ b₂ r₂ k₂ a₂ (take i ys)).struck;
        ends =
            λ i.
            subst (λ (x : Option Ending). EndsAlike Alike x (end_after c₂ b₂ r₂ (take i ys))) (sym (seen_shown c₁ b₁ r₁ k₁ a₁ (take i xs)).end_is)
            (subst (λ (y : Option Ending). EndsAlike Alike (shown_by c₁ (length r₁) (take i xs)).end y) (sym (seen_shown c₂ b₂ r₂ k₂ a₂ (take i ys)).end_is) (s i).ends);
        first = λ i. of_demand_2 c₁ b₁ r₁ k₁ a₁ (take i xs);
        second = λ i. of_demand_2 c₂ b₂ r₂ k₂ a₂ (take i ys);
      }

  -- the premise, of what the first call's machine shows
  differ_shown : (xs ys : List ℕ) → DifferAtPayload (record_after c₁ b₁ r₁ xs) xs ys → DifferInPayload (shown_by c₁ (length r₁) xs).events xs ys
  differ_shown xs ys d = differ_same (shown_by c₁ (length r₁) xs).events xs ys (subst (λ (rs : List Seen). DifferAtPayload rs xs ys) (seen_shown c₁ b₁ r₁ k₁ a₁ xs).record_is d)

  -- payloads that agree: the answers are the same
  same_given : (xs ys : List ℕ) → DifferAtPayload (record_after c₁ b₁ r₁ xs) xs ys → payload_in (record_after c₁ b₁ r₁ xs) ≡ payload_in (record_after c₂ b₂ r₂ ys)
      → ((i : ℕ) → SameStruck Same (shown_by c₁ (length r₁) (take i xs)) (shown_by c₂ (length r₂) (take i ys))) → xs ≡ ys
  same_given xs ys d e s =
      let p = (seen_shown c₁ b₁ r₁ k₁ a₁ xs).record_is in
      let q = (seen_shown c₂ b₂ r₂ k₂ a₂ ys).record_is in
      answers_same (shown_by c₁ (length r₁) xs).events (shown_by c₂ (length r₂) ys).events xs ys
      (ap (λ (zs : List ℕ). struck (shown_by c₁ (length r₁) zs)) (sym (take_all most xs (omega (arith, max_left))))
      ∙ (s most).records
      ∙ ap (λ (zs : List ℕ). struck (shown_by c₂ (length r₂) zs)) (take_all most ys (omega (arith, max_right))))
      (differ_shown xs ys d)
      (subst (λ (rs : List Seen). Answered rs xs) p (answered (handed_out (lefts (entry_of c₁) b₁ r₁ xs)) xs))
      (subst (λ (rs : List Seen). Answered rs ys) q (answered (handed_out (lefts (entry_of c₂) b₂ r₂ ys)) ys))
      (ap payload_in (sym p) ∙ e ∙ ap payload_in q)
    where
      most : ℕ
      most = length xs + length ys

      max_left : length xs ≤ most
      max_left = omega arith

      max_right : length ys ≤ most
      max_right = omega arith

  seen_same : (xs ys : List ℕ) → xs ≡ ys → ((answers : List ℕ) → shown_by c₁ (length r₁) answers ≡ shown_by c₂ (length r₂) answers) → SeenSame c₁ c₂ b₁ r₁ b₂ r₂ xs ys
  seen_same xs ys e s =
      record {
        records =
            λ i.
            (seen_shown c₁ b₁ r₁ k₁ a₁ (take i xs)).record_is
            ∙ ap record_in (s (take i xs))
            ∙ sym (seen_shown c₂ b₂ r₂ k₂ a₂ (take i xs)).record_is
            ∙ ap (λ (zs : List ℕ). record_after c₂ b₂ r₂ (take i zs)) e;
        ends =
            λ i.
            (seen_shown c₁ b₁ r₁ k₁ a₁ (take i xs)).end_is
            ∙ ap (λ (t : Shown). t.end) (s (take i xs))
            ∙ sym (seen_shown c₂ b₂ r₂ k₂ a₂ (take i xs)).end_is
            ∙ ap (λ (zs : List ℕ). end_after c₂ b₂ r₂ (take i zs)) e;
      }

-- transfers whose runs agree
compared : (c : master.Call) (l₁ l₂ : Lent) → refusal c l₁ ≡ none → refusal c l₂ ≡ none → spans_of c.kind l₁ ≡ spans_of c.kind l₂ → Comparable c l₁ l₂
compared c l₁ l₂ p q e = record { first = p; second = q; runs = e }

runs_agree : {c₁ c₂ : Call} {n m : ℕ} → SameRuns c₁ n c₂ m → own_refusal c₁ n ≡ none → own_refusal c₂ m ≡ none → (xs ys : List ℕ) → DifferInPayload (shown_by c₁ n xs).events xs ys
    → (i : ℕ) → SameStruck Same (shown_by c₁ n (take i xs)) (shown_by c₂ m (take i ys))
runs_agree (transactions {chip} {address} {list₁} {written₁} {list₂} {written₂} {n} {m} e) p q xs ys d i =
    let c = call_of chip address kind.Transaction in
    master_is_secret.hidden c (lent_with list₁ written₁ n) (lent_with list₂ written₂ m) (compared c (lent_with list₁ written₁ n) (lent_with list₂ written₂ m) p q e) xs ys d i
runs_agree (write_reads {chip} {address} {written₁} {written₂} {n} e) p q xs ys d i =
    let c = call_of chip address kind.WriteRead in
    master_is_secret.hidden c (lent_with [] written₁ n) (lent_with [] written₂ n)
    (compared c (lent_with [] written₁ n) (lent_with [] written₂ n) p q (ap (λ (x : ℕ). spans_by kind.WriteRead [] x n) e)) xs ys d i
runs_agree (writes {chip} {address} {option} {written₁} {written₂} {n} {m} e) p q xs ys d i =
    let c = call_of chip address (kind.Write (frame_options_of option)) in
    master_is_secret.hidden c (lent_with [] written₁ 0) (lent_with [] written₂ 0)
    (compared c (lent_with [] written₁ 0) (lent_with [] written₂ 0) p q (ap (λ (x : ℕ). spans_by (kind.Write (frame_options_of option)) [] x 0) e)) xs ys d i
runs_agree (reads {chip} {address} {option} {n}) p q xs ys d i =
    let c = call_of chip address (kind.Read (frame_options_of option)) in
    master_is_secret.hidden c (lent_with [] [] n) (lent_with [] [] n) (compared c (lent_with [] [] n) (lent_with [] [] n) p q refl) xs ys d i

concat : List (List ℕ) → List ℕ
concat [] = []
concat (x ∷ xs) = x ++ concat xs

-- the written bytes of a transaction are those of its runs
joined_bytes : (js : List Joined) → bytes_j js ≡ concat (map bytes_of_run js)
unfolding concat
joined_bytes [] = refl
joined_bytes (JW bytes ∷ js) = ap (λ (x : List ℕ). bytes ++ x) (joined_bytes js)
joined_bytes (JR n ∷ js) = joined_bytes js

run_bytes : (list written : List ℕ) (room : ℕ) → InForm (lent_with list written room) → written ≡ concat (map bytes_of_run (joined (cut (operations_of list) written)))
run_bytes list written room f =
    sym (list_bytes (operations_of list) written (sym (f.written ∙ written_runs_lem (operations_of list)))) ∙ joined_bytes (joined (cut (operations_of list) written))

whole_agree : {c₁ c₂ : Call} {n m : ℕ} → SameRuns c₁ n c₂ m → own_refusal c₁ n ≡ none → own_refusal c₂ m ≡ none → written_runs c₁ ≡ written_runs c₂ → (answers : List ℕ) → shown_by c₁ n answers ≡ shown_by c₂ m answers
whole_agree (transactions {chip} {address} {list₁} {written₁} {list₂} {written₂} {n} {m} e) p q w answers =
    let c = call_of chip address kind.Transaction in
    master_is_secret.determined c (lent_with list₁ written₁ n) (lent_with list₂ written₂ m) (compared c (lent_with list₁ written₁ n) (lent_with list₂ written₂ m) p q e)
    (run_bytes list₁ written₁ n (master_is_ours.covers c (lent_with list₁ written₁ n) p)
    ∙ ap concat w
    ∙ sym (run_bytes list₂ written₂ m (master_is_ours.covers c (lent_with list₂ written₂ m) q))) answers
whole_agree (write_reads {chip} {address} {written₁} {written₂} {n} e) p q w answers =
    let z : written₁ ≡ written₂ = cc in
    ap (λ (x : List ℕ). call_shown (call_of chip address kind.WriteRead) (lent_with [] x n) answers) z
whole_agree (writes {chip} {address} {option} {written₁} {written₂} {n} {m} e) p q w answers =
    let z : written₁ ≡ written₂ = cc in
    ap (λ (x : List ℕ). call_shown (call_of chip address (kind.Write (frame_options_of option))) (lent_with [] x 0) answers) z
whole_agree (reads {chip} {address} {option} {n}) p q w answers = refl

module _ (chip : ℕ) (b₁ r₁ b₂ r₂ : List ℕ) (e : length r₁ ≡ length r₂) (a₁ : Accepted (respond_to_write chip) b₁ r₁) (a₂ : Accepted (respond_to_write chip) b₂ r₂) where
  receives_struck : (xs ys : List ℕ) → DifferAtPayload (record_after (respond_to_write chip) b₁ r₁ xs) xs ys
      → (i : ℕ) → SameStruck Same (shown_by (respond_to_write chip) (length r₁) (take i xs)) (shown_by (respond_to_write chip) (length r₂) (take i ys))
  receives_struck xs ys d =
      slave_is_secret.received (chip_of chip) (slaveLent.lent_with [] (length r₁)) (slaveLent.lent_with [] (length r₂)) (small (length r₁) (parts (respond_to_write chip) b₁ r₁ a₁).own) e xs ys
      (differ_shown (respond_to_write chip) (respond_to_write chip) b₁ r₁ b₂ r₂ tt tt a₁ a₂ xs ys d)

module _ (c₁ c₂ : Call) (b₁ r₁ b₂ r₂ : List ℕ) (s : SameRuns c₁ (length r₁) c₂ (length r₂)) (k₁ : Reads c₁ r₁) (k₂ : Reads c₂ r₂) (a₁ : Accepted c₁ b₁ r₁) (a₂ : Accepted c₂ b₂ r₂) where
  transfers_struck : (xs ys : List ℕ) → DifferAtPayload (record_after c₁ b₁ r₁ xs) xs ys → (i : ℕ) → SameStruck Same (shown_by c₁ (length r₁) (take i xs)) (shown_by c₂ (length r₂) (take i ys))
  transfers_struck xs ys d = runs_agree s (parts c₁ b₁ r₁ a₁).own (parts c₂ b₂ r₂ a₂).own xs ys (differ_shown c₁ c₂ b₁ r₁ b₂ r₂ k₁ k₂ a₁ a₂ xs ys d)

module _ (chip : ℕ) (x y b₁ b₂ : List ℕ) (a₁ : Accepted (respond_to_read chip x) b₁ []) (a₂ : Accepted (respond_to_read chip y) b₂ []) where
  replies_struck : (answers : List ℕ) (i : ℕ) → SameStruck (RepliesEnd (length x) (length y)) (shown_by (respond_to_read chip x) 0 (take i answers)) (shown_by (respond_to_read chip y) 0 (take i answers))
  replies_struck answers i =
      record {
        records =
            (slave_is_secret.replied (chip_of chip) (slaveLent.lent_with x 0) (slaveLent.lent_with y 0) (small (length x) (parts (respond_to_read chip x) b₁ [] a₁).own)
            (small (length y) (parts (respond_to_read chip y) b₂ [] a₂).own) answers i).records;
        ends =
            subst (λ (s : Shown). EndsAlike (RepliesEnd (length x) (length y)) s.end (shown_by (respond_to_read chip y) 0 (take i answers)).end) (sym (shown_after (respond_to_read chip x) b₁ [] refl a₁ (take i answers)))
            (subst (λ (s : Shown). EndsAlike (RepliesEnd (length x) (length y)) (ours_after (respond_to_read chip x) 0 (take i answers)).end s.end) (sym (shown_after (respond_to_read chip y) b₂ [] refl a₂ (take i answers)))
            (reply_ends (chip_of chip) x y (suc (length (take i answers))) (take i answers)));
      }

pub demand_3 : Demand3
demand_3 =
    record {
      transfers = λ c₁ c₂ b₁ r₁ b₂ r₂ s k₁ k₂ a₁ a₂ xs ys d. seen_alike c₁ c₂ b₁ r₁ b₂ r₂ k₁ k₂ a₁ a₂ Same xs ys (transfers_struck c₁ c₂ b₁ r₁ b₂ r₂ s k₁ k₂ a₁ a₂ xs ys d);
      transfers_whole =
          λ c₁ c₂ b₁ r₁ b₂ r₂ s k₁ k₂ a₁ a₂ xs ys d p.
          seen_same c₁ c₂ b₁ r₁ b₂ r₂ k₁ k₂ a₁ a₂ xs ys
          (same_given c₁ c₂ b₁ r₁ b₂ r₂ k₁ k₂ a₁ a₂ xs ys d p.answered (transfers_struck c₁ c₂ b₁ r₁ b₂ r₂ s k₁ k₂ a₁ a₂ xs ys d))
          (whole_agree s (parts c₁ b₁ r₁ a₁).own (parts c₂ b₂ r₂ a₂).own p.written);
      receives =
          λ chip b₁ r₁ b₂ r₂ e a₁ a₂ xs ys d.
          seen_alike (respond_to_write chip) (respond_to_write chip) b₁ r₁ b₂ r₂ tt tt a₁ a₂ Same xs ys (receives_struck chip b₁ r₁ b₂ r₂ e a₁ a₂ xs ys d);
      receives_whole =
          λ chip b₁ r₁ b₂ r₂ e a₁ a₂ xs ys d p.
          seen_same (respond_to_write chip) (respond_to_write chip) b₁ r₁ b₂ r₂ tt tt a₁ a₂ xs ys
          (same_given (respond_to_write chip) (respond_to_write chip) b₁ r₁ b₂ r₂ tt tt a₁ a₂ xs ys d p.answered (receives_struck chip b₁ r₁ b₂ r₂ e a₁ a₂ xs ys d))
          (slave_is_secret.determined (chip_of chip) (slaveLent.lent_with [] (length r₁)) (slaveLent.lent_with [] (length r₂)) e);
      replies =
          λ chip x y b₁ b₂ a₁ a₂ answers.
          seen_alike (respond_to_read chip x) (respond_to_read chip y) b₁ [] b₂ [] refl refl a₁ a₂ (RepliesEnd (length x) (length y)) answers answers
          (replies_struck chip x y b₁ b₂ a₁ a₂ answers);
      replies_of_one_length =
          λ chip x y b₁ b₂ e a₁ a₂ answers.
          seen_alike (respond_to_read chip x) (respond_to_read chip y) b₁ [] b₂ [] refl refl a₁ a₂ Same answers answers
          (slave_is_secret.replied_alike (chip_of chip) (slaveLent.lent_with x 0) (slaveLent.lent_with y 0) (small (length x) (parts (respond_to_read chip x) b₁ [] a₁).own) e answers);
    }
