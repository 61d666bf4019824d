-- What accepted calls write: address words and clock settings are document 01's.
-- Assumes nothing.
use mathlib.Core.Path.{◌≡◌, refl, ap, sym, subst, ◌∙◌}
use mathlib.Core.Bool.{Bool, true, false, cond, not, ◌&&◌, true≢false}
use mathlib.Core.List.{List, [], ◌∷◌, map}
use mathlib.Core.Option.{Option, none}
use Prim.Native.Nat.{ℕ, ◌+◌, ◌*◌, ◌%◌, ◌<◌, ◌≤◌}
use native.Mathlib.Omega.{arith}
use lib.Dec.{eqb, ltb}
use borrow.Author.Tests.{ltb-false}
use Rattle.registers.specs.declared.chip.Chip.{Chip}
use Rattle.registers.specs.declared.register.Register.TheVariants.{Ctlr1, Ctlr2, Oaddr1, Oaddr2, Datar, Star1, Star2, Ckcfgr, Rtr}
use Rattle.registers.specs.Bits.{DUTY, F_S}
use Rattle.registers.specs.Fields.{FREQ, TRISE, CCR}
use Rattle.registers.specs.Word.{put_bit, field_of, put_field}
use Rattle.registers.specs.Addresses.{address_word}
use Rattle.registers.proofs.WordLaws.{field_back, bit_above, bit_back, bit_other}
use Rattle.registers.proofs.AddressLaws as addresses
use Rattle.access.specs.declared.ending.Error.TheVariants.{InvalidArgument, InvalidAddress, Overrun}
use Rattle.access.specs.declared.need.Need.{Need}
use Rattle.access.specs.declared.need.Need.TheVariants as need
use Rattle.access.specs.Program.{Access, read, write, send, clock}
use Rattle.access.specs.Record.{Event, Shown, is_data, strike_at, strike}
use Rattle.access.specs.Record as layer1
use Rattle.access.specs.Machine.{Machine, seen_owed, seen_answered, shown_from}
use Rattle.access.proofs.Choice.{first_false, second_false}
use Rattle.operations.specs.Operations.{shaped}
use Rattle.timing.specs.declared.settings.Duty.{Duty}
use Rattle.timing.specs.declared.settings.Timing.{Timing}
use Rattle.timing.specs.declared.init.Stage as timingStage
use Rattle.timing.specs.declared.init.Stage.TheVariants as timingStages
use Rattle.timing.specs.declared.init.State as timingState
use Rattle.timing.specs.Rust.{timing}
use Rattle.timing.specs.Machine as init_machine
use Rattle.timing.specs.Document.{Least, SlowEnough, Documented, AsDocumented, settled, first_cause, mhz}
use Rattle.timing.proofs.Documented.{documented}
use Rattle.master.specs.declared.call.Call.{Call}
use Rattle.master.specs.declared.call.Kind.{Kind}
use Rattle.master.specs.declared.call.Kind.TheVariants as kind
use Rattle.master.specs.declared.state.Move.{Move}
use Rattle.master.specs.Machine.{master, start, owed}
use Rattle.master.specs.Calls.{Lent, refusal, refusal_at, call_shown, shape_of}
use Rattle.master.proofs.CallAgrees.{passed_cause}
use Rattle.slave.specs.declared.config.SlaveConfig.{SlaveConfig}
use Rattle.slave.specs.declared.init.InitStage.{InitStage}
use Rattle.slave.specs.declared.init.InitStage.TheVariants as initStage
use Rattle.slave.specs.declared.init.InitState.{InitState}
use Rattle.slave.specs.Init as initSlaveMachine
use Rattle.slave.specs.Calls.{init_shown}
use Rattle.images.specs.Numbers.{chip_of}
use Rattle.images.specs.InitSlaveImage.{address_of, second_of}
use Rattle.ch32_i2c.specs.Fed.{StruckSeen, as_seen}
use Rattle.ch32_i2c.specs.Manual.{Rule, Keeps, AddressWord, to_write, to_read, addressing, owning, ClockWord, clocking, rise, free}
use Rattle.ch32_i2c.specs.Init as cInit
use Rattle.ch32_i2c.specs.InitSlave as cInitSlave
use Rattle.ch32_i2c.specs.Demands.{timed_refusal}
use Rattle.timing.proofs.InRange.{divider_small}
use Rattle.timing.proofs.SettingsStay.{settings_stay}
use Rattle.slave_driver.proofs.ConfigStays.{config_stays}
use Rattle.ch32_i2c.proofs.TransferStages.{is_plain, by_stage}
use Rattle.ch32_i2c.proofs.CallsRun.{call_shown_lem, config_passed, init_shown_lem, shown_timed}
use Rattle.std.specs.Prelude.{Result, Ok, Err}
use Rattle.access.specs.declared.ending.Error.{Error}

-- ---- a rule for all that is shown

module _ (rule : Rule) where
  abbrev pub ObeyAt : Access → Type 0
  ObeyAt (read r) = Unit {0}
  ObeyAt (write r v) = rule r v
  ObeyAt (send b) = Unit {0}
  ObeyAt clock = Unit {0}

  abbrev pub Obey : List Event → Type 0
  Obey [] = Unit {0}
  Obey (e ∷ es) = ObeyAt e.what × Obey es

  -- a struck record keeps the rule
  keeps_first : (x : Access) (a : Option ℕ) (rest : List StruckSeen) → ObeyAt x → Keeps rule rest → Keeps rule (as_seen (strike_at x a) ∷ rest)
  keeps_first (read r) a rest o k = go (is_data r)
    where
      go : (b : Bool) → Keeps rule (as_seen (cond b layer1.received (layer1.whole (record { what = read r; answer = a }))) ∷ rest)
      go true = k
      go false = (tt, k)
  keeps_first (write r v) a rest o k = (o, k)
  keeps_first (send b) a rest o k = k
  keeps_first clock a rest o k = (tt, k)

  pub struck_keeps : (es : List Event) → Obey es → Keeps rule (map as_seen (map strike es))
  struck_keeps [] o = tt
  struck_keeps (e ∷ es) o = keeps_first e.what e.answer (map as_seen (map strike es)) o.0 (struck_keeps es o.1)

  abbrev ObeyNeed : Need → Type 0
  ObeyNeed (need.Read r) = Unit {0}
  ObeyNeed (need.Write r v) = rule r v
  ObeyNeed need.Clock = Unit {0}
  ObeyNeed (need.Send p) = Unit {0}
  ObeyNeed (need.Keep p) = Unit {0}
  ObeyNeed need.Drop = Unit {0}
  ObeyNeed (need.End e) = Unit {0}

  owed_obeys : (bytes : List ℕ) (n : Need) → ObeyNeed n → Obey (seen_owed bytes n).events
  owed_obeys bytes (need.Read r) o = (tt, tt)
  owed_obeys bytes (need.Write r v) o = (o, tt)
  owed_obeys bytes need.Clock o = (tt, tt)
  owed_obeys bytes (need.Send p) o = (tt, tt)
  owed_obeys bytes (need.Keep p) o = (tt, tt)
  owed_obeys bytes need.Drop o = (tt, tt)
  owed_obeys bytes (need.End e) o = tt

  answered_obeys : (bytes : List ℕ) (n : Need) (a : ℕ) (rest : Shown) → ObeyNeed n → Obey rest.events → Obey (seen_answered bytes n a rest).events
  answered_obeys bytes (need.Read r) a rest o k = (tt, k)
  answered_obeys bytes (need.Write r v) a rest o k = (o, k)
  answered_obeys bytes need.Clock a rest o k = (tt, k)
  answered_obeys bytes (need.Send p) a rest o k = (tt, k)
  answered_obeys bytes (need.Keep p) a rest o k = (tt, k)
  answered_obeys bytes need.Drop a rest o k = (tt, k)
  answered_obeys bytes (need.End e) a rest o k = tt

  module _ (m : Machine) (bytes : List ℕ) (Good : m.State → Type 0) (stays : (s : m.State) (a : ℕ) → Good s → Good (m.move s a)) (obeys : (s : m.State) → Good s → ObeyNeed (m.need s)) where
    shown_obeys : (s : m.State) → Good s → (answers : List ℕ) → Obey (shown_from m bytes s answers).events
    shown_obeys s g [] = owed_obeys bytes (m.need s) (obeys s g)
    shown_obeys s g (a ∷ answers) = answered_obeys bytes (m.need s) a (shown_from m bytes (m.move s a) answers) (obeys s g) (shown_obeys (m.move s a) (stays s a g) answers)

-- ---- transfers

word_told : (a : ℕ) → a < 128 → (reading : Bool) → AddressWord a (address_word a reading)
word_told a h true = subst (AddressWord a) (let z : 2 * a + 1 ≡ a * 2 + 1 = omega arith in z ∙ sym (addresses.to_read a h)) to_read
word_told a h false = subst (AddressWord a) (let z : 2 * a ≡ a * 2 = omega arith in z ∙ sym (addresses.to_write a h)) to_write

plain_obeys : (a : ℕ) (n : Need) → is_plain n ≡ true → ObeyNeed (addressing a) n
plain_obeys a (need.Read r) q = tt
plain_obeys a (need.Write Ctlr1 v) q = tt
plain_obeys a (need.Write Ctlr2 v) q = tt
plain_obeys a (need.Write Oaddr1 v) q = tt
plain_obeys a (need.Write Oaddr2 v) q = tt
plain_obeys a (need.Write Datar v) q = absurd (true≢false (sym q))
plain_obeys a (need.Write Star1 v) q = tt
plain_obeys a (need.Write Star2 v) q = tt
plain_obeys a (need.Write Ckcfgr v) q = tt
plain_obeys a (need.Write Rtr v) q = tt
plain_obeys a need.Clock q = tt
plain_obeys a (need.Send p) q = tt
plain_obeys a (need.Keep p) q = tt
plain_obeys a need.Drop q = tt
plain_obeys a (need.End e) q = tt

pub address_passed : (address : ℕ) (x : Kind) (l : Lent) → refusal_at x address l ≡ none → ltb 127 address ≡ false
address_passed address kind.Transaction l q = (passed_cause (ltb 127 address) InvalidAddress _ (passed_cause (not (shaped l.list)) InvalidArgument _ q).1).0
address_passed address kind.WriteRead l q = (passed_cause (ltb 127 address) InvalidAddress _ (passed_cause (eqb l.room 0) Overrun _ q).1).0
address_passed address (kind.Write f) l q = (passed_cause (ltb 127 address) InvalidAddress _ q).0
address_passed address (kind.Read f) l q = (passed_cause (ltb 127 address) InvalidAddress _ q).0

module _ (c : Call) (l : Lent) (accepted : refusal c l ≡ none) where
  address_small : c.address < 128
  unfolding refusal
  address_small = let h : c.address ≤ 127 = ltb-false 127 c.address (address_passed c.address c.kind l accepted) in omega arith

  needs_obey : (m : Move) → ObeyNeed (addressing c.address) (owed (shape_of c l) m)
  unfolding owed
  needs_obey m =
      by_stage (ObeyNeed (addressing c.address)) (plain_obeys c.address) (shape_of c l).setting m.stage m.progress (λ _. tt) (word_told c.address address_small m.progress.reading)

  pub transfer_obeys : (answers : List ℕ) → Obey (addressing c.address) (call_shown c l answers).events
  transfer_obeys answers =
      subst (λ (s : Shown). Obey (addressing c.address) s.events) (call_shown_lem c l accepted answers)
      (shown_obeys (addressing c.address) (master (shape_of c l)) l.written (λ m. Unit {0}) (λ m a g. tt) (λ m g. needs_obey m) (start (shape_of c l)) tt answers)

-- ---- init_slave

module _ (ten a has second general stretching : ℕ) where
  abbrev config : SlaveConfig
  config = cInitSlave.config_of ten a has second general stretching

  own_told : initSlaveMachine.own_fault (address_of (eqb ten 1) a) (eqb general 1) ≡ false → initSlaveMachine.own_word_of (address_of (eqb ten 1) a) ≡ cond (eqb ten 1) (0xc000 + a) (0x4000 + 2 * a)
  own_told q = go (eqb ten 1) q
    where
      go : (b : Bool) → initSlaveMachine.own_fault (address_of b a) (eqb general 1) ≡ false → initSlaveMachine.own_word_of (address_of b a) ≡ cond b (0xc000 + a) (0x4000 + 2 * a)
      go true q = let h : a ≤ 1023 = ltb-false 1023 a q in addresses.ten a (omega arith)
      go false q = let h : a ≤ 127 = ltb-false 127 a (first_false (ltb 127 a) (eqb a 0 && not (eqb general 1)) q) in addresses.seven a (omega arith)

  second_told : initSlaveMachine.second_fault (address_of (eqb ten 1) a) (second_of (eqb has 1) second) ≡ false → initSlaveMachine.second_word_of (second_of (eqb has 1) second) ≡ cond (eqb has 1) (2 * second + 1) 0
  second_told q = go (eqb ten 1) (eqb has 1) q
    where
      go : (t b : Bool) → initSlaveMachine.second_fault (address_of t a) (second_of b second) ≡ false → initSlaveMachine.second_word_of (second_of b second) ≡ cond b (2 * second + 1) 0
      go t false q = refl
      go true true q = absurd (true≢false q)
      go false true q = let h : second ≤ 127 = ltb-false 127 second q in addresses.second second (omega arith)

  module _ (accepted : initSlaveMachine.init_refusal config ≡ none) where
    no_fault : initSlaveMachine.config_fault config ≡ false
    no_fault = config_passed config accepted

    own_passed : initSlaveMachine.own_fault config.address config.general_call ≡ false
    unfolding initSlaveMachine.config_fault
    own_passed = first_false _ (initSlaveMachine.second_fault config.address config.second_address) no_fault

    second_passed : initSlaveMachine.second_fault config.address config.second_address ≡ false
    unfolding initSlaveMachine.config_fault
    second_passed = second_false (initSlaveMachine.own_fault config.address config.general_call) _ no_fault

    config_obeys : (st : InitStage) (s : InitState) → s.config ≡ config → ObeyNeed (owning ten a has second) (initSlaveMachine.owed_at st s)
    config_obeys initStage.DisableRead s e = tt
    config_obeys initStage.DisableWrite s e = tt
    config_obeys initStage.BufferRead s e = tt
    config_obeys initStage.BufferWrite s e = tt
    config_obeys initStage.Own s e = ap (λ (c : SlaveConfig). initSlaveMachine.own_word_of c.address) e ∙ own_told own_passed
    config_obeys initStage.Second s e = ap (λ (c : SlaveConfig). initSlaveMachine.second_word_of c.second_address) e ∙ second_told second_passed
    config_obeys initStage.EnableRead s e = tt
    config_obeys initStage.EnableWrite s e = tt
    config_obeys initStage.Ended s e = tt

    owed_config : (s : InitState) → s.config ≡ config → ObeyNeed (owning ten a has second) (initSlaveMachine.owed s)
    unfolding initSlaveMachine.owed
    owed_config s e = config_obeys s.stage s e

    pub init_slave_obeys : (answers : List ℕ) → Obey (owning ten a has second) (init_shown config answers).events
    init_slave_obeys answers =
        subst (λ (s : Shown). Obey (owning ten a has second) s.events) (init_shown_lem config accepted answers)
        (shown_obeys (owning ten a has second) initSlaveMachine.init_machine [] (λ s. s.config ≡ config) (λ s x e. config_stays s x ∙ e) owed_config (initSlaveMachine.started config) refl answers)

-- ---- init

module _ (chip : Chip) (input frequency : ℕ) (duty : Duty) (t : Timing) (none-holds : first_cause chip input frequency duty ≡ none) (d : Documented chip input frequency duty t) where
  clock_told : ClockWord chip input frequency duty (init_machine.clock_word t)
  clock_told =
      let w = put_bit DUTY t.duty (put_bit F_S t.fast 0) in
      let back : field_of CCR (init_machine.clock_word t) ≡ t.divider % 4096 = field_back CCR t.divider w in
      record {
        divider = subst (Least (SlowEnough chip input frequency duty)) (let z : t.divider ≡ t.divider % 4096 = omega (arith, divider_small chip input frequency duty t none-holds d) in z ∙ sym back) d.divider;
        speed = bit_above CCR F_S t.divider w (omega arith) ∙ bit_other F_S DUTY t.duty (put_bit F_S t.fast 0) (λ e. omega (arith, e)) ∙ bit_back F_S t.fast 0 ∙ d.speed;
        duty_bit = bit_above CCR DUTY t.divider w (omega arith) ∙ bit_back DUTY t.duty (put_bit F_S t.fast 0) ∙ d.duty_bit;
      }

  frequency_told : (w : ℕ) → field_of FREQ (put_field FREQ t.input_mhz w) ≡ mhz chip input frequency duty % 64
  frequency_told w = field_back FREQ t.input_mhz w ∙ (let e = d.input_mhz in omega (arith, e))

  rise_told : field_of TRISE (put_field TRISE t.rise 0) ≡ rise chip input frequency duty % 64
  rise_told = field_back TRISE t.rise 0 ∙ (let e = d.rise in omega (arith, e))

  settings_obey : (st : timingStage.Stage) (s : timingState.State) → s.timing ≡ t → ObeyNeed (clocking chip input frequency duty) (init_machine.owed_at st s)
  settings_obey timingStages.DisableRead s e = tt
  settings_obey timingStages.DisableWrite s e = tt
  settings_obey timingStages.ResetRead s e = tt
  settings_obey timingStages.ResetWrite s e = tt
  settings_obey timingStages.ReleaseRead s e = tt
  settings_obey timingStages.ReleaseWrite s e = tt
  settings_obey timingStages.FrequencyRead s e = tt
  settings_obey timingStages.FrequencyWrite s e = ap (λ (x : Timing). field_of FREQ (put_field FREQ x.input_mhz s.saved)) e ∙ frequency_told s.saved
  settings_obey timingStages.RiseWrite s e = ap (λ (x : Timing). field_of TRISE (put_field TRISE x.rise 0)) e ∙ rise_told
  settings_obey timingStages.ClockWrite s e = subst (λ (x : Timing). ClockWord chip input frequency duty (init_machine.clock_word x)) (sym e) clock_told
  settings_obey timingStages.EnableRead s e = tt
  settings_obey timingStages.EnableWrite s e = tt
  settings_obey timingStages.Ended s e = tt

  owed_settings : (s : timingState.State) → s.timing ≡ t → ObeyNeed (clocking chip input frequency duty) (init_machine.owed s)
  unfolding init_machine.owed
  owed_settings s e = settings_obey s.stage s e

  settled_obeys : (answers : List ℕ) → Obey (clocking chip input frequency duty) (shown_from init_machine.init_machine [] (init_machine.started chip t) answers).events
  settled_obeys answers =
      shown_obeys (clocking chip input frequency duty) init_machine.init_machine [] (λ s. s.timing ≡ t) (λ s a e. settings_stay s a ∙ e) owed_settings (init_machine.started chip t) refl answers

module _ (chip input frequency duty : ℕ) where
  timed_obeys : (x : Result Timing Error) → AsDocumented (chip_of chip) input frequency (cInit.duty_of duty) x → timed_refusal x ≡ none → (answers : List ℕ)
      → Obey (clocking (chip_of chip) input frequency (cInit.duty_of duty)) (shown_timed chip x answers).events
  timed_obeys (Ok t) (settled p d) q answers = settled_obeys (chip_of chip) input frequency (cInit.duty_of duty) t p d answers
  timed_obeys (Err e) h q answers = let z : ◌≡◌ {A = ℕ} 0 1 = cc in absurd (omega arith)

  pub init_obeys : timed_refusal (timing (chip_of chip) input frequency (cInit.duty_of duty)) ≡ none → (answers : List ℕ)
      → Obey (clocking (chip_of chip) input frequency (cInit.duty_of duty)) (shown_timed chip (timing (chip_of chip) input frequency (cInit.duty_of duty)) answers).events
  init_obeys q answers = timed_obeys (timing (chip_of chip) input frequency (cInit.duty_of duty)) (documented (chip_of chip) input frequency (cInit.duty_of duty)) q answers

-- ---- calls without a rule

pub obeys_free : (es : List Event) → Obey free es
obeys_free [] = tt
obeys_free (e ∷ es) = (go e.what, obeys_free es)
  where
    go : (x : Access) → ObeyAt free x
    go (read r) = tt
    go (write r v) = tt
    go (send b) = tt
    go clock = tt
