-- The slave is secret. Receives of one length go through the same states. Replies of any lengths go through states that differ
-- in counts and ends alone, and neither shows in a struck record.
-- Assumes nothing.
use Rattle.access.specs.Endings.{Ending}
use mathlib.Core.Path.{◌≡◌, refl, sym, ap, ◌∙◌, subst}
use mathlib.Core.Bool.{Bool, true, false, cond, not, ◌&&◌}
use mathlib.Core.List.{List, []}
use Prim.Native.Nat.{ℕ, ◌≤◌}
use lib.Dec.{eqb, ltb}
use lib.ListN.{length, take}
use Rattle.std.specs.Prelude.{Option, Some, None}
use Rattle.registers.specs.declared.chip.Chip.{Chip}
use Rattle.registers.specs.declared.register.Register.TheVariants.{Ctlr1, Ctlr2, Oaddr1, Oaddr2, Star1, Star2}
use Rattle.registers.specs.Bits.{ADDR, STOPF, TXE, AF, MSL, BUSY, GENCALL, DUALF}
use Rattle.registers.specs.Word.{has_bit}
use Rattle.registers.specs.Flags.{error_flags}
use Rattle.access.specs.declared.ending.Failure.{Failure}
use Rattle.access.specs.declared.need.Need.TheVariants as need
use Rattle.access.specs.Program.{late}
use Rattle.access.specs.Record.{Shown, EqualUnless, DifferInPayload, Same, SameStruck}
use Rattle.access.specs.Machine.{shown_from}
use Rattle.access.proofs.Secrecy.{Blind, payload_need, SameNeed, reads, writes, clocks, sends, keeps, keeps_drops, drops_keeps, drops, ends, Kept, blind_kept, secrecy, same_payload, same_answers}
use Rattle.errors.specs.Classes.{error_of, decided}
use Rattle.slave.specs.declared.stage.StopfFor.TheVariants as stopf
use Rattle.slave.specs.declared.stage.StopfStage.TheVariants as clearing
use Rattle.slave.specs.declared.stage.StaleStage.TheVariants as stale
use Rattle.slave.specs.declared.stage.ArmStage.TheVariants as arm
use Rattle.slave.specs.declared.stage.MatchStage.TheVariants as matching
use Rattle.slave.specs.declared.stage.Half.TheVariants as half
use Rattle.slave.specs.declared.stage.ErrorStage.TheVariants as errors
use Rattle.slave.specs.declared.stage.AbortStage.TheVariants as abort
use Rattle.slave.specs.declared.stage.Stage.{Stage}
use Rattle.slave.specs.declared.stage.Stage.TheVariants.{ClearStopf, Stale, Arm, Poll, Match, Receive, Send, ClearAf, Errors, Abort, Ended}
use Rattle.slave.specs.declared.state.Kind.TheVariants.{RespondToWrite, RespondToRead}
use Rattle.slave.specs.declared.state.Setting.{Setting}
use Rattle.slave.specs.declared.state.Progress.{Progress}
use Rattle.slave.specs.declared.state.Move.{Move}
use Rattle.slave.specs.Machine.{to, fails, owed_at, advance_at, owed, advance, slave, start}
use Rattle.slave.specs.Calls.{seen_after, size_refusal, SlaveLent, setting_of, slave_shown, Accepted}
use Rattle.slave.specs.Claims.{Any, SlaveIsSecret}
use Rattle.slave.proofs.CallAgrees.{accepted_shown}

-- ---- one length

-- by stage: a payload answer moves the machine to the same state whatever it is
blind_at : (g : Setting) (st : Stage) (d : Progress) (a b : ℕ) → EqualUnless (payload_need (owed_at g st d)) a b → advance_at g st d a ≡ advance_at g st d b
blind_at g (ClearStopf f clearing.Status) d a b e = ap (advance_at g (ClearStopf f clearing.Status) d) e
blind_at g (ClearStopf f clearing.Read) d a b e = ap (advance_at g (ClearStopf f clearing.Read) d) e
blind_at g (ClearStopf f clearing.Write) d a b e = ap (advance_at g (ClearStopf f clearing.Write) d) e
blind_at g (Stale stale.Status) d a b e = ap (advance_at g (Stale stale.Status) d) e
blind_at g (Stale stale.Clear) d a b e = ap (advance_at g (Stale stale.Clear) d) e
blind_at g (Arm arm.BufferRead) d a b e = ap (advance_at g (Arm arm.BufferRead) d) e
blind_at g (Arm arm.BufferWrite) d a b e = ap (advance_at g (Arm arm.BufferWrite) d) e
blind_at g (Arm arm.AckRead) d a b e = ap (advance_at g (Arm arm.AckRead) d) e
blind_at g (Arm arm.AckWrite) d a b e = ap (advance_at g (Arm arm.AckWrite) d) e
blind_at g Poll d a b e = ap (advance_at g Poll d) e
blind_at g (Match matching.Status) d a b e = ap (advance_at g (Match matching.Status) d) e
blind_at g (Match matching.Second) d a b e = ap (advance_at g (Match matching.Second) d) e
blind_at g (Match matching.Own) d a b e = ap (advance_at g (Match matching.Own) d) e
blind_at g Receive d a b e = refl
blind_at g Send d a b e = ap (advance_at g Send d) e
blind_at g (ClearAf half.Read) d a b e = ap (advance_at g (ClearAf half.Read) d) e
blind_at g (ClearAf half.Write) d a b e = ap (advance_at g (ClearAf half.Write) d) e
blind_at g (Errors errors.Clear) d a b e = ap (advance_at g (Errors errors.Clear) d) e
blind_at g (Errors errors.Clock) d a b e = ap (advance_at g (Errors errors.Clock) d) e
blind_at g (Abort abort.DisableRead) d a b e = ap (advance_at g (Abort abort.DisableRead) d) e
blind_at g (Abort abort.DisableWrite) d a b e = ap (advance_at g (Abort abort.DisableWrite) d) e
blind_at g (Abort abort.Busy) d a b e = ap (advance_at g (Abort abort.Busy) d) e
blind_at g (Abort abort.StopRead) d a b e = ap (advance_at g (Abort abort.StopRead) d) e
blind_at g (Abort abort.StopWrite) d a b e = ap (advance_at g (Abort abort.StopWrite) d) e
blind_at g Ended d a b e = ap (advance_at g Ended d) e

pub slave_blind : (g : Setting) → Blind (slave g)
unfolding owed advance
slave_blind g m a b e = blind_at g m.stage m.progress a b e

-- ---- any lengths

-- the same stage and word; counts and ends are forgotten
data SamePoint : Move → Move → Type 0 where
  same : (st : Stage) (w c₁ c₂ : ℕ) (e₁ e₂ : Ending) → SamePoint (to st (record { count = c₁; word = w; ending = e₁ })) (to st (record { count = c₂; word = w; ending = e₂ }))

both : (b : Bool) {s t u v : Move} → SamePoint s t → SamePoint u v → SamePoint (cond b s u) (cond b t v)
both true p q = p
both false p q = q

module _ (chip : Chip) (m n : ℕ) where
  abbrev reply : ℕ → Setting
  reply size = record { chip = chip; kind = RespondToRead; size = size }

  same_received : (b c : Bool) (p q : ℕ) → SameNeed Any (cond b (need.Keep p) need.Drop) (cond c (need.Keep q) need.Drop)
  same_received true true p q = keeps p q
  same_received true false p q = keeps_drops p
  same_received false true p q = drops_keeps q
  same_received false false p q = drops

  needs_at : (st : Stage) (w c₁ c₂ : ℕ) (e₁ e₂ : Ending)
      → SameNeed Any (owed_at (reply m) st (record { count = c₁; word = w; ending = e₁ })) (owed_at (reply n) st (record { count = c₂; word = w; ending = e₂ }))
  needs_at (ClearStopf f clearing.Status) w c₁ c₂ e₁ e₂ = reads Star1
  needs_at (ClearStopf f clearing.Read) w c₁ c₂ e₁ e₂ = reads Ctlr1
  needs_at (ClearStopf f clearing.Write) w c₁ c₂ e₁ e₂ = writes Ctlr1 _
  needs_at (Stale stale.Status) w c₁ c₂ e₁ e₂ = reads Star1
  needs_at (Stale stale.Clear) w c₁ c₂ e₁ e₂ = writes Star1 _
  needs_at (Arm arm.BufferRead) w c₁ c₂ e₁ e₂ = reads Ctlr2
  needs_at (Arm arm.BufferWrite) w c₁ c₂ e₁ e₂ = writes Ctlr2 _
  needs_at (Arm arm.AckRead) w c₁ c₂ e₁ e₂ = reads Ctlr1
  needs_at (Arm arm.AckWrite) w c₁ c₂ e₁ e₂ = writes Ctlr1 _
  needs_at Poll w c₁ c₂ e₁ e₂ = reads Star1
  needs_at (Match matching.Status) w c₁ c₂ e₁ e₂ = reads Star2
  needs_at (Match matching.Second) w c₁ c₂ e₁ e₂ = reads Oaddr2
  needs_at (Match matching.Own) w c₁ c₂ e₁ e₂ = reads Oaddr1
  needs_at Receive w c₁ c₂ e₁ e₂ = same_received (ltb c₁ m) (ltb c₂ n) c₁ c₂
  needs_at Send w c₁ c₂ e₁ e₂ = sends c₁ c₂
  needs_at (ClearAf half.Read) w c₁ c₂ e₁ e₂ = reads Star1
  needs_at (ClearAf half.Write) w c₁ c₂ e₁ e₂ = writes Star1 _
  needs_at (Errors errors.Clear) w c₁ c₂ e₁ e₂ = writes Star1 _
  needs_at (Errors errors.Clock) w c₁ c₂ e₁ e₂ = clocks
  needs_at (Abort abort.DisableRead) w c₁ c₂ e₁ e₂ = reads Ctlr2
  needs_at (Abort abort.DisableWrite) w c₁ c₂ e₁ e₂ = writes Ctlr2 _
  needs_at (Abort abort.Busy) w c₁ c₂ e₁ e₂ = reads Star2
  needs_at (Abort abort.StopRead) w c₁ c₂ e₁ e₂ = reads Ctlr1
  needs_at (Abort abort.StopWrite) w c₁ c₂ e₁ e₂ = writes Ctlr1 _
  needs_at Ended w c₁ c₂ e₁ e₂ = ends tt

  -- the first error decides
  judged : (c : Option Failure) (w c₁ c₂ : ℕ) (e₁ e₂ : Ending)
      → SamePoint (decided c (λ f. fails f (record { count = c₁; word = w; ending = e₁ })) (to (Errors errors.Clock) (record { count = c₁; word = w; ending = e₁ })))
      (decided c (λ f. fails f (record { count = c₂; word = w; ending = e₂ })) (to (Errors errors.Clock) (record { count = c₂; word = w; ending = e₂ })))
  judged (Some f) w c₁ c₂ e₁ e₂ = same _ w c₁ c₂ _ _
  judged None w c₁ c₂ e₁ e₂ = same _ w c₁ c₂ e₁ e₂

  moves_at : (st : Stage) (w c₁ c₂ : ℕ) (e₁ e₂ : Ending) (a : ℕ)
      → SamePoint (advance_at (reply m) st (record { count = c₁; word = w; ending = e₁ }) a) (advance_at (reply n) st (record { count = c₂; word = w; ending = e₂ }) a)
  moves_at (ClearStopf f clearing.Status) w c₁ c₂ e₁ e₂ a = same _ w c₁ c₂ e₁ e₂
  moves_at (ClearStopf f clearing.Read) w c₁ c₂ e₁ e₂ a = same _ a c₁ c₂ e₁ e₂
  moves_at (ClearStopf stopf.Listen clearing.Write) w c₁ c₂ e₁ e₂ a = same _ w c₁ c₂ e₁ e₂
  moves_at (ClearStopf stopf.End clearing.Write) w c₁ c₂ e₁ e₂ a = same _ w c₁ c₂ e₁ e₂
  moves_at (Stale stale.Status) w c₁ c₂ e₁ e₂ a = both (not (eqb (error_flags a) 0)) (same _ a c₁ c₂ e₁ e₂) (same _ w c₁ c₂ e₁ e₂)
  moves_at (Stale stale.Clear) w c₁ c₂ e₁ e₂ a = same _ w c₁ c₂ e₁ e₂
  moves_at (Arm arm.BufferRead) w c₁ c₂ e₁ e₂ a = same _ a c₁ c₂ e₁ e₂
  moves_at (Arm arm.BufferWrite) w c₁ c₂ e₁ e₂ a = same _ w c₁ c₂ e₁ e₂
  moves_at (Arm arm.AckRead) w c₁ c₂ e₁ e₂ a = same _ a c₁ c₂ e₁ e₂
  moves_at (Arm arm.AckWrite) w c₁ c₂ e₁ e₂ a = same _ w c₁ c₂ e₁ e₂
  moves_at Poll w c₁ c₂ e₁ e₂ a =
      both (has_bit AF a) (same _ w c₁ c₂ _ _)
      (both (has_bit STOPF a) (same _ w c₁ c₂ _ _)
      (both (has_bit ADDR a) (same _ w c₁ c₂ _ _)
      (both (has_bit TXE a) (same _ w c₁ c₂ e₁ e₂)
      (both (not (eqb (error_flags a) 0)) (same _ a c₁ c₂ e₁ e₂) (same _ w c₁ c₂ e₁ e₂)))))
  moves_at (Match matching.Status) w c₁ c₂ e₁ e₂ a =
      both (has_bit GENCALL a) (same _ w c₁ c₂ _ _) (both (has_bit DUALF a) (same _ a c₁ c₂ e₁ e₂) (same _ a c₁ c₂ e₁ e₂))
  moves_at (Match matching.Second) w c₁ c₂ e₁ e₂ a = same _ w c₁ c₂ _ _
  moves_at (Match matching.Own) w c₁ c₂ e₁ e₂ a = same _ w c₁ c₂ _ _
  moves_at Receive w c₁ c₂ e₁ e₂ a = same _ w _ _ e₁ e₂
  moves_at Send w c₁ c₂ e₁ e₂ a = same _ w _ _ e₁ e₂
  moves_at (ClearAf half.Read) w c₁ c₂ e₁ e₂ a = same _ a c₁ c₂ e₁ e₂
  moves_at (ClearAf half.Write) w c₁ c₂ e₁ e₂ a = same _ w c₁ c₂ e₁ e₂
  moves_at (Errors errors.Clear) w c₁ c₂ e₁ e₂ a = judged (error_of chip false w) w c₁ c₂ e₁ e₂
  moves_at (Errors errors.Clock) w c₁ c₂ e₁ e₂ a = both (late a) (same _ w c₁ c₂ _ _) (same _ w c₁ c₂ e₁ e₂)
  moves_at (Abort abort.DisableRead) w c₁ c₂ e₁ e₂ a = same _ a c₁ c₂ e₁ e₂
  moves_at (Abort abort.DisableWrite) w c₁ c₂ e₁ e₂ a = same _ w c₁ c₂ e₁ e₂
  moves_at (Abort abort.Busy) w c₁ c₂ e₁ e₂ a = both (has_bit BUSY a && not (has_bit MSL a)) (same _ w c₁ c₂ e₁ e₂) (same _ w c₁ c₂ e₁ e₂)
  moves_at (Abort abort.StopRead) w c₁ c₂ e₁ e₂ a = same _ a c₁ c₂ e₁ e₂
  moves_at (Abort abort.StopWrite) w c₁ c₂ e₁ e₂ a = same _ w c₁ c₂ e₁ e₂
  moves_at Ended w c₁ c₂ e₁ e₂ a = same _ w c₁ c₂ e₁ e₂

  same_needs : {s t : Move} → SamePoint s t → SameNeed Any (owed (reply m) s) (owed (reply n) t)
  unfolding owed
  same_needs (same st w c₁ c₂ e₁ e₂) = needs_at st w c₁ c₂ e₁ e₂

  same_moves : {s t : Move} → SamePoint s t → (a b : ℕ) → EqualUnless (payload_need (owed (reply m) s)) a b → SamePoint (advance (reply m) s a) (advance (reply n) t b)
  unfolding owed advance
  same_moves (same st w c₁ c₂ e₁ e₂) a b e =
      subst (λ (t : Move). SamePoint (advance_at (reply m) st (record { count = c₁; word = w; ending = e₁ }) a) t)
      (blind_at (reply n) st (record { count = c₂; word = w; ending = e₂ }) a b
      (subst (λ (p : Bool). EqualUnless p a b) (same_payload (needs_at st w c₁ c₂ e₁ e₂)) e))
      (moves_at st w c₁ c₂ e₁ e₂ a)

  reply_kept : Kept Any (slave (reply m)) (slave (reply n)) SamePoint
  reply_kept = record { needs = same_needs; moves = same_moves }

-- ---- the slave is secret

determined : (chip : Chip) (l₁ l₂ : SlaveLent) → l₁.room ≡ l₂.room → (answers : List ℕ) → slave_shown chip RespondToWrite l₁ answers ≡ slave_shown chip RespondToWrite l₂ answers
unfolding slave_shown
determined chip l₁ l₂ e answers =
    ap (λ (n : ℕ). seen_after (size_refusal n) (shown_from (slave (record { chip = chip; kind = RespondToWrite; size = n })) [] (start RespondToWrite) answers)) e

received : (chip : Chip) (l₁ l₂ : SlaveLent) → Accepted RespondToWrite l₁ → l₁.room ≡ l₂.room → (xs ys : List ℕ)
    → DifferInPayload (slave_shown chip RespondToWrite l₁ xs).events xs ys
    → (i : ℕ) → SameStruck Same (slave_shown chip RespondToWrite l₁ (take i xs)) (slave_shown chip RespondToWrite l₂ (take i ys))
received chip l₁ l₂ ok e xs ys d i =
    subst (λ s. SameStruck Same s (slave_shown chip RespondToWrite l₂ (take i ys))) (sym (accepted_shown chip RespondToWrite l₁ ok (take i xs)))
    (subst (λ s. SameStruck Same (shown_from (slave g) [] (start RespondToWrite) (take i xs)) s) second
    (secrecy (blind_kept (slave g) (slave_blind g)) [] [] refl xs ys (subst (λ (s : Shown). DifferInPayload s.events xs ys) (accepted_shown chip RespondToWrite l₁ ok xs) d) i))
  where
    g : Setting
    g = setting_of chip RespondToWrite l₁

    second : shown_from (slave g) [] (start RespondToWrite) (take i ys) ≡ slave_shown chip RespondToWrite l₂ (take i ys)
    second = sym (accepted_shown chip RespondToWrite l₁ ok (take i ys)) ∙ determined chip l₁ l₂ e (take i ys)

replied : (chip : Chip) (l₁ l₂ : SlaveLent) → Accepted RespondToRead l₁ → Accepted RespondToRead l₂ → (answers : List ℕ)
    → (i : ℕ) → SameStruck Any (slave_shown chip RespondToRead l₁ (take i answers)) (slave_shown chip RespondToRead l₂ (take i answers))
replied chip l₁ l₂ ok₁ ok₂ answers i =
    subst (λ s. SameStruck Any s (slave_shown chip RespondToRead l₂ (take i answers))) (sym (accepted_shown chip RespondToRead l₁ ok₁ (take i answers)))
    (subst (λ s. SameStruck Any (shown_from (slave (setting_of chip RespondToRead l₁)) l₁.reply (start RespondToRead) (take i answers)) s) (sym (accepted_shown chip RespondToRead l₂ ok₂ (take i answers)))
    (secrecy (reply_kept chip (length l₁.reply) (length l₂.reply)) l₁.reply l₂.reply (same Poll 0 0 0 _ _) answers answers (same_answers _ answers) i))

replied_alike : (chip : Chip) (l₁ l₂ : SlaveLent) → Accepted RespondToRead l₁ → length l₁.reply ≡ length l₂.reply → (answers : List ℕ)
    → (i : ℕ) → SameStruck Same (slave_shown chip RespondToRead l₁ (take i answers)) (slave_shown chip RespondToRead l₂ (take i answers))
replied_alike chip l₁ l₂ ok e answers i =
    subst (λ s. SameStruck Same s (slave_shown chip RespondToRead l₂ (take i answers))) (sym (accepted_shown chip RespondToRead l₁ ok (take i answers)))
    (subst (λ s. SameStruck Same (shown_from (slave (setting_of chip RespondToRead l₁)) l₁.reply (start RespondToRead) (take i answers)) s) second
    (secrecy (blind_kept (slave (setting_of chip RespondToRead l₁)) (slave_blind (setting_of chip RespondToRead l₁))) l₁.reply l₂.reply refl answers answers (same_answers _ answers) i))
  where
    second : shown_from (slave (setting_of chip RespondToRead l₁)) l₂.reply (start RespondToRead) (take i answers) ≡ slave_shown chip RespondToRead l₂ (take i answers)
    second =
        ap (λ (n : ℕ). shown_from (slave (record { chip = chip; kind = RespondToRead; size = n })) l₂.reply (start RespondToRead) (take i answers)) e
        ∙ sym (accepted_shown chip RespondToRead l₂ (subst (λ (n : ℕ). n ≤ 65535) e ok) (take i answers))

pub slave_is_secret : SlaveIsSecret
slave_is_secret = record { received = received; determined = determined; replied = replied; replied_alike = replied_alike }
