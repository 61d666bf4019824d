-- The record that is built from what is handed out is layer 1's.
-- Assumes nothing.
use mathlib.Core.Path.{◌≡◌, refl, ap, ◌∙◌}
use mathlib.Core.List.{List, [], ◌∷◌, map}
use mathlib.Core.Option.{Option, none, some}
use Prim.Native.Nat.{ℕ, suc}
use lib.ListN.{length}
use Rattle.registers.specs.declared.register.Register.{Register}
use Rattle.registers.specs.declared.register.Register.TheVariants.{Ctlr1, Ctlr2, Oaddr1, Oaddr2, Datar, Star1, Star2, Ckcfgr, Rtr}
use Rattle.access.specs.declared.need.Need.{Need}
use Rattle.access.specs.declared.need.Need.TheVariants as need
use Rattle.access.specs.declared.next.Next.{Next}
use Rattle.access.specs.declared.next.Next.TheVariants as next
use Rattle.access.specs.Program.{Access, read, write, send, clock}
use Rattle.access.specs.Record.{Event, Shown, strike_at, strike}
use Rattle.access.specs.Machine.{Machine, filled, seen_owed, seen_answered, shown_from}
use Rattle.ch32_i2c.specs.Fed.{Entry, lefts, handed_out, nexts_of, in_turn, Makes, Seen, record_of, end_in, seen_of, record_in, StruckSeen, strike_as, struck_by, as_seen}

-- what is shown after these answers is what the record built from it says
pub record Recorded (s : Shown) (answers : List ℕ) : Type 0 where
  pub events : record_of (in_turn (suc (length answers)) (nexts_of s)) answers ≡ record_in s
  pub end : end_in (in_turn (suc (length answers)) (nexts_of s)) ≡ s.end

module _ (bytes : List ℕ) where
  owed_recorded : (n : Need) → Recorded (seen_owed bytes n) []
  owed_recorded (need.Read r) = record { events = refl; end = refl }
  owed_recorded (need.Write r v) = record { events = refl; end = refl }
  owed_recorded need.Clock = record { events = refl; end = refl }
  owed_recorded (need.Send p) = record { events = refl; end = refl }
  owed_recorded (need.Keep p) = record { events = refl; end = refl }
  owed_recorded need.Drop = record { events = refl; end = refl }
  owed_recorded (need.End e) = record { events = refl; end = refl }

  module _ (a : ℕ) (rest : Shown) (answers : List ℕ) (h : Recorded rest answers) where
    behind : Next → Option ℕ → List Seen → List Seen
    behind n x xs = record { next = n; answer = x } ∷ xs

    answered_recorded : (n : Need) → Recorded (seen_answered bytes n a rest) (a ∷ answers)
    unfolding behind
    answered_recorded (need.Read r) = record { events = ap (behind (next.Read r) (some a)) h.events; end = h.end }
    answered_recorded (need.Write r v) = record { events = ap (behind (next.Write r v) none) h.events; end = h.end }
    answered_recorded need.Clock = record { events = ap (behind next.Clock (some a)) h.events; end = h.end }
    answered_recorded (need.Send p) = record { events = ap (behind (filled bytes (need.Send p)) none) h.events; end = h.end }
    answered_recorded (need.Keep p) = record { events = ap (behind (next.Read Datar) (some a)) h.events; end = h.end }
    answered_recorded need.Drop = record { events = ap (behind (next.Read Datar) (some a)) h.events; end = h.end }
    answered_recorded (need.End e) = record { events = refl; end = refl }

pub recorded : (m : Machine) (bytes : List ℕ) (s : m.State) (answers : List ℕ) → Recorded (shown_from m bytes s answers) answers
recorded m bytes s [] = owed_recorded bytes (m.need s)
recorded m bytes s (a ∷ answers) = answered_recorded bytes a (shown_from m bytes (m.move s a) answers) answers (recorded m bytes (m.move s a) answers) (m.need s)

-- ---- striking out

strike_read : (r : Register) (a : Option ℕ) → strike_as (read r) (seen_of (record { what = read r; answer = a })) ≡ as_seen (strike_at (read r) a)
strike_read Ctlr1 a = refl
strike_read Ctlr2 a = refl
strike_read Oaddr1 a = refl
strike_read Oaddr2 a = refl
strike_read Datar a = refl
strike_read Star1 a = refl
strike_read Star2 a = refl
strike_read Ckcfgr a = refl
strike_read Rtr a = refl

strike_same : (x : Access) (a : Option ℕ) → strike_as x (seen_of (record { what = x; answer = a })) ≡ as_seen (strike_at x a)
strike_same (read r) a = strike_read r a
strike_same (write r v) a = refl
strike_same (send b) a = refl
strike_same clock a = refl

pub struck_same : (es : List Event) → struck_by es (map seen_of es) ≡ map as_seen (map strike es)
struck_same [] = refl
struck_same (e ∷ es) = ap (λ (x : StruckSeen). x ∷ struck_by es (map seen_of es)) (strike_same e.what e.answer) ∙ ap (λ (xs : List StruckSeen). as_seen (strike e) ∷ xs) (struck_same es)

-- ---- a call that makes what is shown

module _ (c : Entry) (block bytes answers : List ℕ) (s : Shown) (m : Makes c block bytes answers s) (r : Recorded s answers) where
  pub record_is : record_of (handed_out (lefts c block bytes answers)) answers ≡ record_in s
  record_is = ap (λ (ns : List Next). record_of ns answers) m.accesses ∙ r.events

  pub end_is : end_in (handed_out (lefts c block bytes answers)) ≡ s.end
  end_is = ap end_in m.accesses ∙ r.end
