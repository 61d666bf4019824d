-- A transaction that was begun follows a program of layer 1: record, end and bytes read are the program's after every short list of answers.
-- Each step follows what the program does with the answer.
-- Assumes nothing.
use Rattle.access.specs.Endings.{Ending}
use mathlib.Core.Path.{◌≡◌, sym, ap, ◌∙◌}
use mathlib.Core.List.{List, [], ◌∷◌}
use mathlib.Core.Option.{Option, none, some}
use Prim.Native.Nat.{ℕ, suc, ◌<◌}
use native.Mathlib.Omega.{arith}
use lib.ListN.{length, set}
use Rattle.access.specs.declared.next.Next.{Next}
use Rattle.access.specs.declared.next.Next.TheVariants as next
use Rattle.access.specs.Program.{Access, read, write, send, clock, Program, finish, access, keep, cut}
use Rattle.access.specs.Record.{shown_of, answer_to}
use Rattle.call.specs.Left.{Left}
use Rattle.ch32_i2c.specs.Fed.{Entry, lefts_from, last_from, handed_out, Seen, record_of, end_in, next_of, record_in, stored}

-- ---- what a record tells of its first access

abbrev first_of : Next → List Seen → Next
first_of n [] = n
first_of n (x ∷ xs) = x.next

first_access : (x : Next) (n : Next) → record_of (x ∷ []) [] ≡ record { next = n; answer = none } ∷ [] → x ≡ n
first_access (next.Read r) n e = ap (first_of n) e
first_access (next.Write r v) n e = ap (first_of n) e
first_access next.Clock n e = ap (first_of n) e
first_access (next.End x) n e = let z : ◌≡◌ {A = ℕ} 0 1 = cc in absurd (omega arith)

first_end : (x : Next) (e : Ending) → end_in (x ∷ []) ≡ some e → x ≡ next.End e
first_end (next.Read r) e q = let z : ◌≡◌ {A = ℕ} 0 1 = cc in absurd (omega arith)
first_end (next.Write r v) e q = let z : ◌≡◌ {A = ℕ} 0 1 = cc in absurd (omega arith)
first_end next.Clock e q = let z : ◌≡◌ {A = ℕ} 0 1 = cc in absurd (omega arith)
first_end (next.End x) e q = cc

-- an access or an end is always owed
never_cut : (x : Next) → record_of (x ∷ []) [] ≡ [] → end_in (x ∷ []) ≡ none → ⊥
never_cut (next.Read r) e q = let z : ◌≡◌ {A = ℕ} 0 1 = cc in omega arith
never_cut (next.Write r v) e q = let z : ◌≡◌ {A = ℕ} 0 1 = cc in omega arith
never_cut next.Clock e q = let z : ◌≡◌ {A = ℕ} 0 1 = cc in omega arith
never_cut (next.End x) e q = let z : ◌≡◌ {A = ℕ} 0 1 = cc in omega arith

module _ (ns : List Next) (a : ℕ) (xs : List ℕ) (o : Option ℕ) (rest : List Seen) where
  rest_of : (x : Access) (n : Next) → n ≡ next_of x → record_of (n ∷ ns) (a ∷ xs) ≡ record { next = next_of x; answer = o } ∷ rest → record_of ns xs ≡ rest
  rest_of (read r) n q e = let f = rw q at e in cc
  rest_of (write r v) n q e = let f = rw q at e in cc
  rest_of (send b) n q e = let f = rw q at e in cc
  rest_of clock n q e = let f = rw q at e in cc

end_of : (ns : List Next) (x : Access) (n : Next) → n ≡ next_of x → end_in (n ∷ ns) ≡ end_in ns
end_of ns (read r) n q = rw q
end_of ns (write r v) n q = rw q
end_of ns (send b) n q = rw q
end_of ns clock n q = rw q

-- ---- a call that follows a program

module _ (c : Entry) where
  -- after fewer than n answers, where `at` bytes had arrived before, and these were the bytes read
  pub record Follows (n at : ℕ) (p : Program) (bytes : List ℕ) (h : Left) : Type 0 where
    pub record_is : (xs : List ℕ) → length xs < n → record_of (handed_out (lefts_from c h xs)) xs ≡ record_in (shown_of at p xs)
    pub end_is : (xs : List ℕ) → length xs < n → end_in (handed_out (lefts_from c h xs)) ≡ (shown_of at p xs).end
    pub read_is : (xs : List ℕ) → length xs < n → (last_from c h xs).read ≡ stored (shown_of at p xs).arrivals bytes

  module _ {n at : ℕ} {bytes : List ℕ} {h : Left} (pos : 0 < n) where
    pub owes_end : {e : Ending} → Follows n at (finish e) bytes h → h.next ≡ next.End e
    owes_end {e} f = first_end h.next e (f.end_is [] pos)

    pub owes_access : {x : Access} {k : ℕ → Program} → Follows n at (access x k) bytes h → h.next ≡ next_of x
    owes_access {x} f = first_access h.next (next_of x) (f.record_is [] pos)

    pub owes_something : Follows n at cut bytes h → ⊥
    owes_something f = never_cut h.next (f.record_is [] pos) (f.end_is [] pos)

  pub follows_keep : {n at b : ℕ} {p : Program} {bytes : List ℕ} {h : Left} → Follows n at (keep b p) bytes h → Follows n (suc at) p (set bytes at b) h
  follows_keep f = record { record_is = f.record_is; end_is = f.end_is; read_is = f.read_is }

  pub follows_step : {m n at : ℕ} {x : Access} {k : ℕ → Program} {bytes : List ℕ} {h : Left} → Follows n at (access x k) bytes h → m < n → (a : ℕ)
      → Follows m at (k a) bytes (c.step h.block h.read a)
  follows_step {m} {n} {at} {x} {k} {bytes} {h} f g a =
      record {
        record_is = λ xs l. rest_of (behind xs) a xs (answer_to x a) (record_in (shown_of at (k a) xs)) x h.next first (f.record_is (a ∷ xs) (omega arith));
        end_is = λ xs l. sym (end_of (behind xs) x h.next first) ∙ f.end_is (a ∷ xs) (omega arith);
        read_is = λ xs l. f.read_is (a ∷ xs) (omega arith);
      }
    where
      first : h.next ≡ next_of x
      first = owes_access (omega arith) f

      behind : List ℕ → List Next
      behind xs = handed_out (lefts_from c (c.step h.block h.read a) xs)
