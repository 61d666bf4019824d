-- Payload reads in the record that C sees are layer 1's; answers that agree there too are the same answers.
-- Assumes nothing.
use mathlib.Core.Path.{◌≡◌, refl, ap, sym, subst, ◌∙◌}
use mathlib.Core.Bool.{Bool, true, false, cond}
use mathlib.Core.List.{List, [], ◌∷◌, map}
use mathlib.Core.Option.{Option, none, some}
use Prim.Native.Nat.{ℕ}
use native.Mathlib.Omega.{arith}
use Rattle.access.specs.declared.next.Next.{Next}
use Rattle.access.specs.Program.{Access, read, write, send, clock}
use Rattle.access.specs.Record.{Event, Struck, payload_read, strike, strike_at, is_data, EqualUnless, DifferInPayload}
use Rattle.access.specs.Record as layer1
use Rattle.ch32_i2c.specs.Fed.{next_of, Seen, answer_of, is_end, record_of, seen_of, is_payload_read, DifferAtPayload, given, payload_in}

-- ---- the premise, of layer 1's events

payload_same : (x : Access) → is_payload_read (next_of x) ≡ payload_read x
payload_same (read r) = refl
payload_same (write r v) = refl
payload_same (send b) = refl
payload_same clock = refl

pub differ_same : (es : List Event) (xs ys : List ℕ) → DifferAtPayload (map seen_of es) xs ys → DifferInPayload es xs ys
differ_same es [] [] d = tt
differ_same es [] (b ∷ ys) d = d
differ_same es (a ∷ xs) [] d = d
differ_same [] (a ∷ xs) (b ∷ ys) d = (d.0, differ_same [] xs ys d.1)
differ_same (e ∷ es) (a ∷ xs) (b ∷ ys) d = (subst (λ (p : Bool). EqualUnless p a b) (payload_same e.what) d.0, differ_same es xs ys d.1)

-- ---- a record holds the answers

-- each access of a record has its answer from the list; the last may be owed
abbrev pub Answered : List Seen → List ℕ → Type 0
Answered [] xs = Unit {0}
Answered (r ∷ rs) [] = Unit {0}
Answered (r ∷ rs) (a ∷ xs) = (r.answer ≡ answer_of r.next a) × Answered rs xs

pub answered : (ns : List Next) (xs : List ℕ) → Answered (record_of ns xs) xs
answered [] xs = tt
answered (n ∷ ns) [] = go (is_end n)
  where
    go : (b : Bool) → Answered (cond b [] (record { next = n; answer = none } ∷ [])) []
    go true = tt
    go false = tt
answered (n ∷ ns) (a ∷ xs) = go (is_end n) (answered ns xs)
  where
    go : (b : Bool) → Answered (record_of ns xs) xs → Answered (cond b [] (record { next = n; answer = answer_of n a } ∷ record_of ns xs)) (a ∷ xs)
    go true h = tt
    go false h = (refl, h)

-- ---- equal struck records with equal answers at payload reads

abbrev is_received : Struck → Bool
is_received (layer1.whole e) = false
is_received layer1.sent = false
is_received layer1.received = true

received_read : (b : Bool) (e : Event) → is_received (cond b layer1.received (layer1.whole e)) ≡ b
received_read true e = refl
received_read false e = refl

received_same : (x : Access) (a : Option ℕ) → is_received (strike_at x a) ≡ payload_read x
received_same (read r) a = received_read (is_data r) (record { what = read r; answer = a })
received_same (write r v) a = refl
received_same (send b) a = refl
received_same clock a = refl

struck_payload : (e f : Event) → strike e ≡ strike f → payload_read e.what ≡ payload_read f.what
struck_payload e f q = sym (received_same e.what e.answer) ∙ ap is_received q ∙ received_same f.what f.answer

-- a payload read's answer
payload_answer : (x : Access) (a : ℕ) → payload_read x ≡ true → answer_of (next_of x) a ≡ some a
payload_answer (read r) a q = refl
payload_answer (write r v) a q = let z : ◌≡◌ {A = ℕ} 0 1 = cc in absurd (omega arith)
payload_answer (send b) a q = let z : ◌≡◌ {A = ℕ} 0 1 = cc in absurd (omega arith)
payload_answer clock a q = let z : ◌≡◌ {A = ℕ} 0 1 = cc in absurd (omega arith)

no_events : (xs ys : List ℕ) → DifferInPayload [] xs ys → xs ≡ ys
no_events [] [] d = refl
no_events [] (b ∷ ys) d = absurd d
no_events (a ∷ xs) [] d = absurd d
no_events (a ∷ xs) (b ∷ ys) d = ap (λ (x : ℕ). x ∷ xs) d.0 ∙ ap (λ (zs : List ℕ). b ∷ zs) (no_events xs ys d.1)

-- the first answers, by whether they are payload
first_same : (p : Bool) (a b : ℕ) (m n : Option ℕ) (r s : List ℕ) → EqualUnless p a b → (p ≡ true → m ≡ some a) → (p ≡ true → n ≡ some b)
    → cond p (given m r) r ≡ cond p (given n s) s → (a ≡ b) × (r ≡ s)
first_same false a b m n r s q f g e = (q, e)
first_same true a b m n r s q f g e =
    let h : a ∷ r ≡ b ∷ s = ap (λ (o : Option ℕ). given o r) (sym (f refl)) ∙ e ∙ ap (λ (o : Option ℕ). given o s) (g refl) in
    (cc, cc)

pub answers_same : (es fs : List Event) (xs ys : List ℕ) → map strike es ≡ map strike fs → DifferInPayload es xs ys → Answered (map seen_of es) xs → Answered (map seen_of fs) ys
    → payload_in (map seen_of es) ≡ payload_in (map seen_of fs) → xs ≡ ys
answers_same es fs [] [] s d p q e = refl
answers_same es fs [] (b ∷ ys) s d p q e = absurd d
answers_same es fs (a ∷ xs) [] s d p q e = absurd d
answers_same [] fs (a ∷ xs) (b ∷ ys) s d p q e = no_events (a ∷ xs) (b ∷ ys) d
answers_same (x ∷ es) [] (a ∷ xs) (b ∷ ys) s d p q e = let z : ◌≡◌ {A = ℕ} 0 1 = cc in absurd (omega arith)
answers_same (x ∷ es) (y ∷ fs) (a ∷ xs) (b ∷ ys) s d p q e =
    let k : payload_read x.what ≡ payload_read y.what = struck_payload x y (cc) in
    let firsts =
    first_same (payload_read x.what) a b x.answer y.answer (payload_in (map seen_of es)) (payload_in (map seen_of fs)) d.0
    (λ t. p.0 ∙ payload_answer x.what a t)
    (λ t. q.0 ∙ payload_answer y.what b (sym k ∙ t))
    (ap (λ (c : Bool). cond c (given x.answer (payload_in (map seen_of es))) (payload_in (map seen_of es))) (sym (payload_same x.what))
    ∙ e
    ∙ ap (λ (c : Bool). cond c (given y.answer (payload_in (map seen_of fs))) (payload_in (map seen_of fs))) (payload_same y.what ∙ sym k)) in
    ap (λ (c : ℕ). c ∷ xs) firsts.0 ∙ ap (λ (zs : List ℕ). b ∷ zs) (answers_same es fs xs ys (cc) d.1 p.1 q.1 firsts.1)
