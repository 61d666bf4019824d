-- `bench::front` meets its contract: what `read_full` consumed, up to the full text or the input's end, is the input's front.
use Rattle.std.proofs.Common.{◌≡◌, ◌∙◌, ℕ, ◌<◌, ◌≤◌, List, ◌++◌, length, take, Option, None, Some, IfSome, Result, Ok, Err, IfOk, ap, sym, append-nil, arith, inl, inr}
use Rattle.std.proofs.lemmas.List.{take_all, take_at, length-take-le}
use Rattle.std.proofs.lemmas.Bool.{cases_lt}
use Rattle.std.specs.Io.KnownBytes.{Consumes, IsAtEnd}
use Rattle.bench.proofs.front.Goals as goal

-- as many bytes as there is room for
full : (old new : Option (List ℕ)) (most : ℕ) (bytes : List ℕ) → length bytes ≡ most → Consumes old new bytes → IfSome old (λ xs. bytes ≡ take most xs)
full None new most bytes e p = tt
full (Some xs) None most bytes e p = absurd p
full (Some xs) (Some ys) most bytes e p = sym (ap (take most) p ∙ take_at bytes ys most e)

-- all that there were
ended : (old new : Option (List ℕ)) (most : ℕ) (bytes : List ℕ) → length bytes ≤ most → Consumes old new bytes → IsAtEnd new → IfSome old (λ xs. bytes ≡ take most xs)
ended None new most bytes h p q = tt
ended (Some xs) None most bytes h p q = absurd p
ended (Some xs) (Some ys) most bytes h p q = sym (ap (take most) (p ∙ ap (λ l. bytes ++ l) q ∙ append-nil bytes) ∙ take_all most bytes h)

front : (old new : Option (List ℕ)) (most n : ℕ) (buffer : List ℕ) → length buffer ≡ most → n ≤ length buffer → Consumes old new (take n buffer) → (n < length buffer → IsAtEnd new)
    → IfSome old (λ xs. take n buffer ≡ take most xs)
front old new most n buffer e h p q =
    let long : length (take n buffer) ≡ n = length-take-le n buffer h in
    elim (cases_lt n (length buffer)) [
      | inl l ↦ ended old new most (take n buffer) (omega (arith, long, e, h)) p (q l)
      | inr g ↦ full old new most (take n buffer) (omega (arith, long, e, h, g)) p
    ]

front_if_ok : {E : Type 0} (r : Result ℕ E) (old new : Option (List ℕ)) (most : ℕ) (buffer : List ℕ) → length buffer ≡ most → IfOk r (λ n. n ≤ length buffer)
    → IfOk r (λ n. Consumes old new (take n buffer)) → IfOk r (λ n. n < length buffer → IsAtEnd new) → IfOk r (λ n. IfSome old (λ xs. take n buffer ≡ take most xs))
front_if_ok (Ok n) old new most buffer e h p q = front old new most n buffer e h p q
front_if_ok (Err x) old new most buffer e h p q = tt

pub returns-clause-bytes : goal.returns-clause-bytes
returns-clause-bytes g c =
    let e = c.read_full.ensures in
    front_if_ok c.read_full.result (g.R.Read.remaining c.args.input.now) (g.R.Read.remaining c.read_full.new.input) 65537 c.read_full.new.buffer (c.read_full.auto.buffer ∙ c.told-text) e.in_bounds e.bytes e.all_read
