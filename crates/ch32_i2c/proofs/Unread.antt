-- A record without BERR, in layer 1's words.
-- Assumes nothing.
use mathlib.Core.Path.{◌≡◌, refl}
use mathlib.Core.Bool.{Bool, true, false, not, true≢false}
use mathlib.Core.List.{List, [], ◌∷◌, map}
use mathlib.Core.Option.{Option, none, some}
use Prim.Native.Nat.{ℕ}
use Rattle.access.specs.Program.{Access, read, write, send, clock}
use Rattle.access.specs.Record.{Event}
use Rattle.access.proofs.Choice.{both_true, first_false, second_false}
use Rattle.alike.specs.Like.{answer_allowed, all_allowed}
use Rattle.errors.specs.Check.{is_berr, has_no_berr}
use Rattle.ch32_i2c.specs.Fed.{next_of, seen_of}
use Rattle.ch32_i2c.specs.Demands.{sees_berr, has_berr}

negated : (b : Bool) → b ≡ false → not b ≡ true
negated false e = refl
negated true e = absurd (true≢false e)

here : (x : Access) (a : Option ℕ) → sees_berr (next_of x) a ≡ false → answer_allowed has_no_berr x a ≡ true
here (read r) none e = refl
here (read r) (some w) e = negated (is_berr r w) e
here (write r v) none e = refl
here (write r v) (some w) e = refl
here (send b) none e = refl
here (send b) (some w) e = refl
here clock none e = refl
here clock (some w) e = refl

pub none_has_berr : (es : List Event) → has_berr (map seen_of es) ≡ false → all_allowed has_no_berr es ≡ true
none_has_berr [] e = refl
none_has_berr (x ∷ es) e =
    let a = sees_berr (next_of x.what) x.answer in
    both_true (here x.what x.answer (first_false a (has_berr (map seen_of es)) e)) (none_has_berr es (second_false a (has_berr (map seen_of es)) e))
