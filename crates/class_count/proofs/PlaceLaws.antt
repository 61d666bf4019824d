-- From classes to places: a word has a class exactly where its first set flag has that class's place.
-- Assumes nothing.
use Prim.Native.Nat.{ℕ, suc}
use mathlib.Core.Path.{◌≡◌, refl, sym, ap, ◌∙◌}
use mathlib.Core.Bool.{Bool, true, false, cond}
use mathlib.Core.List.{List, [], ◌∷◌}
use mathlib.Core.Option.{Option, none, some, map}
use lib.Dec.{eqb, eqb-zero-suc, eqb-suc-zero, eqb-suc-suc}
use borrow.Author.Tests.{eqb-true}
use Rattle.std.specs.Prelude.{Some}
use Rattle.std.specs.Prelude as prelude
use Rattle.registers.specs.Word.{has_bit}
use Rattle.registers.specs.Flags.{error_flags}
use Rattle.access.specs.declared.ending.Failure.{Failure}
use Rattle.access.specs.Endings.{error_number, flagged}
use Rattle.access.proofs.Choice.{chosen}
use Rattle.errors.specs.Classes.{Class, first_of}
use Rattle.class_count.specs.Order.{first_at, is_at, is_none, is_in, are_different}
use Rattle.class_count.specs.ClassWords.{number_of, flags_in, numbers_in, place_of}
use Rattle.class_count.proofs.DifferentLaws.{first_differs, not_rest, fresh, rest_different}

-- two places are one
abbrev pub is_place : Option ℕ → Option ℕ → Bool
is_place none o = false
is_place (some k) o = is_at k o

-- the class found, where the first flag decides or not
abbrev found : Class → Bool → List Class → ℕ → ℕ
found c h cs w = number_of (cond h (Some (flagged c.error (error_flags w))) (first_of cs w))

-- a number that is no class's is never found
pub never_found : (n : ℕ) (cs : List Class) (w : ℕ) → eqb n 0 ≡ false → is_in n (numbers_in cs) ≡ false → eqb n (number_of (first_of cs w)) ≡ false
never_found n [] w z a = z
never_found n (c ∷ cs) w z a =
    chosen (λ (x : prelude.Option Failure). eqb n (number_of x) ≡ false) (has_bit c.flag w)
    (λ h. first_differs n (error_number c.error) (numbers_in cs) a)
    (λ h. never_found n cs w z (not_rest n (error_number c.error) (numbers_in cs) a))

-- none is found where no flag is set
pub none_found : (cs : List Class) (w : ℕ) → is_in 0 (numbers_in cs) ≡ false → eqb 0 (number_of (first_of cs w)) ≡ is_none (first_at (flags_in cs) w)
none_found [] w a = refl
none_found (c ∷ cs) w a = go (has_bit c.flag w) (none_found cs w (not_rest 0 (error_number c.error) (numbers_in cs) a))
  where
    one_more : (o : Option ℕ) → is_none o ≡ is_none (map suc o)
    one_more none = refl
    one_more (some j) = refl

    go : (h : Bool) → eqb 0 (number_of (first_of cs w)) ≡ is_none (first_at (flags_in cs) w)
        → eqb 0 (found c h cs w) ≡ is_none (cond h (some 0) (map suc (first_at (flags_in cs) w)))
    go true r = first_differs 0 (error_number c.error) (numbers_in cs) a
    go false r = r ∙ one_more (first_at (flags_in cs) w)

-- ---- places, one further

at_start : (p : Option ℕ) → is_place (map suc p) (some 0) ≡ false
at_start none = refl
at_start (some k) = eqb-zero-suc k

past_start : (o : Option ℕ) → is_at 0 (map suc o) ≡ false
past_start none = refl
past_start (some j) = eqb-suc-zero j

both_further : (p o : Option ℕ) → is_place (map suc p) (map suc o) ≡ is_place p o
both_further none o = refl
both_further (some k) none = refl
both_further (some k) (some j) = eqb-suc-suc j k

-- a class is found where the first set flag has its place
pub class_found : (n : ℕ) (cs : List Class) (w : ℕ) → eqb n 0 ≡ false → are_different (numbers_in cs) ≡ true
    → eqb n (number_of (first_of cs w)) ≡ is_place (place_of n (numbers_in cs)) (first_at (flags_in cs) w)
class_found n [] w z d = z
class_found n (c ∷ cs) w z d = go (has_bit c.flag w) (eqb n (error_number c.error)) refl (class_found n cs w z (rest_different (error_number c.error) (numbers_in cs) d))
  where
    -- the first class has the number, so no later one has
    only_here : eqb n (error_number c.error) ≡ true → is_in n (numbers_in cs) ≡ false
    only_here q = ap (λ (x : ℕ). is_in x (numbers_in cs)) (eqb-true n (error_number c.error) q) ∙ fresh (error_number c.error) (numbers_in cs) d

    go : (h e : Bool) → eqb n (error_number c.error) ≡ e
        → eqb n (number_of (first_of cs w)) ≡ is_place (place_of n (numbers_in cs)) (first_at (flags_in cs) w)
        → eqb n (found c h cs w) ≡ is_place (cond e (some 0) (map suc (place_of n (numbers_in cs)))) (cond h (some 0) (map suc (first_at (flags_in cs) w)))
    go true true q r = q
    go true false q r = q ∙ sym (at_start (place_of n (numbers_in cs)))
    go false true q r = never_found n cs w z (only_here q) ∙ sym (past_start (first_at (flags_in cs) w))
    go false false q r = r ∙ sym (both_further (place_of n (numbers_in cs)) (first_at (flags_in cs) w))
