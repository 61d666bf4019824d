-- What an end stores, and a step on a block that holds nothing: nothing.
-- Assumes nothing.
use mathlib.Core.Path.{◌≡◌, refl, sym, ap, subst}
use mathlib.Core.Bool.{true, cond, not, true≢false}
use mathlib.Core.List.{List}
use mathlib.Core.Option as maybe
use Prim.Native.Nat.{ℕ}
use Rattle.std.specs.Prelude.{Option, None}
use Rattle.access.specs.declared.ending.Error.TheVariants.{InvalidState}
use Rattle.access.specs.declared.need.Need.{Need}
use Rattle.access.specs.declared.need.Need.TheVariants as need
use Rattle.access.specs.Endings.{failed}
use Rattle.access.specs.Machine.{kept, is_end}
use Rattle.call.specs.Kept.{stored_at}
use Rattle.call.specs.OnBlock.{OnBlock, Does, refused, owed_by, owed_in, moved_by, step_on}

pub end_keeps : (n : Need) (a : ℕ) (bytes : List ℕ) → is_end n ≡ true → kept n a bytes ≡ bytes
end_keeps (need.Read r) a bytes e = refl
end_keeps (need.Write r v) a bytes e = refl
end_keeps need.Clock a bytes e = refl
end_keeps (need.Send p) a bytes e = refl
end_keeps (need.Keep p) a bytes e = absurd (true≢false (sym e))
end_keeps need.Drop a bytes e = refl
end_keeps (need.End x) a bytes e = refl

-- a step on a block that holds nothing is refused, and stores nothing
pub nothing_keeps : (c : OnBlock) (b : List ℕ) (a : ℕ) (n : Need) (place : Option ℕ) → c.held b ≡ maybe.none → n ≡ need.End (failed InvalidState) → place ≡ None
    → Does (step_on c b a) n b × ((bytes : List ℕ) → kept (owed_in c b) a bytes ≡ stored_at place a bytes)
unfolding step_on
nothing_keeps c b a n place e k q = (refuses, stores)
  where
    refuses : Does (step_on c b a) n b
    refuses =
        subst (λ (o : maybe.Option c.machine.State). Does (cond (not (is_end (owed_by c o))) (moved_by c o b a) (refused InvalidState b)) n b) (sym e)
        (record { need = k; block = refl })

    stores : (bytes : List ℕ) → kept (owed_in c b) a bytes ≡ stored_at place a bytes
    stores bytes = rw q (ap (λ (o : maybe.Option c.machine.State). kept (owed_by c o) a bytes) e)
