-- `class_count::words_of` meets its contract: a class's words are what its flag takes.
use Rattle.std.proofs.Common.{ℕ, ◌≡◌, List, sym, ap, arith, get_or, map}
use Rattle.class_count.specs.ClassWords.{words_of}
use Rattle.class_count.proofs.ChipLaws.{no_class}
use Rattle.class_count.proofs.LeftLaws.{taken, class_numbers, taken_told}
use Rattle.class_count.proofs.words_of.Goals as goal
use Rattle.class_count.proofs.words_of.Goals.{After-left-af}

-- behind the six calls
told : (c : After-left-af)
    → taken c.left-arlo.result c.left-berr.result c.left-timeout.result c.left-pecerr.result c.left-ovr.result c.left-af.result
    ≡ map (words_of c.args.chip c.args.nack) class_numbers
told c =
    taken_told c.args.chip c.args.nack _ _ _ _ _ _
    c.left-arlo.ensures.value
    c.left-berr.ensures.value
    c.left-timeout.ensures.value
    c.left-pecerr.ensures.value
    c.left-ovr.ensures.value
    c.left-af.ensures.value

-- the k-th of them
abbrev nth : ℕ → List ℕ → ℕ
nth k l = get_or l k 0

pub returns-in-0 : goal.returns-in-0
returns-in-0 c = rw c.in-0.is (ap (nth 0) (told (goal.at.returns-in-0 c).After-left-af))

pub returns-in-1 : goal.returns-in-1
returns-in-1 c = rw c.in-1.is (ap (nth 1) (told (goal.at.returns-in-1 c).After-left-af))

pub returns-in-2 : goal.returns-in-2
returns-in-2 c = rw c.in-2.is (ap (nth 2) (told (goal.at.returns-in-2 c).After-left-af))

pub returns-in-3 : goal.returns-in-3
returns-in-3 c = rw c.in-3.is (ap (nth 3) (told (goal.at.returns-in-3 c).After-left-af))

pub returns-in-4 : goal.returns-in-4
returns-in-4 c = rw c.in-4.is (ap (nth 4) (told (goal.at.returns-in-4 c).After-left-af))

pub returns-in-5 : goal.returns-in-5
returns-in-5 c = rw c.in-5.is (ap (nth 5) (told (goal.at.returns-in-5 c).After-left-af))

pub returns-in-6 : goal.returns-in-6
returns-in-6 c = rw c.in-6.is (ap (nth 6) (told (goal.at.returns-in-6 c).After-left-af))

pub returns-in_default : goal.returns-in_default
returns-in_default c = let r = c.in_default in sym (no_class _ _ _ (omega arith))
