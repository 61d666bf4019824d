-- The order that is no chip's, from the formula.
-- Assumes nothing.
use lib.Dec.{lit<}
use mathlib.Core.Path.{refl}
use Rattle.class_count.specs.Halving.{CountsHalve}
use Rattle.class_count.specs.Examples.{other_order, OtherOrderHalves}
use Rattle.class_count.proofs.HalvingLaws.{orders_halve}

pub other_order_halves : OtherOrderHalves
other_order_halves =
    let r : CountsHalve other_order = orders_halve other_order refl in
    rw (r.flag 0 (lit< tt), r.flag 1 (lit< tt), r.flag 2 (lit< tt), r.without)
