-- A master call that is accepted ends with 0 and no second number, or with an error that was met.
-- Assumes nothing.
use mathlib.Core.Path.{◌≡◌, refl, sym, subst}
use mathlib.Core.Bool.{Bool, true, not, ◌&&◌, true≢false}
use lib.Dec.{eqb}
use Rattle.std.specs.Prelude.{Option, Some, None}
use Rattle.access.specs.declared.need.Need.{Need}
use Rattle.access.specs.declared.need.Need.TheVariants as need
use Rattle.access.specs.Endings.{Ending, is_done}
use Rattle.errors.specs.Met.{has_failed}
use Rattle.access.proofs.Choice.{second_true, both_true, other_true}
use Rattle.master.specs.declared.stage.Stage.{Stage}
use Rattle.master.specs.declared.stage.Stage.TheVariants.{Ended}
use Rattle.master.specs.declared.state.Progress.{Progress}
use Rattle.master.specs.declared.state.Move.{Move}
use Rattle.operations.specs.declared.search.Run.{Run}
use Rattle.operations.specs.Runs.{run_at}
use Rattle.master.specs.declared.call.Setting.{Setting}
use Rattle.master.specs.Machine.{Shape, owed, owed_at}
use Rattle.master.specs.Fits.{fits, fits_found, counts, is_over}
use Rattle.ch32_i2c.specs.Demands.{transfer_ends}
use Rattle.ch32_i2c.proofs.MetEnds.{MetNeed, met_or_done}
use Rattle.ch32_i2c.proofs.TransferStages.{is_plain, by_stage}

met_plain : (can : Ending → Bool) (n : Need) → is_plain n ≡ true → MetNeed can n
met_plain can (need.Read r) q = tt
met_plain can (need.Write r v) q = tt
met_plain can need.Clock q = tt
met_plain can (need.Send p) q = tt
met_plain can (need.Keep p) q = tt
met_plain can need.Drop q = tt
met_plain can (need.End e) q = absurd (true≢false (sym q))

last_true : (a b c d e f g h : Bool) → a && (b && (c && (d && (e && (f && (g && h)))))) ≡ true → h ≡ true
last_true a b c d e f g h q =
    second_true g h (second_true f (g && h) (second_true e (f && (g && h)) (second_true d (e && (f && (g && h))) (second_true c (d && (e && (f && (g && h))))
    (second_true b (c && (d && (e && (f && (g && h))))) (second_true a (b && (c && (d && (e && (f && (g && h)))))) q))))))

module _ (g : Setting) where
  -- an ended state that fits
  met_ended : (f : Option Run) (d : Progress) → fits_found g f Ended d ≡ true → MetNeed (transfer_ends g.chip) (owed_at g Ended d)
  met_ended (Some r) d e =
      met_or_done g.chip d.ending (eqb d.left 0 && not r.more) (second_true (counts r d) (is_over g.chip r d) e)
  met_ended None d e =
      met_or_done g.chip d.ending true
      (other_true (has_failed g.chip true d.ending)
      (both_true (last_true (not d.reading) (eqb d.run 0) (eqb d.left 0) (eqb d.place 0) (eqb d.word 0) (eqb d.divider 0) (eqb d.rise 0) (is_done d.ending) e) refl))

  met_at : (f : Option Run) (st : Stage) (d : Progress) → fits_found g f st d ≡ true → MetNeed (transfer_ends g.chip) (owed_at g st d)
  met_at f st d e = by_stage (MetNeed (transfer_ends g.chip)) (met_plain (transfer_ends g.chip)) g st d (λ q. met_ended f d (subst (λ (x : Stage). fits_found g f x d ≡ true) q e)) tt

pub transfer_met : (sh : Shape) (m : Move) → fits sh m ≡ true → MetNeed (transfer_ends sh.setting.chip) (owed sh m)
unfolding fits owed
transfer_met sh m e = met_at sh.setting (run_at sh.runs m.progress.run) m.stage m.progress e
