-- Where a transfer begins, as its block says it and as its machine does.
-- Assumes nothing.
use mathlib.Core.Path.{◌≡◌, refl, ap, sym, ◌∙◌}
use mathlib.Core.Bool.{Bool, true, false, cond, not, ◌&&◌, ◌||◌}
use mathlib.Core.List.{List}
use Prim.Native.Nat.{ℕ}
use Rattle.std.specs.Prelude.{Ok, Err, Option, Some, None}
use Rattle.registers.specs.declared.register.Register.TheVariants.{Ctlr1}
use Rattle.access.specs.declared.ending.Error.{Error}
use Rattle.access.specs.declared.ending.Error.TheVariants.{InvalidArgument}
use Rattle.access.specs.declared.need.Need.TheVariants as need
use Rattle.access.specs.Endings.{done}
use Rattle.block.specs.declared.fields.Fields.{Fields}
use Rattle.block.specs.Bytes32.{bytes_of}
use Rattle.images.specs.Numbers.{chip_number}
use Rattle.images.specs.MasterImage.{kind_entry, kind_option}
use Rattle.access.specs.declared.need.Need.{Need}
use Rattle.operations.specs.declared.search.Run.{Run}
use Rattle.operations.specs.Operations.{is_read}
use Rattle.master.specs.declared.call.Call.{Call}
use Rattle.master.specs.declared.call.FrameOptions.{FrameOptions}
use Rattle.master.specs.declared.call.FrameOptions.TheVariants as options
use Rattle.master.specs.declared.call.Kind.{Kind}
use Rattle.master.specs.declared.call.Kind.TheVariants as kind
use Rattle.master.specs.declared.stage.Stage.TheVariants.{Begin, Ended}
use Rattle.master.specs.Machine.{fresh, begun, start_with, write_bytes_move}
use Rattle.master.specs.Calls.{frame_for, setting_of, misshapen}
use Rattle.master_lent.specs.Look.{look}
use Rattle.master_lent.proofs.FoundLaws.{refused_cause, found_cause}
use Rattle.master_step.specs.declared.here.Here.{Here}
use Rattle.master_step.specs.Going.{here_in}
use Rattle.master_step.specs.Held.{fields_at, block_at, Moves}
use Rattle.master_step.proofs.Laws.{moves}
use Rattle.master_call.specs.CallStep.{here_by}
use Rattle.master_call.specs.CallBegin.{StartsAt, CallBegins}

-- ---- what there is to know of a run, by the number of the option

stops_at : (more stop : Bool) → not more && stop ≡ cond more false stop
stops_at true stop = refl
stops_at false stop = refl

module _ (reading : Bool) (n before : ℕ) (more : Bool) where
  abbrev HereIs : Kind → Type 0
  HereIs k = here_by reading n before more (kind_option k) ≡ record { reading = reading; length = n; before = before; more = more; start = (frame_for k).send_start; stops = cond more false (frame_for k).send_stop; nack = (frame_for k).send_nack }

  option_here : (o : FrameOptions) → HereIs (kind.Write o)
  option_here options.FirstAndLastFrame = rw (stops_at more true)
  option_here options.FirstFrame = rw (stops_at more false)
  option_here options.FirstAndNextFrame = rw (stops_at more false)
  option_here options.NextFrame = rw (stops_at more false)
  option_here options.LastFrame = rw (stops_at more true)
  option_here options.LastFrameNoStop = rw (stops_at more false)

  kind_here : (k : Kind) → HereIs k
  kind_here kind.Transaction = option_here options.FirstAndLastFrame
  kind_here kind.WriteRead = option_here options.FirstAndLastFrame
  kind_here (kind.Write o) = option_here o
  kind_here (kind.Read o) = option_here o

pub here_is : (c : Call) (r : Run) (reading : Bool) (option : ℕ) → reading ≡ is_read r.direction → option ≡ kind_option c.kind
    → here_by reading r.length r.before r.more option ≡ here_in c r (is_read r.direction)
here_is c r reading option e o = rw (e, o) (kind_here (is_read r.direction) r.length r.before r.more c.kind)

-- ---- the numbers of a call that has done nothing yet

pub begun_is : (c : Call) (group entry chip option : ℕ) → entry ≡ kind_entry c.kind → chip ≡ chip_number c.chip → option ≡ kind_option c.kind
    → record { entry = entry; chip = chip; option = option; stage = group; what = 0; phase = 0; marks = 0; error = 0; address = c.address; run = 0; left = 0; place = 0; word = 0; divider = 0; rise = 0; value = 0; count = 0; second = 0; mhz = 0; extra = 0 } ≡ fields_at c fresh group 0 0
unfolding fields_at
begun_is c group entry chip option e h o = rw (e, h, o)

pub begun_block : (c : Call) (f : Fields) (b : List ℕ) → f ≡ fields_at c fresh 0 0 0 → b ≡ bytes_of f → b ≡ block_at c fresh 0 0 0
unfolding block_at
begun_block c f b e k = k ∙ ap bytes_of e

-- ---- the first access

pub starts_ended : (c : Call) (f : Fields) (after : List ℕ) (asked : Need) → f ≡ fields_at c fresh 10 0 0 → after ≡ bytes_of f → asked ≡ (need.End done) → Moves c (start_with (setting_of c) None) after asked
unfolding block_at
starts_ended c f after asked e b k = moves {st = Ended} (b ∙ ap bytes_of e) k

module _ (c : Call) (r : Run) (here : Here) (h : here ≡ here_in c r (is_read r.direction)) (after : List ℕ) (asked : Need) where
  has_first : {t : Bool} → here.reading || here.start ≡ t → is_read r.direction || (setting_of c).frame.send_start ≡ t
  has_first e = sym (ap (λ (x : Here). x.reading || x.start) h) ∙ e

  pub starts_first : after ≡ block_at c fresh 0 0 0 → here.reading || here.start ≡ true → asked ≡ (need.Read Ctlr1) → Moves c (start_with (setting_of c) (Some r)) after asked
  starts_first b t k = rw (has_first t) (moves {st = Begin} b k)

  pub starts_write : here.reading || here.start ≡ false → Moves c (write_bytes_move (setting_of c) r (begun r fresh)) after asked → Moves c (start_with (setting_of c) (Some r)) after asked
  starts_write t m = rw (has_first t) m

-- ---- begin

module _ (c : Call) (list : List ℕ) (written room : ℕ) (before after : List ℕ) where
  pub begin_misshapen : misshapen c.kind list ≡ true → after ≡ before → CallBegins c list written room before after (Err InvalidArgument)
  unfolding CallBegins
  begin_misshapen e b = rw e (record { block = b; cause = refl })

  module _ (form : misshapen c.kind list ≡ false) where
    pub begin_refused : (e : Error) → Err e ≡ look c.kind c.address list written room 0 → after ≡ before → CallBegins c list written room before after (Err e)
    unfolding CallBegins
    begin_refused e q b = rw (form, refused_cause c.kind c.address list written room 0 e q) (record { block = b; cause = refl })

    pub begin_found : (x : Option Run) (asked : Need) → Ok x ≡ look c.kind c.address list written room 0 → Moves c (start_with (setting_of c) x) after asked → CallBegins c list written room before after (Ok asked)
    unfolding CallBegins
    begin_found x asked q m =
        let z = found_cause c.kind c.address list written room 0 x q in
        let starts : StartsAt c (start_with (setting_of c) x) after (Ok asked) = record { block = m.block; owed = ap (λ (n : Need). Ok n) m.owed } in
        rw (form, z.0, ← z.1) starts
