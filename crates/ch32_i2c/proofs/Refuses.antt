-- Begin refuses with the first cause, and changes nothing.
-- Assumes nothing.
use mathlib.Core.Path.{◌≡◌, refl, ap, ◌∙◌}
use mathlib.Core.Bool.{Bool, true, false, cond, not, ◌||◌}
use mathlib.Core.List.{List, []}
use mathlib.Core.Option.{Option, none, some}
use Prim.Native.Nat.{ℕ}
use native.Mathlib.Omega.{arith}
use lib.Dec.{eqb, ltb}
use lib.ListN.{length}
use Rattle.access.specs.declared.ending.Error.{Error}
use Rattle.access.specs.declared.ending.Error.TheVariants.{InvalidState, InvalidArgument}
use Rattle.block.specs.Bytes32.{block_size}
use Rattle.images.specs.Numbers.{chip_of}
use Rattle.images.specs.MasterImage.{kind_entry}
use Rattle.timing.specs.Rust.{timing}
use Rattle.master.specs.declared.call.Call.{Call}
use Rattle.master.specs.Calls.{Lent, refuse, refusal}
use Rattle.slave.specs.declared.state.Kind.{Kind}
use Rattle.slave.specs.Init.{init_refusal, started}
use Rattle.slave.specs.Calls.{size_refusal}
use Rattle.call.specs.OnBlock.{After, refused, standing, begin_by, begin_on}
use Rattle.calls.specs.Init.{first_with}
use Rattle.calls.specs.Transfer.{transfer_on, first_state}
use Rattle.calls.specs.InitSlave.{init_slave_on}
use Rattle.calls.specs.Response.{response_begin, response_on}
use Rattle.calls.specs.Response as response
use Rattle.images.specs.SlaveImage as slaveImage
use Rattle.call.specs.Left.{refused_with, begin_left}
use Rattle.ch32_i2c.specs.Init.{duty_of, init_begin}
use Rattle.ch32_i2c.specs.InitSlave.{config_of, unknown_flags, init_slave_begin}
use Rattle.ch32_i2c.specs.Transfer.{master_begin}
use Rattle.ch32_i2c.specs.Demands.{timed_refusal}
use Rattle.std.specs.Prelude.{Result, Ok, Err}
use Rattle.timing.specs.declared.settings.Timing.{Timing}

-- document 01's first cause: 15, 16, then the call's own
abbrev pub first_cause : List ℕ → Bool → Option Error → Option Error
first_cause b unknown own = refuse (not (eqb (length b) block_size)) InvalidState (refuse unknown InvalidArgument own)

begin_refuses : (bytes : List ℕ) (unknown : Bool) (own : Option Error) (b : List ℕ) (first : After) (r : List ℕ) (e : Error) → first_cause b unknown own ≡ some e → begin_left bytes (begin_on unknown own b first) r ≡ refused_with e b r
unfolding begin_on
begin_refuses bytes unknown own b first r e q = go (eqb (length b) block_size) unknown own q
  where
    go : (t u : Bool) (o : Option Error) → refuse (not t) InvalidState (refuse u InvalidArgument o) ≡ some e
        → begin_left bytes (cond t (cond u (refused InvalidArgument b) (begin_by o b first)) (refused InvalidState b)) r ≡ refused_with e b r
    go false u o q = let z : InvalidState ≡ e = cc in ap (λ (x : Error). refused_with x b r) z
    go true true o q = let z : InvalidArgument ≡ e = cc in ap (λ (x : Error). refused_with x b r) z
    go true false (some x) q = let z : x ≡ e = cc in ap (λ (x : Error). refused_with x b r) z
    go true false none q = let z : ◌≡◌ {A = ℕ} 0 1 = cc in absurd (omega arith)

pub transfer_refuses : (unknown : Bool) (c : Call) (b : List ℕ) (l : Lent) (r : List ℕ) (e : Error) → first_cause b unknown (refusal c l) ≡ some e → master_begin unknown c b l r ≡ refused_with e b r
unfolding master_begin refusal
transfer_refuses unknown c b l r e q =
    begin_refuses l.written unknown (refusal c l) b (standing (transfer_on l.list (length l.written) l.room (kind_entry c.kind)) (first_state l.list (length l.written) l.room c)) r e q

pub response_refuses : (size chip : ℕ) (x : Kind) (bytes b r : List ℕ) (e : Error) → first_cause b (ltb 3 chip) (size_refusal size) ≡ some e → begin_left bytes (response_begin size chip x b) r ≡ refused_with e b r
response_refuses size chip x bytes b r e q = begin_refuses bytes (ltb 3 chip) (size_refusal size) b (standing (response_on size (slaveImage.kind_entry x)) (response.first_state size (chip_of chip) x)) r e q

pub init_refuses : (chip input frequency duty : ℕ) (b : List ℕ) (e : Error) → first_cause b (ltb 3 chip || ltb 1 duty) (timed_refusal (timing (chip_of chip) input frequency (duty_of duty))) ≡ some e
    → init_begin b chip input frequency duty ≡ refused_with e b []
unfolding init_begin begin_on
init_refuses chip input frequency duty b e q =
    timed_as (timing (chip_of chip) input frequency (duty_of duty))
    ∙ begin_refuses [] (ltb 3 chip || ltb 1 duty) (timed_refusal (timing (chip_of chip) input frequency (duty_of duty))) b (first_with (chip_of chip) (timing (chip_of chip) input frequency (duty_of duty)) b) [] e q
  where
    timed_as : (x : Result Timing Error) → begin_left [] (begin_on (ltb 3 chip || ltb 1 duty) none b (first_with (chip_of chip) x b)) [] ≡ begin_left [] (begin_on (ltb 3 chip || ltb 1 duty) (timed_refusal x) b (first_with (chip_of chip) x b)) []
    timed_as (Ok t) = refl
    timed_as (Err x) = refl

pub init_slave_refuses : (ten address has second general stretching : ℕ) (b : List ℕ) (e : Error) → first_cause b (unknown_flags ten has general stretching) (init_refusal (config_of ten address has second general stretching)) ≡ some e
    → init_slave_begin b ten address has second general stretching ≡ refused_with e b []
unfolding init_slave_begin
init_slave_refuses ten address has second general stretching b e q =
    begin_refuses [] (unknown_flags ten has general stretching) (init_refusal (config_of ten address has second general stretching)) b (standing init_slave_on (started (config_of ten address has second general stretching))) [] e q
