-- Which states the blocks of `init` and `init_slave` hold: none where their length is another, and of `init_slave` by the cause for which
-- begin would refuse its configuration.
-- Assumes nothing.
use Prim.Native.Nat.{ℕ}
use mathlib.Core.Path.{◌≡◌, refl, ap, sym, ◌∙◌}
use mathlib.Core.Bool.{Bool, true, false, cond}
use mathlib.Core.List.{List}
use native.Mathlib.Omega.{arith}
use lib.Dec.{eqb}
use lib.ListN.{length}
use borrow.Author.Tests.{ne_eqb, eqb-true}
use Rattle.std.specs.Prelude.{Option, Some, None, Ok, Err}
use Rattle.std.proofs.Math.Option as maybe
use Rattle.access.specs.declared.ending.Error.{Error}
use Rattle.block.specs.Bytes32.{block_size, fields_of}
use Rattle.images.specs.InitImage.{init_in}
use Rattle.images.specs.InitSlaveImage.{init_slave_in}
use Rattle.slave.specs.declared.config.SlaveConfig.{SlaveConfig}
use Rattle.timing.specs.declared.init.State.{State}
use Rattle.slave.specs.declared.init.InitState.{InitState}
use Rattle.slave.specs.Init.{init_refusal}
use Rattle.slave_driver.specs.Validated.{answering, validated}
use Rattle.call.specs.CallOn.{unless}
use Rattle.calls.specs.Init.{init_held}
use Rattle.calls.specs.Init as initCall
use Rattle.calls.specs.InitSlave.{fitting, init_slave_held}

found_whole : {A : Type 0} (b : List ℕ) (x nothing found : A) → (nothing ≡ found → ⊥) → cond (eqb (length b) block_size) x nothing ≡ found → length b ≡ block_size
found_whole b x nothing found other e = go (eqb (length b) block_size) refl e
  where
    go : (t : Bool) → eqb (length b) block_size ≡ t → cond t x nothing ≡ found → length b ≡ block_size
    go true h k = eqb-true (length b) block_size h
    go false h k = absurd (other k)

pub init_short : (b : List ℕ) → (length b ≡ block_size → ⊥) → None ≡ init_held b
unfolding init_held
init_short b e = rw (ne_eqb (length b) block_size e)

pub init_slave_short : (b : List ℕ) → (length b ≡ block_size → ⊥) → None ≡ init_slave_held b
unfolding init_slave_held
init_slave_short b e = rw (ne_eqb (length b) block_size e)

-- a block that holds a state has 32 bytes
pub init_size : (b : List ℕ) (s : State) → Some s ≡ init_held b → length b ≡ block_size
unfolding init_held
init_size b s e = found_whole b (initCall.fitting (init_in (fields_of b))) None (Some s) (λ q. let z : ◌≡◌ {A = ℕ} 0 1 = cc in omega arith) (sym e)

pub init_slave_size : (b : List ℕ) (s : InitState) → Some s ≡ init_slave_held b → length b ≡ block_size
unfolding init_slave_held
init_slave_size b s e = found_whole b (fitting (init_slave_in (fields_of b))) None (Some s) (λ q. let z : ◌≡◌ {A = ℕ} 0 1 = cc in omega arith) (sym e)

-- what `validate` answers is the cause
pub config_refused : (c : SlaveConfig) (e : Error) → Err e ≡ validated c → init_refusal c ≡ maybe.some e
config_refused c e q = go (init_refusal c) refl q
  where
    go : (o : maybe.Option Error) → init_refusal c ≡ o → Err e ≡ answering o → init_refusal c ≡ maybe.some e
    go maybe.none r k = cc
    go (maybe.some x) r k = let same : x ≡ e = cc in r ∙ ap maybe.some same

module _ (f : Option InitState) (s : InitState) (e : f ≡ Some s) where
  pub fits_by : (o : maybe.Option Error) → init_refusal s.config ≡ o → unless o s ≡ fitting f
  fits_by o r = ap (λ (x : maybe.Option Error). unless x s) (sym r) ∙ ap fitting (sym e)

  -- by what `validate` answers
  pub fits_valid : validated s.config ≡ Ok tt → Some s ≡ fitting f
  fits_valid t = go (init_refusal s.config) refl t
    where
      go : (o : maybe.Option Error) → init_refusal s.config ≡ o → answering o ≡ Ok tt → Some s ≡ fitting f
      go maybe.none r k = fits_by maybe.none r
      go (maybe.some x) r k = cc

  pub fits_refused : (x : Error) → validated s.config ≡ Err x → None ≡ fitting f
  fits_refused x t = go (init_refusal s.config) refl t
    where
      go : (o : maybe.Option Error) → init_refusal s.config ≡ o → answering o ≡ Err x → None ≡ fitting f
      go maybe.none r k = cc
      go (maybe.some y) r k = fits_by (maybe.some y) r
