-- No step of `init_slave` changes its configuration; and what `validate` answers.
-- Assumes nothing.
use mathlib.Core.Path.{◌≡◌, refl, sym, subst}
use mathlib.Core.Option.{Option, none, some}
use Prim.Native.Nat.{ℕ}
use Rattle.slave.specs.declared.init.InitStage.{InitStage}
use Rattle.slave.specs.declared.init.InitStage.TheVariants as initStage
use Rattle.slave.specs.declared.init.InitState.{InitState}
use Rattle.slave.specs.Init as slave
use Rattle.slave.specs.declared.config.SlaveConfig.{SlaveConfig}
use Rattle.std.specs.Prelude.{Result, Ok, Err}
use Rattle.access.specs.declared.ending.Error.{Error}
use Rattle.slave_driver.specs.Validated.{answering, validated}

stage_config : (st : InitStage) (s : InitState) (x : ℕ) → (slave.advance_at st s x).config ≡ s.config
stage_config initStage.DisableRead s x = refl
stage_config initStage.DisableWrite s x = refl
stage_config initStage.BufferRead s x = refl
stage_config initStage.BufferWrite s x = refl
stage_config initStage.Own s x = refl
stage_config initStage.Second s x = refl
stage_config initStage.EnableRead s x = refl
stage_config initStage.EnableWrite s x = refl
stage_config initStage.Ended s x = refl

pub config_stays : (s : InitState) (x : ℕ) → (slave.advance s x).config ≡ s.config
unfolding slave.advance
config_stays s x = stage_config s.stage s x

-- what `validate` answers is the cause
module _ (c : SlaveConfig) where
  abbrev Says : Result (Unit {0}) Error → Type 0
  Says (Ok x) = slave.init_refusal c ≡ none
  Says (Err e) = slave.init_refusal c ≡ some e

  says : Says (validated c)
  says = go (slave.init_refusal c) refl
    where
      go : (o : Option Error) → slave.init_refusal c ≡ o → Says (answering o)
      go none q = q
      go (some e) q = q

  pub config_valid : Ok tt ≡ validated c → slave.init_refusal c ≡ none
  config_valid q = subst Says (sym q) says
