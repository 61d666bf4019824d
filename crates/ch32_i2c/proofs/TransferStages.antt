-- What the stages of a master call owe, stage by stage: all but the end and the address word is plain.
-- Assumes nothing.
use mathlib.Core.Path.{◌≡◌, refl}
use mathlib.Core.Bool.{Bool, true, false, not}
use Prim.Native.Nat.{ℕ}
use Rattle.registers.specs.declared.register.Register.TheVariants.{Datar}
use Rattle.registers.specs.Addresses.{address_word}
use Rattle.access.specs.declared.need.Need.{Need}
use Rattle.access.specs.declared.need.Need.TheVariants as need
use Rattle.access.specs.Record.{is_data}
use Rattle.master.specs.declared.call.Setting.{Setting}
use Rattle.master.specs.declared.stage.FallStage.{FallStage}
use Rattle.master.specs.declared.stage.FallStage.TheVariants as fallStage
use Rattle.master.specs.declared.stage.LaunchStage.{LaunchStage}
use Rattle.master.specs.declared.stage.LaunchStage.TheVariants as launchStage
use Rattle.master.specs.declared.stage.WaitStage.{WaitStage}
use Rattle.master.specs.declared.stage.WaitStage.TheVariants as waitStage
use Rattle.master.specs.declared.stage.AddressStage.{AddressStage}
use Rattle.master.specs.declared.stage.AddressStage.TheVariants as addressStage
use Rattle.master.specs.declared.stage.RecvStage.{RecvStage}
use Rattle.master.specs.declared.stage.RecvStage.TheVariants as recvStage
use Rattle.master.specs.declared.stage.ReadStage.{ReadStage}
use Rattle.master.specs.declared.stage.ReadStage.TheVariants as readStage
use Rattle.master.specs.declared.stage.Half.{Half}
use Rattle.master.specs.declared.stage.Half.TheVariants as half
use Rattle.master.specs.declared.stage.AbortStage.{AbortStage}
use Rattle.master.specs.declared.stage.AbortStage.TheVariants as abortStage
use Rattle.master.specs.declared.stage.Stage.{Stage}
use Rattle.master.specs.declared.stage.Stage.TheVariants.{Begin, WaitStop, LaunchStart, Wait, Address, SendByte, RecvByte, ReadIter, GenerateStop, Abort, Ended}
use Rattle.master.specs.declared.state.Progress.{Progress}
use Rattle.master.specs.Machine.{owed_at, owed_fall, owed_launch, owed_wait, owed_address, owed_recv, owed_read, owed_stop, owed_abort}

-- no end, and no write of DATAR
abbrev pub is_plain : Need → Bool
is_plain (need.Read r) = true
is_plain (need.Write r v) = not (is_data r)
is_plain need.Clock = true
is_plain (need.Send p) = true
is_plain (need.Keep p) = true
is_plain need.Drop = true
is_plain (need.End e) = false

-- what holds of plain needs, holds of a stage's if it holds of its end and its address word
module _ (P : Need → Type 0) (plain : (n : Need) → is_plain n ≡ true → P n) where
  fall : (st : FallStage) → P (owed_fall st)
  fall fallStage.Control = plain _ refl
  fall fallStage.Clock = plain _ refl

  launch : (st : LaunchStage) (d : Progress) → P (owed_launch st d)
  launch launchStage.Control d = plain _ refl
  launch launchStage.Status d = plain _ refl
  launch launchStage.Read d = plain _ refl
  launch launchStage.Write d = plain _ refl

  wait : (st : WaitStage) (d : Progress) → P (owed_wait st d)
  wait waitStage.Status d = plain _ refl
  wait waitStage.Clear d = plain _ refl
  wait waitStage.Clock d = plain _ refl

  address : (a : ℕ) (st : AddressStage) (d : Progress) → P (need.Write Datar (address_word a d.reading)) → P (owed_address a st d)
  address a addressStage.Control d w = plain _ refl
  address a addressStage.Master d w = plain _ refl
  address a addressStage.Word d w = w
  address a addressStage.Cleared d w = plain _ refl

  recv : (st : RecvStage) (d : Progress) → P (owed_recv st d)
  recv recvStage.Status d = plain _ refl
  recv recvStage.Data d = plain _ refl

  reads : (b : Bool) (st : ReadStage) (d : Progress) → P (owed_read b st d)
  reads b readStage.PosWrite d = plain _ refl
  reads b readStage.AckRead d = plain _ refl
  reads b readStage.AckWrite d = plain _ refl
  reads b readStage.StartRead d = plain _ refl
  reads b readStage.StartWrite d = plain _ refl
  reads b readStage.NackRead d = plain _ refl
  reads b readStage.NackWrite d = plain _ refl
  reads b readStage.Third d = plain _ refl
  reads b readStage.AgainRead d = plain _ refl
  reads b readStage.AgainWrite d = plain _ refl
  reads b readStage.SecondLast d = plain _ refl
  reads b readStage.Last d = plain _ refl
  reads b readStage.PosOffRead d = plain _ refl
  reads b readStage.PosOffWrite d = plain _ refl

  stop : (st : Half) (d : Progress) → P (owed_stop st d)
  stop half.Read d = plain _ refl
  stop half.Write d = plain _ refl

  abort : (st : AbortStage) (d : Progress) → P (owed_abort st d)
  abort abortStage.FinishRead d = plain _ refl
  abort abortStage.FinishWrite d = plain _ refl
  abort abortStage.Control d = plain _ refl
  abort abortStage.Frequency d = plain _ refl
  abort abortStage.Divider d = plain _ refl
  abort abortStage.Rise d = plain _ refl
  abort abortStage.Reset d = plain _ refl
  abort abortStage.Release d = plain _ refl
  abort abortStage.PutFrequency d = plain _ refl
  abort abortStage.PutDivider d = plain _ refl
  abort abortStage.PutRise d = plain _ refl
  abort abortStage.Enable d = plain _ refl
  abort abortStage.Master d = plain _ refl
  abort abortStage.StopRead d = plain _ refl
  abort abortStage.StopWrite d = plain _ refl

  pub by_stage : (g : Setting) (st : Stage) (d : Progress) → (st ≡ Ended → P (need.End d.ending)) → P (need.Write Datar (address_word g.address d.reading)) → P (owed_at g st d)
  by_stage g Begin d e w = plain _ refl
  by_stage g (WaitStop x st) d e w = fall st
  by_stage g (LaunchStart st) d e w = launch st d
  by_stage g (Wait x st) d e w = wait st d
  by_stage g (Address st) d e w = address g.address st d w
  by_stage g SendByte d e w = plain _ refl
  by_stage g (RecvByte st) d e w = recv st d
  by_stage g (ReadIter st) d e w = reads g.frame.send_nack st d
  by_stage g (GenerateStop x st) d e w = stop st d
  by_stage g (Abort st) d e w = abort st d
  by_stage g Ended d e w = e refl
