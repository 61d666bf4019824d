-- A step of a transaction by what is found of its list.
-- Assumes nothing.
use Rattle.std.specs.Prelude.{Option, Some, None, Result, Ok, Err, is_some}
use Prim.Native.Nat.{ℕ}
use mathlib.Core.Path.{◌≡◌, refl, sym, ap, ◌∙◌}
use mathlib.Core.Bool.{Bool, true, false, ◌&&◌, true≢false}
use mathlib.Core.List.{List}
use mathlib.Core.Option.{none, some}
use borrow.Author.Tests.{leb-true, leb-false, lt-ltb, le-ltb}
use lib.Dec.{leb}
use lib.ListN.{length}
use Rattle.access.proofs.Choice.{first_true, second_true}
use Rattle.access.specs.declared.ending.Error.{Error}
use Rattle.access.specs.declared.ending.Error.TheVariants.{InvalidAddress, InvalidArgument}
use Rattle.access.specs.declared.need.Need.{Need}
use Rattle.block.specs.Bytes32.{word_at, fields_of, Bytes}
use Rattle.operations.specs.declared.search.Run.{Run}
use Rattle.operations.specs.Operations.{is_read}
use Rattle.master.specs.declared.call.Kind.TheVariants as kind
use Rattle.master.specs.declared.state.State.{State}
use Rattle.master.specs.Fits.{fits}
use Rattle.master.specs.Calls.{misshapen, cause_at, refuse, refusal_by, shape_by}
use Rattle.master.specs.Steps.{fits_lent, is_none, move_of}
use Rattle.master_lent.specs.Look.{look}
use Rattle.master_lent.proofs.FoundLaws.{refused_cause, found_cause, formed}
use Rattle.images.specs.MasterImage.{master_of, master_in}
use Rattle.list_run.specs.declared.find.Found.{Found}
use Rattle.list_run.specs.Answer.{found_of}
use Rattle.master_step.specs.declared.here.Here.{Here}
use Rattle.master_step.specs.Going.{here_in}
use Rattle.master_step.specs.Held.{Refuses, StepIn}
use Rattle.master_call.specs.CallStep.{is_call_of, held_in, here_by, is_open, Stepped}
use Rattle.master_call.proofs.CallLaws.{refused_open, absent_open, not_open, in_run, no_call, is_call_lem, is_ending_lem, held}
use Rattle.master_call.proofs.RunLaws.{entry_is, stops_as}

module _ (s : State) (list : List ℕ) (w room : ℕ) where
  abbrev here_look : Result (Option Run) Error
  here_look = look s.call.kind s.call.address list w room s.progress.run

  cause_open : (e : Error) → Err e ≡ here_look → is_open s list w room ≡ false
  unfolding fits_lent
  cause_open e q = refused_open s list w room false refl (go (misshapen s.call.kind list) (refused_cause s.call.kind s.call.address list w room s.progress.run e q))
    where
      go : (b : Bool) → cause_at s.call.kind s.call.address list w room ≡ some e
          → is_none (refuse b InvalidArgument (cause_at s.call.kind s.call.address list w room)) && fits (shape_by s.call list w room) (move_of s) ≡ false
      go true q = refl
      go false q = rw q

  accepted : (f : Option Run) → Ok f ≡ here_look → refusal_by s.call.kind s.call.address list w room ≡ none
  accepted f q =
      let z = found_cause s.call.kind s.call.address list w room s.progress.run f q in
      rw (formed s.call.kind s.call.address list w room z.0, z.0)

-- ---- by what the pass over the list found

-- a list's call of an address that passes
abbrev pub calling : List ℕ → Bool
calling b = is_call_of 2 b && leb (word_at b 8) 127

module _ (b list : List ℕ) (w room a : ℕ) (after : List ℕ) (asked : Need) where
  abbrev state : State
  state = master_of (fields_of b)

  pub call_refused : calling b ≡ false → Refuses b after asked → Stepped (held_in 2 b) list w room a b after asked
  unfolding master_of fields_of look
  call_refused e r = go (is_call_of 2 b) (leb (word_at b 8) 127) refl refl e
    where
      go : (c d : Bool) → is_call_of 2 b ≡ c → leb (word_at b 8) 127 ≡ d → c && d ≡ false → Stepped (held_in 2 b) list w room a b after asked
      go false d c-is d-is z = no_call 2 b list w room a after asked c-is r
      go true false c-is d-is z =
          held 2 b list w room a after asked c-is
          (not_open b list w room a after asked (cause_open state list w room InvalidAddress (rw (entry_is 2 b c-is, lt-ltb 127 (word_at b 8) (leb-false (word_at b 8) 127 d-is)))) r)
      go true true c-is d-is z = absurd (true≢false z)

  module _ (all : Bytes b) (e : calling b ≡ true) (f : Option Found) (ef : f ≡ found_of (look kind.Transaction 0 list w room (word_at b 10))) where
    call : is_call_of 2 b ≡ true
    call = first_true (is_call_of 2 b) _ e

    same_look : look kind.Transaction 0 list w room (word_at b 10) ≡ here_look state list w room
    unfolding master_of fields_of look
    same_look = rw (entry_is 2 b call, le-ltb 127 (word_at b 8) (leb-true (word_at b 8) 127 (second_true (is_call_of 2 b) _ e)))

    -- what there is to know of a transaction's run
    here_is : (r : Run) → here_by (is_read r.direction) r.length r.before r.more 0 ≡ here_in state.call r (is_read r.direction)
    unfolding master_of fields_of
    here_is r = rw (entry_is 2 b call, stops_as r.more)

    found_or : Found → Option Found → Found
    found_or x (Some y) = y
    found_or x None = x

    here_of : Found → Here
    here_of y = here_by y.reading y.length y.before y.more 0

    pub list_refused : f ≡ None → Refuses b after asked → Stepped (held_in 2 b) list w room a b after asked
    list_refused absent r = held 2 b list w room a after asked call (go (here_look state list w room) refl (ef ∙ ap found_of same_look))
      where
        go : (l : Result (Option Run) Error) → l ≡ here_look state list w room → f ≡ found_of l → Stepped (master_in (fields_of b)) list w room a b after asked
        go (Err x) q t = not_open b list w room a after asked (cause_open state list w room x q) r
        go (Ok None) q t =
            let z = found_cause state.call.kind state.call.address list w room state.progress.run None q in
            not_open b list w room a after asked (absent_open state list w room (accepted state list w room None q) (sym z.1)) r
        go (Ok (Some x)) q t = absurd (true≢false (sym (ap is_some t) ∙ ap is_some absent))

    pub list_steps : length b ≡ 32 → (x : Found) → f ≡ Some x → (here : Here) → here ≡ here_by x.reading x.length x.before x.more 0 → StepIn here a b after asked
        → Stepped (held_in 2 b) list w room a b after asked
    unfolding here_of found_or
    list_steps size x present here h steps = held 2 b list w room a after asked call (go (here_look state list w room) refl (ef ∙ ap found_of same_look))
      where
        go : (l : Result (Option Run) Error) → l ≡ here_look state list w room → f ≡ found_of l → Stepped (master_in (fields_of b)) list w room a b after asked
        go (Err e) q t = absurd (true≢false (sym (ap is_some present) ∙ ap is_some t))
        go (Ok None) q t = absurd (true≢false (sym (ap is_some present) ∙ ap is_some t))
        go (Ok (Some r)) q t =
            let z = found_cause state.call.kind state.call.address list w room state.progress.run (Some r) q in
            in_run b list w room a after asked size all (is_call_lem 2 b call) (is_ending_lem 2 b call) (accepted state list w room (Some r) q) r (sym z.1) here
            (h ∙ ap (λ (o : Option Found). here_of (found_or x o)) (sym present ∙ t) ∙ here_is r) steps
