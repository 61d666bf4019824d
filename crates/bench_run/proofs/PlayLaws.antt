-- From access to access: what is still to be printed leads to the whole text.
-- Assumes nothing.
use Prim.Native.Nat.{ℕ, zero, suc, ◌+◌, ◌-◌, ◌*◌, ◌≤◌, ◌<◌}
use mathlib.Core.Path.{◌≡◌, refl, sym, ◌∙◌}
use mathlib.Core.Bool.{true, false}
use mathlib.Core.List.{List, [], ◌++◌, append-nil}
use native.Mathlib.Omega.{arith}
use borrow.Author.Tests.{lt-ltb, le-ltb}
use lib.ListN.{length, get_or, take}
use Rattle.access.specs.declared.next.Next.{Next}
use Rattle.call.specs.Left.{Left, left}
use Rattle.ch32_i2c.specs.Transfer.{transaction_step}
use Rattle.bench_text.specs.Puts.{Puts}
use Rattle.bench_text.proofs.PutLaws.{Leads, leads_from, leads_put, leads_end, leads_same}
use Rattle.bench_run.specs.Play.{asked, arriving, is_end, access_text, finish_text, play_from}

module _ (list written answers : List ℕ) where
  -- before an access: what is left to print, and the bounds
  pub record Going (at₀ : ℕ) (out₀ all out : List ℕ) (h : Left) (used arrived at turns : ℕ) : Type 0 where
    pub leads : Leads out at (play_from turns list written answers h used arrived) out₀ at₀ all
    pub width : length out ≡ length out₀
    pub fits : used ≤ length answers
    pub few : arrived + turns ≤ 16384
    pub space : at + 14 * turns ≤ at₀ + 229376

  pub going_starts : (at₀ : ℕ) (out : List ℕ) (h : Left) (turns : ℕ) → turns ≤ 16384 → Going at₀ out (play_from turns list written answers h 0 0) out h 0 0 at₀ turns
  going_starts at₀ out h turns l = record {
    leads = leads_from out at₀ (play_from turns list written answers h 0 0);
    width = refl;
    fits = omega arith;
    few = omega arith;
    space = omega arith;
  }

  module _ (h : Left) (used arrived : ℕ) where
    pub play_over : (turns : ℕ) → turns ≤ 0 → play_from turns list written answers h used arrived ≡ finish_text h.next (take arrived h.read) used
    unfolding play_from
    play_over zero l = refl
    play_over (suc n) l = absurd (omega arith)

    pub play_ended : (turns : ℕ) → 0 < turns → is_end h.next ≡ true → play_from turns list written answers h used arrived ≡ finish_text h.next (take arrived h.read) used
    unfolding play_from
    play_ended zero l e = absurd (omega arith)
    play_ended (suc n) l e = rw e

    pub play_open : (turns : ℕ) → 0 < turns → is_end h.next ≡ false → length answers < used + asked h.next → play_from turns list written answers h used arrived ≡ finish_text h.next (take arrived h.read) used
    unfolding play_from
    play_open zero l e q = absurd (omega arith)
    play_open (suc n) l e q = rw (e, lt-ltb (length answers) (used + asked h.next) q)

    abbrev then : ℕ → List ℕ
    then turns =
        access_text h.next (get_or answers used 0)
        ++ play_from turns list written answers (transaction_step h.block list written h.read (get_or answers used 0)) (used + asked h.next) (arrived + arriving h.next)

    play_goes : (n : ℕ) → is_end h.next ≡ false → used + asked h.next ≤ length answers → play_from (suc n) list written answers h used arrived ≡ then n
    unfolding play_from
    play_goes n e q = rw (e, le-ltb (length answers) (used + asked h.next) q)

    pub play_on : (turns : ℕ) → 0 < turns → is_end h.next ≡ false → used + asked h.next ≤ length answers → play_from turns list written answers h used arrived ≡ then (turns - 1)
    play_on zero l e q = absurd (omega arith)
    play_on (suc n) l e q = let k : suc n - 1 ≡ n = omega arith in rw k (play_goes n e q)

  module _ {at₀ : ℕ} {out₀ all out : List ℕ} {h : Left} {used arrived at turns : ℕ} (g : Going at₀ out₀ all out h used arrived at turns) where
    -- the last lines are put
    pub going_ends : {out' xs : List ℕ} {r : ℕ} → play_from turns list written answers h used arrived ≡ xs → Puts out at xs r out' → Puts out₀ at₀ all r out'
    going_ends {out'} {xs} {r} e p = leads_end (leads_put xs [] (leads_same (e ∙ sym (append-nil xs)) g.leads) p)

    -- an access is put
    pub going_on : {out' block' read' : List ℕ} {next' : Next} {m k n a : ℕ} → 0 < turns → is_end h.next ≡ false → k ≡ asked h.next → used + k ≤ length answers → n ≡ arriving h.next → n ≤ 1
        → a ≡ get_or answers used 0 → Puts out at (access_text h.next a) m out' → m ≤ at + 14 → length out' ≡ length out
        → next' ≡ (transaction_step h.block list written h.read a).next → block' ≡ (transaction_step h.block list written h.read a).block → read' ≡ (transaction_step h.block list written h.read a).read
        → Going at₀ out₀ all out' (left next' block' read') (used + k) (arrived + n) m (turns - 1)
    going_on {out'} {block'} {read'} {next'} {m} {k} {n} {a} l e ek fit en small ea p near lo es eb er = record {
      leads =
          rw (es, eb, er, ea, ek, en)
          (leads_put (access_text h.next (get_or answers used 0)) _ (leads_same (play_on h used arrived turns l e (rw ek at fit)) g.leads) (rw ea at p));
      width = lo ∙ g.width;
      fits = fit;
      few = omega (arith, g.few);
      space = omega (arith, g.space);
    }
