-- `bench_text::line::line_end` meets its contract.
use mathlib.Core.Path.{sym, ◌∙◌, subst}
use native.Mathlib.Omega.{arith}
use Prim.Native.Nat.{ℕ}
use Rattle.std.specs.Prelude.{Option}
use Rattle.bench_text.proofs.LineLaws.{line_feeds, EndsBy}
use Rattle.bench_text.proofs.line.line_end.Goals as goal

pub returns-in-Some : goal.returns-in-Some
returns-in-Some c =
    let e = subst (λ (o : Option ℕ). EndsBy o c.args.text.now) (sym c.line_feed.ensures ∙ c.in-Some.is) (line_feeds c.args.text.now) in
    record { value = omega (arith, e); upper_bound = omega (arith, e) }

pub returns-in-None : goal.returns-in-None
returns-in-None c =
    let e = subst (λ (o : Option ℕ). EndsBy o c.args.text.now) (sym c.line_feed.ensures ∙ c.in-None.is) (line_feeds c.args.text.now) in
    record { value = omega (arith, e); upper_bound = omega (arith, e) }
