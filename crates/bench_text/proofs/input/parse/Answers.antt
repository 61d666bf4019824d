-- `bench_text::input::parse` meets its contract.
use mathlib.Core.Path.{sym, ap, ◌∙◌}
use Rattle.bench_text.specs.Taken.{parsed_of}
use Rattle.bench_text.proofs.InputLaws.{input_first, too_long, header_bad, header_good, handed_on}
use Rattle.bench_text.proofs.input.parse.Goals as goal

pub returns-then-text-gt65536 : goal.returns-then-text-gt65536
returns-then-text-gt65536 c =
    let e = too_long _ c.if-text-gt65536.true in record {
      value = ap parsed_of (sym e);
      filled_with = rw e tt;
      within = tt;
    }

pub returns-in_err-header : goal.returns-in_err-header
returns-in_err-header c =
    let s = c.split_at.ensures in
    let q = c.in_err-header.ensures.ok_part in
    let v = rw q at c.in_err-header.ensures.value in
    let w = handed_on _ c.from_residual.ensures.1 v in
    let e = header_bad _ _ _ c.if-text-gt65536.false (input_first _ c.line_end.ensures.value s.front s.back) (sym c.header_in.ensures ∙ q) in record {
      value = rw e w;
      filled_with = rw e tt;
      within = rw w tt;
    }

pub returns : goal.returns
returns c =
    let s = c.split_at.ensures in
    let e = header_good _ _ _ c.if-text-gt65536.false (input_first _ c.line_end.ensures.value s.front s.back) (sym c.header_in.ensures ∙ c.in_ok-header.ensures.ok_part) in record {
      value = rw e c.take_all.ensures.value;
      filled_with = rw e c.take_all.ensures.filled_with;
      within = c.take_all.ensures.within;
    }
