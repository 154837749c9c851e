use Rattle.text.proofs.Decimal.{decimal_short}
use Rattle.report.specs.ReportLaws.{number_short, put_number}
use Rattle.text.specs.Putting.{put_same}
use native.Mathlib.Omega.{arith}
use borrow.Author.Rules.{rules}
use Rattle.report.proofs.put_number.Goals as goal

pub put_decimal-place-requires : goal.put_decimal-place-requires
put_decimal-place-requires c = omega (arith, decimal_short c.args.x c.requires.1, c.requires.0)

pub bounds-area-place : goal.bounds-area-place
bounds-area-place c =
    let d = c.put_decimal-place in
    let short = decimal_short c.args.x c.requires.1 in
    let same = put_same (omega (arith, c.requires.0)) d.ensures in
    omega (arith, d.ensures.ends, c.requires.0)

pub overflow_add-result : goal.overflow_add-result
overflow_add-result c = let d = c.put_decimal-place in let e = d.ensures.ends in let f = decimal_short c.args.x c.requires.1 in search rules

pub returns : goal.returns
returns c =
    let room = number_short c.args.x c.args.end c.requires.1 in
    put_number c.args.x c.args.end (omega (arith, c.requires.0)) c.put_decimal-place.ensures
