use Rattle.text.specs.Putting.{put_same}
use Rattle.report.specs.ReportLaws.{number_short, line_short, put_line}
use native.Mathlib.Omega.{arith}
use Rattle.report.proofs.put_line.Goals as goal

pub put_number-third-requires : goal.put_number-third-requires
put_number-third-requires c =
    let p = c.put_number-second.ensures in
    let ha = number_short c.args.a 32 c.requires.a_bound.0 in
    let size = put_same (omega (arith, c.requires.at_in_bounds)) p in
    (omega (arith, c.requires.at_in_bounds, p.ends), c.requires.a_bound.1)

pub put_number-fourth-requires : goal.put_number-fourth-requires
put_number-fourth-requires c =
    let p = c.put_number-second.ensures in
    let q = c.put_number-third.ensures in
    let ha = number_short c.args.a 32 c.requires.a_bound.0 in
    let hb = number_short c.args.b 32 c.requires.a_bound.1 in
    let size = put_same (omega (arith, c.requires.at_in_bounds)) p in
    let size₂ = put_same (omega (arith, c.requires.at_in_bounds, p.ends)) q in
    (omega (arith, c.requires.at_in_bounds, p.ends, q.ends), c.requires.a_bound.2)

pub put_number-requires : goal.put_number-requires
put_number-requires c =
    let p = c.put_number-second.ensures in
    let q = c.put_number-third.ensures in
    let r = c.put_number-fourth.ensures in
    let ha = number_short c.args.a 32 c.requires.a_bound.0 in
    let hb = number_short c.args.b 32 c.requires.a_bound.1 in
    let hc = number_short c.args.c 32 c.requires.a_bound.2 in
    let size = put_same (omega (arith, c.requires.at_in_bounds)) p in
    let size₂ = put_same (omega (arith, c.requires.at_in_bounds, p.ends)) q in
    let size₃ = put_same (omega (arith, c.requires.at_in_bounds, p.ends, q.ends)) r in
    (omega (arith, c.requires.at_in_bounds, p.ends, q.ends, r.ends), c.requires.a_bound.3)

pub returns : goal.returns
returns c =
    let p = put_line c.requires.a_bound c.requires.at_in_bounds c.put_number-second.ensures c.put_number-third.ensures c.put_number-fourth.ensures c.put_number.ensures in
    (p, omega (arith, p.ends, line_short c.args.a c.args.b c.args.c c.args.d c.requires.a_bound))
