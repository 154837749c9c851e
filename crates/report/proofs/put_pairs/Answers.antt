use Rattle.std.proofs.Common.{◌≡◌, refl, rules, arith}
use Rattle.text.specs.Putting.{put_nothing}
use Rattle.report.specs.Report.{pair_lines}
use Rattle.report.specs.ReportLaws.{put_pairs}
use Rattle.report.proofs.put_pairs.Goals as goal

pub loop-i-init : goal.loop-i-init
unfolding pair_lines
loop-i-init c = let a = c.args in record { size = refl; near = omega arith; lines = put_nothing a.at a.area.now }

pub loop-i-preserved : goal.loop-i-preserved
loop-i-preserved c =
    let l = c.loop-i in
    let p = c.put_pair-place.ensures in
    let room = c.requires.0 in record {
      size = search rules;
      near = omega (arith, p.1, l.invariant.near);
      lines = put_pairs c.args.k l.i c.args.sheet.now (omega (arith, l.invariant.lines.ends, p.0.ends, l.invariant.near, p.1)) l.invariant.lines p.0;
    }

pub returns : goal.returns
returns c =
    let z : c.loop-i.i ≡ c.args.count = omega arith in
    (rw z at c.loop-i.invariant.lines, rw z at c.loop-i.invariant.near)
