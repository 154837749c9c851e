use Rattle.std.proofs.Common.{ap, ◌∙◌, length, arith}
use Rattle.rules.specs.Areas.{put_length}
use Rattle.text.specs.Putting.{put_same}
use Rattle.learning.specs.Answers.{counted}
use Rattle.report.specs.Report.{model_mark}
use Rattle.report.specs.ReportLaws.{pairs_most, put_model}
use Rattle.report.proofs.put_model.Goals as goal

pub put_pairs-requires : goal.put_pairs-requires
put_pairs-requires c =
    let p = c.put_line-place.ensures in
    let most = pairs_most c.args.counts.states c.args.k c.requires.4 c.requires.3 in
    let one = ap length c.put_letters.ensures ∙ put_length 0 model_mark c.args.area.now (omega (arith, c.requires.0)) in
    let two = put_same (omega (arith, c.requires.0, p.0.ends, p.1)) p.0 in
    (omega (arith, c.requires.0, p.1), c.requires.2, c.requires.3, most, omega (arith, c.requires.1))

pub returns : goal.returns
returns c =
    let p = c.put_line-place.ensures in
    let q = c.put_pairs.ensures in
    let most = pairs_most c.args.counts.states c.args.k c.requires.4 c.requires.3 in (
      put_model c.args.k (counted c.args.counts) c.args.sheet.now
          (omega (arith, c.requires.4), omega (arith, c.requires.3), omega (arith, c.requires.5), omega (arith, c.requires.6)) (omega (arith, c.requires.0, q.0.ends, q.1))
          c.put_letters.ensures p.0 q.0,
      omega (arith, p.1, q.1),
    )
