use Rattle.std.proofs.Common.{◌∙◌, arith}
use Rattle.report.specs.ReportLaws.{number_short, put_refusal}
use Rattle.report.proofs.put_refusal.Goals as goal

pub returns : goal.returns
returns c =
    let p = c.put_number.ensures in (
      put_refusal _ _ (c.from-2.ensures ∙ c.from.ensures, omega arith) c.requires c.put_letters.ensures p,
      omega (arith, p.ends, number_short c.from-2.result 10 (omega arith)),
    )
