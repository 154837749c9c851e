use Rattle.std.proofs.Common.{Ok, subst, arith}
use Rattle.text.specs.Putting.{put_nothing}
use Rattle.learning.specs.declared.Learnt.{Learnt}
use Rattle.learning.specs.Answers.{learnt}
use Rattle.report.specs.Report.{model}
use Rattle.report.specs.ReportLaws.{SmallIfDone}
use Rattle.report.proofs.put_learnt.Goals as goal

pub returns-in_default : goal.returns-in_default
returns-in_default c = rw c.in_default.is (put_nothing 0 c.args.area.now, omega arith)

pub put_model-requires : goal.put_model-requires
put_model-requires c =
    let r = c.requires in
    let small = subst (λ (a : Learnt). SmallIfDone (learnt (Ok a))) c.in-Done.is r.4 in
    (r.0, r.1, r.2, r.3, small.0, small.1, small.2)

pub returns : goal.returns
unfolding model
returns c = rw c.in-Done.is c.put_model.ensures
