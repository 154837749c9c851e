use Rattle.std.proofs.Common.{Ok, ◌*◌, ◌≤◌, refl, sym, rules, arith, length-take-le}
use Rattle.std.proofs.lemmas.Grind.{common_steps}
use Rattle.rules.specs.Areas.{zeros}
use Rattle.learning.specs.Answers.{learnt}
use Rattle.report.specs.Reading.{small_done}
use Rattle.report.specs.DeskLaws.{none_sent, learnt_sent, sent_short}
use Rattle.report.proofs.Laws.{sized}
use Rattle.report.proofs.send.send.Goals as goal
use Rattle.report.proofs.send.send.Goals.{In_ok-n}

small : (c : In_ok-n) → c.in_ok-n.field-0.n * c.in_ok-n.field-0.k ≤ 576
unfolding zeros
small c = (sized _ _ _ c.in_ok-n.ensures).0

pub returns-in_err-n-clause-area_after : goal.returns-in_err-n-clause-area_after
unfolding zeros
returns-in_err-n-clause-area_after c = rw (none_sent _ _ _ _ c.in_err-n.ensures _ refl) (grind (arith, common_steps))

pub overflow_mul-size : goal.overflow_mul-size
overflow_mul-size c = let z = small c in search rules

pub returns-in_err-learnt-clause-area_after : goal.returns-in_err-learnt-clause-area_after
unfolding zeros
returns-in_err-learnt-clause-area_after c = rw (learnt_sent _ _ _ _ c.in_ok-n.ensures _ _ refl c.in_err-learnt.ensures) (grind (arith, common_steps))

pub slice_bounds-words-end : goal.slice_bounds-words-end
slice_bounds-words-end c = let z = small c in search rules

pub slice_bounds-learn-end : goal.slice_bounds-learn-end
slice_bounds-learn-end c = let z = small (goal.at.slice_bounds-learn-end c).In_ok-n in sym (length-take-le _ _ (search rules))

pub returns-in_default-clause-area_after : goal.returns-in_default-clause-area_after
unfolding zeros
returns-in_default-clause-area_after c = rw (learnt_sent _ _ _ _ c.in_ok-n.ensures _ _ refl c.in_ok-learnt.ensures, c.in_default.is) refl

pub returns-clause-area_after : goal.returns-clause-area_after
unfolding zeros
returns-clause-area_after c = rw (learnt_sent _ _ _ _ c.in_ok-n.ensures _ _ refl c.in_ok-learnt.ensures, c.in-Done.is) refl

pub returns-clause-short : goal.returns-clause-short
unfolding zeros
returns-clause-short c = rw c.in-Done.is at (sent_short (learnt (Ok c.in_ok-learnt.learnt)) (small_done _ _ _ _ _ _ _ _ c.in_ok-learnt.ensures))
