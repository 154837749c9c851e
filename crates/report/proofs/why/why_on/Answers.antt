use Rattle.std.proofs.Common.{◌*◌, ◌≤◌, refl, sym, rules, arith, length-take-le}
use Rattle.std.proofs.lemmas.Grind.{common_steps}
use Rattle.rules.specs.Areas.{zeros}
use Rattle.report.specs.DeskLaws.{none_asked, sheet_asked}
use Rattle.report.proofs.Laws.{sized}
use Rattle.report.proofs.why.why_on.Goals as goal
use Rattle.report.proofs.why.why_on.Goals.{In_ok-n}

small : (c : In_ok-n) → c.in_ok-n.field-0.n * c.in_ok-n.field-0.k ≤ 576
unfolding zeros
small c = (sized _ _ _ c.in_ok-n.ensures).0

pub returns-in_err-n-clause-area_after : goal.returns-in_err-n-clause-area_after
unfolding zeros
returns-in_err-n-clause-area_after c = rw (none_asked _ _ _ _ _ _ c.in_err-n.ensures _ refl) (grind (arith, common_steps))

pub overflow_mul-size : goal.overflow_mul-size
overflow_mul-size c = let z = small c in search rules

pub slice_bounds-words-end : goal.slice_bounds-words-end
slice_bounds-words-end c = let z = small c in search rules

pub slice_bounds-why_apart-end : goal.slice_bounds-why_apart-end
slice_bounds-why_apart-end c = let z = small (goal.at.slice_bounds-why_apart-end c).In_ok-n in sym (length-take-le _ _ (search rules))

pub returns : goal.returns
unfolding zeros
returns c =
    let asked = sheet_asked _ _ _ _ _ _ c.in_ok-n.ensures _ _ refl c.why_apart.ensures in
    record { area_after = sym asked.0; short = asked.1 }
