use Rattle.std.proofs.Common.{sym, arith}
use Rattle.std.proofs.lemmas.Grind.{common_steps}
use Rattle.machine.specs.Lent.{link}
use Rattle.sheets.specs.Checker as checker
use Rattle.sheets.proofs.CheckerSteps.{judge_refused}
use Rattle.sheets.proofs.checker.check.Goals as goal

pub returns-in_err-machine : goal.returns-in_err-machine
unfolding checker.check
returns-in_err-machine c = rw (← c.in_err-machine.ensures.refusal) (grind (arith, common_steps))

pub returns-in_err-counts : goal.returns-in_err-counts
unfolding checker.check
returns-in_err-counts c =
    let a = c.args in
    let h = judge_refused a.n a.k (link a.n a.k a.words.now) a.sheet.now _ (sym c.in_err-counts.ensures) in
    rw (← c.in_ok-machine.ensures.refusal) (grind (arith, common_steps))

pub returns : goal.returns
unfolding checker.check
returns c =
    let m = c.in_ok-machine.ensures.machine in
    rw (← c.in_ok-machine.ensures.refusal) (rw (m.0, m.1, m.2) at c.judge.ensures)
