use Rattle.std.proofs.Common.{arith}
use Rattle.std.proofs.lemmas.Grind.{common_steps}
use Rattle.learning.specs.Learner as spec
use Rattle.learning.proofs.learn_check.Goals as goal

pub returns-then-not-within-clause-refusal : goal.returns-then-not-within-clause-refusal
unfolding spec.learn_check
returns-then-not-within-clause-refusal c = grind (arith, common_steps)

pub returns-in_err-machine-clause-refusal : goal.returns-in_err-machine-clause-refusal
unfolding spec.learn_check
returns-in_err-machine-clause-refusal c = grind (arith, common_steps)

pub returns-then-table-lt34043-clause-refusal : goal.returns-then-table-lt34043-clause-refusal
unfolding spec.learn_check
returns-then-table-lt34043-clause-refusal c = rw (← c.in_ok-machine.ensures.refusal) (grind (arith, common_steps))

pub returns-then-sheet-lt9368-clause-refusal : goal.returns-then-sheet-lt9368-clause-refusal
unfolding spec.learn_check
returns-then-sheet-lt9368-clause-refusal c = rw (← c.in_ok-machine.ensures.refusal) (grind (arith, common_steps))

pub returns-clause-refusal : goal.returns-clause-refusal
unfolding spec.learn_check
returns-clause-refusal c = rw (← c.in_ok-machine.ensures.refusal) (grind (arith, common_steps))
