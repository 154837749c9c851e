use Rattle.std.proofs.Common.{arith}
use Rattle.std.proofs.lemmas.Grind.{common_steps}
use Rattle.machine.specs.Lent as lents
use Rattle.machine.proofs.question.Goals as goal

pub returns-in_err-machine : goal.returns-in_err-machine
unfolding lents.question
returns-in_err-machine c = grind (arith, common_steps)

pub returns-then-is_empty : goal.returns-then-is_empty
unfolding lents.question
returns-then-is_empty c = rw (← c.in_ok-machine.ensures.refusal) (grind (arith, common_steps))

pub returns : goal.returns
unfolding lents.question
returns c = rw (← c.in_ok-machine.ensures.refusal) (grind (arith, common_steps))
