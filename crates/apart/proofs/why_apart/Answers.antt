use Rattle.std.proofs.Common.{arith}
use Rattle.std.proofs.lemmas.Grind.{common_steps}
use Rattle.apart.specs.Apart as spec
use Rattle.apart.proofs.why_apart.Goals as goal

pub returns-in_err-machine : goal.returns-in_err-machine
unfolding spec.apart spec.asked
returns-in_err-machine c = grind (arith, common_steps)

pub returns-then-n-s : goal.returns-then-n-s
unfolding spec.apart spec.asked
returns-then-n-s c = rw (← c.in_ok-machine.ensures.refusal) (grind (arith, common_steps))

pub returns-then-area-lt47 : goal.returns-then-area-lt47
unfolding spec.apart spec.asked
returns-then-area-lt47 c = rw (← c.in_ok-machine.ensures.refusal) (grind (arith, common_steps))

pub returns : goal.returns
unfolding spec.apart spec.asked
returns c = rw (← c.in_ok-machine.ensures.refusal) (grind (arith, common_steps))
