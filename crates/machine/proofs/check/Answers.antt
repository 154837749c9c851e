use Rattle.std.proofs.Common.{rules, arith}
use Rattle.std.proofs.lemmas.Grind.{common_steps}
use Rattle.machine.specs.Lent.{lent_check}
use Rattle.machine.proofs.check.Goals as goal

pub returns-then-not-sized : goal.returns-then-not-sized
unfolding lent_check
returns-then-not-sized c = grind (arith, common_steps)

pub returns-then-words-size : goal.returns-then-words-size
unfolding lent_check
returns-then-words-size c = search rules

pub returns-then-size-words : goal.returns-then-size-words
unfolding lent_check
returns-then-size-words c = search rules

pub returns-then-not-next_below : goal.returns-then-not-next_below
unfolding lent_check
returns-then-not-next_below c = grind (arith, common_steps)

pub returns : goal.returns
unfolding lent_check
returns c = grind (arith, common_steps)
