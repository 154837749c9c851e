use Rattle.rules.specs.Machine.{lent}
use Rattle.machine.proofs.lent.Lent.output.Goals as goal

pub returns : goal.returns
unfolding lent
returns c = c.output.ensures
