use Rattle.rules.specs.Machine.{ask}
use Rattle.machine.proofs.lent.Lent.last_output.Goals as goal

pub returns : goal.returns
unfolding ask
returns c = c.last_from.ensures
