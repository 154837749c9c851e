use Rattle.std.proofs.Common.{refl}
use Rattle.rules.specs.Areas.{zeros}
use Rattle.areas.proofs.zeros.Goals as goal

pub returns-clause-zeros : goal.returns-clause-zeros
unfolding zeros
returns-clause-zeros g c = refl
