use Rattle.rules.specs.Machine.{lent}
use Rattle.rules.specs.Difference.{pair_apart}
use Rattle.search.proofs.pairs.Pairs.apart.Goals as goal

pub returns : goal.returns
unfolding pair_apart lent
returns c = rw (c.output-2.ensures, c.output.ensures)
