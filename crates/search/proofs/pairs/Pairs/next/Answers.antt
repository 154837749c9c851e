use Rattle.rules.specs.Machine.{lent}
use Rattle.rules.specs.Difference.{pair_step}
use Rattle.search.proofs.pairs.Pairs.next.Goals as goal

pub returns-clause-value : goal.returns-clause-value
unfolding pair_step lent
returns-clause-value c = rw (c.next-2.ensures.value, c.next.ensures.value)
