use Rattle.std.proofs.Common.{◌*◌, ◌-◌}
use Rattle.rules.specs.Difference.{pair_step}
use Rattle.machine.specs.Linked.{linked}
use Rattle.search.specs.Pairs.{Underway}
use Rattle.search.proofs.pairs.Pairs.explore.Given as goal

abbrev pub invariant-loop-at : goal.invariant-loop-at
invariant-loop-at l = Underway (pair_step (linked l.self.machine) (linked l.self.other)) l.start l.self.machine.k (l.self.machine.n * l.self.other.n) l.at l.queue

abbrev pub decreases-loop-at : goal.decreases-loop-at
decreases-loop-at l = 2304 - l.at
