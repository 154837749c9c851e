use Rattle.std.proofs.Common.{refl}
use Rattle.rules.specs.Table.{from}
use Rattle.search.specs.Queue.{fresh, entries}
use Rattle.search.proofs.queue.Queue.new.Goals as goal

pub invariant_of-result : goal.invariant_of-result
invariant_of-result c = fresh 2304 refl

pub returns : goal.returns
unfolding entries from
returns c = refl
