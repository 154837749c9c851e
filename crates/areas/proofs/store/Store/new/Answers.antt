use Rattle.std.proofs.Common.{refl}
use Rattle.rules.specs.Table.{from}
use Rattle.areas.specs.Store.{stored}
use Rattle.areas.proofs.store.Store.new.Goals as goal

pub returns : goal.returns
unfolding stored from
returns g c = refl
