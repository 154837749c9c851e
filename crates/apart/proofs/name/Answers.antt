use Rattle.machine.specs.LentLaws.{below_letters}
use Rattle.apart.specs.ApartLaws.{named}
use Rattle.apart.proofs.name.Goals as goal

pub last_from-requires : goal.last_from-requires
last_from-requires c = (c.requires.0, below_letters _ _ c.requires.2)

pub last_from-requires-2 : goal.last_from-requires-2
last_from-requires-2 c = (c.requires.1, below_letters _ _ c.requires.2)

pub returns : goal.returns
returns c = named _ _ _ _ _ _ _ _ c.last_from.ensures c.last_from-2.ensures c.put_letters.ensures
