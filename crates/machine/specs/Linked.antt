-- The machine that lent words stand for.
use Rattle.rules.specs.Machine.{Machine}
use Rattle.machine.specs.Lent.{link}
use Rattle.machine.specs.declared.lent.Lent.{Lent}

abbrev pub linked : Lent → Machine
linked m = link m.n m.k m.words.now
