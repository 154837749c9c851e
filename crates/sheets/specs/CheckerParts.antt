-- What the checker holds together, in the paper's terms.
use Rattle.rules.specs.Sheets.{Proof}
use Rattle.sheets.specs.CheckerSteps.{mapped}
use Rattle.sheets.specs.declared.checker.Mapped.{Mapped}

-- a sheet of which only the model and the map are looked at
abbrev pub mapped_by : Mapped → Proof
mapped_by g = mapped g.machine.n g.machine.k g.model.n g.model.words.now g.map.now
