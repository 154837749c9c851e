use Rattle.std.proofs.Common.{refl}
use Rattle.sheets.specs.CheckerSteps.{tells}
use Rattle.sheets.proofs.checker.Sheet.column_tells.Goals as goal

pub returns : goal.returns
unfolding tells
returns c = rw (c.last_from.ensures, c.last_from-2.ensures) refl
