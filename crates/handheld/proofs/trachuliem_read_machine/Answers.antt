use Rattle.handheld.specs.Handheld.{size_of}
use Rattle.sheets.specs.Machines.{Size, Left}
use mathlib.Core.Path.{ap, ◌∙◌}
use Rattle.handheld.proofs.trachuliem_read_machine.Goals as goal

pub returns : goal.returns
returns c = let e = c.read.ensures in record { value = c.from.ensures ∙ ap (λ (l : Left Size). size_of l.answer) e; area_after = ap (λ (l : Left Size). l.area) e }
