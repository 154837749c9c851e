use Rattle.handheld.specs.Handheld.{refusal_of}
use mathlib.Core.Path.{ap, ◌∙◌}
use Rattle.handheld.proofs.trachuliem_check_machine.Goals as goal

pub returns : goal.returns
returns c = c.number_of.ensures ∙ ap refusal_of c.check.ensures
