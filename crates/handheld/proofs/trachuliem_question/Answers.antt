use Rattle.handheld.specs.Handheld.{output_of}
use mathlib.Core.Path.{ap, ◌∙◌}
use Rattle.handheld.proofs.trachuliem_question.Goals as goal

pub returns : goal.returns
returns c = c.from.ensures ∙ ap output_of c.question.ensures
