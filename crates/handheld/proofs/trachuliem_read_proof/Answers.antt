use Rattle.handheld.specs.Handheld.{counts_of}
use mathlib.Core.Path.{ap, ◌∙◌}
use Rattle.handheld.proofs.trachuliem_read_proof.Goals as goal

pub returns : goal.returns
returns c = c.from.ensures ∙ ap counts_of c.read.ensures
