use Rattle.std.proofs.Common.{arith}
use Rattle.std.proofs.lemmas.Grind.{common_steps}
use Rattle.sheets.specs.ProofParts.{in_range}
use Rattle.sheets.proofs.proofs.Counts.in_range.Goals as goal

pub returns-then-within : goal.returns-then-within
unfolding in_range
returns-then-within c = grind (arith, common_steps)

pub returns-else-within : goal.returns-else-within
unfolding in_range
returns-else-within c = grind (arith, common_steps)
