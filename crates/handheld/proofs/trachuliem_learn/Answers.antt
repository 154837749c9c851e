use Rattle.handheld.specs.Handheld.{outcome_of}
use Rattle.learning.specs.Learner.{Left}
use mathlib.Core.Path.{ap, ◌∙◌}
use Rattle.handheld.proofs.trachuliem_learn.Goals as goal

pub returns : goal.returns
returns c = let e = c.learn.ensures in record { value = c.from.ensures ∙ ap (λ (l : Left). outcome_of l.answer) e; table_after = ap (λ (l : Left). l.table) e; sheet_after = ap (λ (l : Left). l.sheet) e }
