use Rattle.handheld.specs.Handheld.{apart_of}
use Rattle.apart.specs.Apart.{Left}
use mathlib.Core.Path.{ap, ◌∙◌}
use Rattle.handheld.proofs.trachuliem_why_apart.Goals as goal

pub returns : goal.returns
returns c = let e = c.why_apart.ensures in record { value = c.from.ensures ∙ ap (λ (l : Left). apart_of l.answer) e; area_after = ap (λ (l : Left). l.area) e }
