use Rattle.std.proofs.Common.{rules, refl, ◌∙◌, arith}
use Rattle.std.proofs.lemmas.Iterator.{YieldsList-from_range}
use Rattle.std.proofs.lemmas.Iterator.Search.{all_from_yields_List}
use Rattle.machine.specs.Linked.{linked}
use Rattle.sheets.specs.Held.{said}
use Rattle.sheets.specs.Checker.{told_apart}
use Rattle.sheets.specs.CheckerSteps.{apart_before}
use Rattle.sheets.proofs.CheckerSteps.{all_ranged}
use Rattle.sheets.proofs.checker.Sheet.apart_from_earlier.Goals as goal

pub returns : goal.returns
unfolding apart_before
returns c =
    let a = c.args in
    let s = a.self.now in
    all_from_yields_List (told_apart (linked s.model) (said s.bytes.now) a.i) _ _ c.all.result c.all.ensures.ran (YieldsList-from_range 0 a.i a.i refl (omega arith))
    (λ x b q k. search rules)
    ∙ all_ranged (told_apart (linked s.model) (said s.bytes.now) a.i) 0 a.i
