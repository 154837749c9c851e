use Rattle.std.proofs.Common.{rules, sym, refl, ◌∙◌, arith}
use Rattle.std.proofs.lemmas.Iterator.{YieldsList-from_range}
use Rattle.std.proofs.lemmas.Iterator.Search.{all_from_yields_List}
use Rattle.machine.specs.Linked.{linked}
use Rattle.sheets.specs.Held.{said}
use Rattle.sheets.specs.CheckerSteps.{apart_before}
use Rattle.sheets.proofs.CheckerSteps.{all_ranged, apart_asked}
use Rattle.sheets.proofs.checker.Sheet.all_apart.Goals as goal

pub returns : goal.returns
returns c =
    let s = c.args.self.now in
    all_from_yields_List (apart_before (linked s.model) (said s.bytes.now)) _ _ c.all.result c.all.ensures.ran (YieldsList-from_range 0 s.model.n s.model.n refl (omega arith))
    (λ x b q k. search rules)
    ∙ all_ranged (apart_before (linked s.model) (said s.bytes.now)) 0 s.model.n
    ∙ sym (apart_asked s.held (linked s.model))
