use Rattle.std.proofs.Common.{rules, refl, sym, ◌∙◌, arith}
use Rattle.std.proofs.lemmas.Iterator.{YieldsList-from_range}
use Rattle.std.proofs.lemmas.Iterator.Search.{all_from_yields_List}
use Rattle.rules.specs.Tests.{is_false}
use Rattle.machine.specs.Linked.{linked}
use Rattle.sheets.specs.CheckerSteps.{state_agrees}
use Rattle.sheets.specs.CheckerParts.{mapped_by}
use Rattle.sheets.proofs.CheckerSteps.{all_ranged, holds_not, holds_from}
use Rattle.sheets.proofs.checker.Mapped.holds.Goals as goal

pub returns-then-self-eq0 : goal.returns-then-self-eq0
returns-then-self-eq0 c =
    let g = c.args.self.now in
    all_from_yields_List (state_agrees (linked g.machine) (mapped_by g)) _ _ c.all.result c.all.ensures.ran (YieldsList-from_range 0 g.machine.n g.machine.n refl (omega arith))
    (λ x b q k. search rules)
    ∙ all_ranged (state_agrees (linked g.machine) (mapped_by g)) 0 g.machine.n
    ∙ sym (holds_from g.mapping c.if-self-eq0.true)

pub returns-else-self-eq0 : goal.returns-else-self-eq0
returns-else-self-eq0 c = rw (is_false _ _ c.if-self-eq0.false) (sym (holds_not c.args.self.now.mapping c.if-self-eq0.false))
