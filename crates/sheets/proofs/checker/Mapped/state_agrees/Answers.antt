use Rattle.std.proofs.Common.{rules, refl, sym, ◌∙◌, arith}
use Rattle.std.proofs.lemmas.Iterator.{YieldsList-from_range}
use Rattle.std.proofs.lemmas.Iterator.Search.{all_from_yields_List}
use Rattle.std.proofs.iter.Serving.{serving}
use Rattle.machine.specs.Linked.{linked}
use Rattle.sheets.specs.Checker.{step_agrees}
use Rattle.sheets.specs.CheckerParts.{mapped_by}
use Rattle.sheets.proofs.CheckerSteps.{all_ranged, has_state, agrees_none, agrees_from}
use Rattle.sheets.proofs.checker.Mapped.state_agrees.Goals as goal

pub all-requires-clause-callable : goal.all-requires-clause-callable
all-requires-clause-callable c =
    let h = has_state c.args.self.now.mapping c.args.s c.requires c.if-self-s.false in
    grind serving

pub returns-then-self-s : goal.returns-then-self-s
returns-then-self-s c =
    rw c.if-self-s.true (sym (agrees_none c.args.self.now.mapping c.args.s c.requires c.if-self-s.true))

pub returns-else-self-s : goal.returns-else-self-s
returns-else-self-s c =
    let g = c.args.self.now in
    all_from_yields_List (step_agrees (linked g.machine) (mapped_by g) c.args.s) _ _ c.all.result c.all.ensures.ran (YieldsList-from_range 0 g.machine.k g.machine.k refl (omega arith))
    (λ x b q k. search rules)
    ∙ all_ranged (step_agrees (linked g.machine) (mapped_by g) c.args.s) 0 g.machine.k
    ∙ sym (agrees_from g.mapping c.args.s c.requires c.if-self-s.false)
