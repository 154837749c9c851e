use Rattle.std.proofs.Common.{◌≡◌, get_or, refl, sym, ◌∙◌}
use Rattle.rules.specs.Tests.{is_true, is_false}
use Rattle.machine.specs.Lent.{link}
use Rattle.sheets.proofs.CheckerSteps.{step_at}
use Rattle.sheets.proofs.checker.Mapped.step_agrees.Goals as goal

pub returns-then-output : goal.returns-then-output
returns-then-output c =
    let a = c.args in
    let g = a.self.now in
    let out : (link g.machine.n g.machine.k g.machine.words.now).out a.s a.a ≡ (link g.model.n g.machine.k g.model.words.now).out (get_or g.map.now a.s 0) a.a =
    rw (g.letters, c.from-state.ensures) at (sym c.output.ensures ∙ c.if-output.true ∙ c.output-2.ensures) in
    let state = c.from.ensures in
    let next = rw (g.letters, c.from-state.ensures) at c.next-then-output.ensures.value in
    rw (state, c.next.ensures.value, next) (sym (step_at g.mapping a.s a.a c.requires.0 c.requires.1 ∙ rw (is_true _ _ out) refl))

pub returns-else-output : goal.returns-else-output
returns-else-output c =
    let a = c.args in
    let g = a.self.now in
    let model = rw (g.letters, c.from-state.ensures) at c.output-2.ensures in
    is_false _ _ c.if-output.false
    ∙ sym (step_at g.mapping a.s a.a c.requires.0 c.requires.1 ∙ rw (is_false _ _ (λ q. c.if-output.false (c.output.ensures ∙ q ∙ sym model))) refl)
