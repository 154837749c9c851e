use Rattle.std.proofs.Common.{length, sym, ap, ◌∙◌, arith, length-take-le}
use Rattle.search.proofs.numbering.Numbering.len.Goals as goal

pub returns-clause-states : goal.returns-clause-states
returns-clause-states c =
    let n = c.self.inside in
    let e = length-take-le (length n.words) n.states (omega (arith, c.self.invariant.0, c.self.invariant.1)) in
    c.len.ensures ∙ sym e ∙ ap (λ l. length l.states) c.self.view_is
