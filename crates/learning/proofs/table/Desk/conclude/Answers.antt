use Rattle.std.proofs.Common.{ap, ◌∙◌, arith}
use Rattle.std.proofs.Math.Option.{Option}
use Rattle.rules.specs.Words.{Word}
use Rattle.search.specs.Pairs.{found_length, found_put}
use Rattle.learning.specs.Laid.{laid_size}
use Rattle.learning.specs.Modelled.{modelled, modelled_difference}
use Rattle.learning.specs.Desks.{Modelling}
use Rattle.learning.proofs.table.Desk.conclude.Goals as goal
use Rattle.learning.proofs.table.Desk.conclude.Goals.{After-conjecture}

-- the lent words are the conjecture's
made : (c : After-conjecture) → Modelling c.args.self.now c.conjecture.new.model
made c =
    let d = c.args.self.now in
    modelled d.laid.sound d.s d.columns c.requires.held.some c.requires.shut c.args.model.now c.conjecture.new.model (omega (arith, laid_size d.laid, c.requires.room))
    c.conjecture.ensures (omega (arith, c.conjecture.auto.model))

pub invariant_of-conjecture : goal.invariant_of-conjecture
invariant_of-conjecture c = record { steps = rw c.len.ensures (made (goal.at.invariant_of-conjecture c).After-conjecture).steps }

pub returns : goal.returns
returns c =
    let d = c.args.self.now in
    let K = made (goal.at.returns c).After-conjecture in
    let e = modelled_difference d.laid.sound d.s d.columns c.requires.held.some c.requires.shut K in
    let x = rw c.len.ensures at c.difference.ensures in
    record { modelled = K; value = x.value ∙ ap found_length e; found_after = x.into_after ∙ ap (λ (o : Option Word). found_put o c.args.found.now) e }
