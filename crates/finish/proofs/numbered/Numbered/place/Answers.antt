use Rattle.std.proofs.Common.{◌≡◌, ℕ, List, Some, eqb, sym, ap, ◌∙◌, arith}
use Rattle.std.specs.List.{position}
use Rattle.rules.specs.Machine.{lent}
use Rattle.rules.specs.Numbering.{order, place}
use Rattle.rules.specs.SameNumbering.{order_few}
use Rattle.machine.specs.Linked.{linked}
use Rattle.machine.specs.LentLaws.{steps_complete}
use Rattle.finish.proofs.Sheet.{place_there}
use Rattle.finish.proofs.numbered.Numbered.place.Goals as goal
use Rattle.finish.proofs.numbered.Numbered.place.Goals.{After-place}

there : (c : After-place) → c.place.result ≡ Some (place (order c.args.self.now.machine.k (linked c.args.self.now.machine)) c.args.state)
there c =
    let n = c.args.self.now in
    let states = ap (λ l. l.states) n.listed in
    c.place.ensures ∙ ap (λ (xs : List ℕ). position (λ (x : ℕ). eqb x c.args.state) xs) states ∙ place_there (order n.machine.k (linked n.machine)) c.args.state c.requires

pub unwrap-requires : goal.unwrap-requires
unwrap-requires c = rw (there c)

pub returns-clause-value : goal.returns-clause-value
returns-clause-value c = let e = sym c.unwrap.ensures ∙ there (goal.at.returns-clause-value c).After-place in cc

pub returns-clause-low : goal.returns-clause-low
unfolding lent
returns-clause-low c =
    let n = c.args.self.now in
    let e = sym c.unwrap.ensures ∙ there (goal.at.returns-clause-low c).After-place in
    let p : c.unwrap.result ≡ place (order n.machine.k (linked n.machine)) c.args.state = cc in
    omega (arith, p, c.requires, order_few n.machine.k (linked n.machine) (steps_complete n.machine.steps), n.sizes.0)
