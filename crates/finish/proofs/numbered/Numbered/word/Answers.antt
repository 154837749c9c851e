use Rattle.std.proofs.Common.{◌≡◌, ◌<◌, ◌/◌, ◌%◌, get_or, length, ap, ◌∙◌, div-lt_iff_lt-mul, mod-lt}
use Rattle.rules.specs.Machine.{lent}
use Rattle.rules.specs.Numbering.{order, renumbered}
use Rattle.rules.specs.SameNumbering.{order_low}
use Rattle.machine.specs.Linked.{linked}
use Rattle.machine.specs.LentLaws.{steps_complete}
use Rattle.finish.proofs.Sheet.{placed_next}
use Rattle.finish.proofs.numbered.Numbered.word.Goals as goal
use Rattle.finish.proofs.numbered.Numbered.word.Goals.{After-state-state}

-- the state at hand is a numbered one, and the letter is there
here : (c : After-state-state) → let n = c.args.self.now in (c.args.i / n.machine.k < length (order n.machine.k (linked n.machine))) × (c.args.i % n.machine.k < n.machine.k)
here c = let n = c.args.self.now in ((div-lt_iff_lt-mul n.sizes.1).1 c.requires, mod-lt c.args.i n.sizes.1)

state_is : (c : After-state-state) → let n = c.args.self.now in c.state-state.result ≡ get_or (order n.machine.k (linked n.machine)) (c.args.i / n.machine.k) 0
state_is c = let n = c.args.self.now in c.state-state.ensures ∙ ap (λ l. get_or l.states (c.args.i / n.machine.k) 0) n.listed

known : (c : After-state-state) → (c.state-state.result < c.args.self.now.machine.n) × (c.args.i % c.args.self.now.machine.k < c.args.self.now.machine.k)
unfolding lent
known c =
    let n = c.args.self.now in
    let low = order_low n.machine.k (linked n.machine) (steps_complete n.machine.steps) (c.args.i / n.machine.k) (here c).0 in
    (rw (state_is c) low, (here c).1)

pub next-next-requires : goal.next-next-requires
next-next-requires c = known c

pub place-requires : goal.place-requires
place-requires c =
    let n = c.args.self.now in
    let e = (goal.at.place-requires c).After-state-state in
    rw (c.next-next.ensures.value, state_is e)
    (placed_next n.machine.k (linked n.machine) (steps_complete n.machine.steps) (c.args.i / n.machine.k) (c.args.i % n.machine.k) (here e).0 (here e).1)

pub output-requires : goal.output-requires
output-requires c = known (goal.at.output-requires c).After-state-state

pub returns : goal.returns
unfolding renumbered
returns c =
    let e = (goal.at.returns c).After-state-state in
    c.word.ensures ∙ rw (c.place.ensures.value, c.output.ensures, c.next-next.ensures.value, state_is e)
