use Rattle.std.proofs.Common.{Some, ◌≡◌, ◌+◌, ◌-◌, ℕ, length-take, refl, sym, ap, ◌∙◌, arith}
use Rattle.rules.specs.Links.{stopped}
use Rattle.machine.specs.Linked.{linked}
use Rattle.machine.specs.declared.lent.Lent.{Lent}
use Rattle.learning.specs.Desks.{differing}
use Rattle.learning.specs.Turns.{Turn, reached_first, turn_made, turn_shut, turn_stays, turn_none, turn_left, turn_room, turn_ready, turn_on}
use Rattle.learning.proofs.table.Desk.rounds.Goals as goal
use Rattle.learning.proofs.table.Desk.rounds.Goals.{After-conclude, In-Some}

-- the turn's conjecture and counterexample
turn : (c : After-conclude) → let m = c.args.self.now.machine in let l = c.loop-past in
    Turn m.n m.k m.words.now l.past l.self.s l.self.columns l.table c.conclude.new.model c.conclude.new.found c.conclude.result
turn c =
    let L = c.loop-past.invariant in
    let x = rw L.machine at c.conclude.ensures in
    turn_made c.args.self.now.laid.sound c.loop-past.found L.reached x.modelled x.value x.found_after (omega arith)

pub loop-past-init : goal.loop-past-init
loop-past-init c =
    let x = c.begin.ensures in record {
      machine = x.machine;
      reached = reached_first c.args.self.now.laid.sound (rw x.machine at x.held) x.columns x.words;
    }

pub conclude-requires-clause-shut : goal.conclude-requires-clause-shut
conclude-requires-clause-shut c =
    let L = c.loop-past.invariant in
    rw L.machine (turn_shut c.args.self.now.laid.sound c.loop-past.past _ _ L.reached.S-is L.reached.E-is)

pub returns-in_default-clause-turn : goal.returns-in_default-clause-turn
returns-in_default-clause-turn c = rw c.loop-past.invariant.machine (rw c.in_default.is at (turn (goal.at.returns-in_default-clause-turn c).After-conclude))

pub returns-in_default-clause-stop : goal.returns-in_default-clause-stop
returns-in_default-clause-stop c =
    let d = c.args.self.now in
    let p = c.loop-past.past in
    let none = turn_none d.laid.sound (rw c.in_default.is at (turn (goal.at.returns-in_default-clause-stop c).After-conclude)) in
    let most : p + (c.args.most - p) ≡ c.args.most = omega arith in
    ap (stopped d.machine.k (linked d.machine)) (sym most) ∙ turn_stays d.laid.sound p (c.args.most - p) none

-- the counterexample that is left
left : (c : In-Some) → let m = c.args.self.now.machine in let l = c.loop-past in
    Turn m.n m.k m.words.now l.past l.self.s l.self.columns l.table c.conclude.new.model c.conclude.new.found (Some c.in-Some.length)
left c =
    let L = c.loop-past.invariant in
    let x = rw L.machine at c.conclude.ensures in
    rw c.in-Some.is at (turn_made c.args.self.now.laid.sound c.loop-past.found L.reached x.modelled x.value x.found_after (omega arith))

pub slice_bounds-round-end : goal.slice_bounds-round-end
slice_bounds-round-end c =
    let long = (turn_left c.args.self.now.laid.sound c.in-Some.length (left (goal.at.slice_bounds-round-end c).In-Some)).long in
    omega (arith, length-take {A = ℕ}, long)

pub slice_bounds-round-end-in-loop-past : goal.slice_bounds-round-end-in-loop-past
slice_bounds-round-end-in-loop-past c =
    sym (turn_left c.args.self.now.laid.sound c.in-Some.length (left (goal.at.slice_bounds-round-end-in-loop-past c).In-Some)).long

pub round-requires-clause-ready : goal.round-requires-clause-ready
round-requires-clause-ready c =
    let L = c.loop-past.invariant in
    differing c.loop-past.self c.args.self.now.machine _ _ L.machine
    (turn_ready c.args.self.now.laid.sound c.in-Some.length (left (goal.at.round-requires-clause-ready c).In-Some) _ refl c.len.ensures (ap (λ (m : Lent). m.k) L.machine))

pub round-requires-clause-room : goal.round-requires-clause-room
round-requires-clause-room c = turn_room c.args.self.now.laid.sound c.in-Some.length (left (goal.at.round-requires-clause-room c).In-Some)

pub loop-past-preserved : goal.loop-past-preserved
loop-past-preserved c =
    let L = c.loop-past.invariant in
    let x = c.round.ensures in
    let machine = x.machine ∙ L.machine in record {
      machine = machine;
      reached =
          turn_on c.args.self.now.laid.sound c.in-Some.length (left (goal.at.loop-past-preserved c).In-Some) (rw machine at x.held_after) (rw L.machine at x.columns) (rw L.machine at x.words);
    }

pub conclude-left-requires-clause-shut : goal.conclude-left-requires-clause-shut
conclude-left-requires-clause-shut c =
    let L = c.loop-past.invariant in
    rw L.machine (turn_shut c.args.self.now.laid.sound c.loop-past.past _ _ L.reached.S-is L.reached.E-is)

pub returns-clause-turn : goal.returns-clause-turn
returns-clause-turn c =
    let L = c.loop-past.invariant in
    let x = rw L.machine at c.conclude-left.ensures in
    let end : c.loop-past.past ≡ c.args.most = omega arith in
    rw L.machine (rw end at (turn_made c.args.self.now.laid.sound c.loop-past.found L.reached x.modelled x.value x.found_after (omega arith)))
