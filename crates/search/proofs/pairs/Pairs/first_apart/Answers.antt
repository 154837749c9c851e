use Rattle.std.proofs.Common.{◌≡◌, ◌*◌, ◌<◌, length, sym, ap, ◌∙◌, arith, subst}
use Rattle.rules.specs.Difference.{pair_apart}
use Rattle.machine.specs.Linked.{linked}
use Rattle.search.specs.Pairs.{Alike, alike_starts, alike_more, told_here, told_none}
use Rattle.search.proofs.pairs.Pairs.first_apart.Goals as goal
use Rattle.search.proofs.pairs.Pairs.first_apart.Goals.{In-loop-place}

-- the place of the turn is one of the queue's
there : (c : In-loop-place) → c.loop-place.place < length c.args.queue.now
there c = omega (arith, c.loop-place-test.true, c.len-place-end.ensures.length)

pub loop-place-init : goal.loop-place-init
loop-place-init c =
    let p = c.args.self.now in
    let M = linked p.machine in
    let N = linked p.other in
    let z : 0 ≡ 0 * p.machine.k = omega arith in
    λ start. subst (Alike M N p.machine.k start c.args.queue.now) z (alike_starts M N p.machine.k start c.args.queue.now)

pub returns-then-apart-clause-word : goal.returns-then-apart-clause-word
returns-then-apart-clause-word c =
    let p = c.args.self.now in
    let differ = ap (λ x. pair_apart (linked p.machine) (linked p.other) x c.loop-letter.letter) (sym c.node-x.ensures) ∙ sym c.if-apart.ensures in
    λ start.
    told_here (linked p.machine) (linked p.other) p.machine.k start c.args.queue.now c.loop-place.place c.loop-letter.letter
    (there (goal.at.returns-then-apart-clause-word c).In-loop-place) c.loop-letter-test.true (c.loop-letter.invariant start) differ

pub loop-letter-preserved : goal.loop-letter-preserved
loop-letter-preserved c =
    let p = c.args.self.now in
    let alike = ap (λ x. pair_apart (linked p.machine) (linked p.other) x c.loop-letter.letter) (sym c.node-x.ensures) ∙ sym c.if-apart.ensures in
    λ start.
    alike_more (linked p.machine) (linked p.other) p.machine.k start c.args.queue.now c.loop-place.place c.loop-letter.letter
    (there (goal.at.loop-letter-preserved c).In-loop-place) c.loop-letter-test.true (c.loop-letter.invariant start) alike

pub returns-clause-word : goal.returns-clause-word
returns-clause-word c =
    let p = c.args.self.now in
    let all : c.loop-place.place ≡ length c.args.queue.now = omega (arith, c.loop-place-test.false, c.loop-place.auto, c.len-place-end.ensures.length) in
    λ start. told_none (linked p.machine) (linked p.other) p.machine.k start c.args.queue.now (rw all at (c.loop-place.invariant start))
