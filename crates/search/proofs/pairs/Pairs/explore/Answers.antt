use Rattle.std.proofs.Common.{◌≡◌, ◌*◌, ◌<◌, ◌∷◌, [], length, ◌∙◌, arith}
use Rattle.rules.specs.Search.{starts}
use Rattle.rules.specs.Difference.{pair_step}
use Rattle.machine.specs.Linked.{linked}
use Rattle.search.specs.Queue.{joined_first}
use Rattle.search.specs.Pairs.{stays, under_starts, under_next, under_over, under_places}
use Rattle.search.proofs.pairs.Pairs.explore.Goals as goal

pub loop-at-init : goal.loop-at-init
loop-at-init c =
    let p = c.args.self.now in
    let start = c.args.start in
    let first : c.meet.new.self ≡ starts start ∷ [] = c.meet.ensures ∙ rw c.requires.none (joined_first start) in
    rw first (under_starts (pair_step (linked p.machine) (linked p.other)) start p.machine.k (p.machine.n * p.other.n) (stays p.beside) c.requires.start_bound)

pub meet_letters-requires : goal.meet_letters-requires
meet_letters-requires c =
    let p = c.args.self.now in
    let l = c.loop-at in
    let there : l.at < length l.queue = omega (arith, c.loop-at-test.true, c.len.ensures.length) in (
      there,
      under_places (pair_step (linked p.machine) (linked p.other)) c.args.start p.machine.k (p.machine.n * p.other.n) (stays p.beside) c.requires.start_bound l.at l.queue l.invariant l.at there,
    )

pub loop-at-preserved : goal.loop-at-preserved
loop-at-preserved c =
    let p = c.args.self.now in
    let l = c.loop-at in
    let there : l.at < length l.queue = omega (arith, c.loop-at-test.true, c.len.ensures.length) in
    rw (c.meet_letters.ensures c.args.start)
    (under_next (pair_step (linked p.machine) (linked p.other)) c.args.start p.machine.k (p.machine.n * p.other.n) (stays p.beside) c.requires.start_bound l.at l.queue l.invariant there)

pub returns : goal.returns
returns c =
    let p = c.args.self.now in
    let l = c.loop-at in
    under_over (pair_step (linked p.machine) (linked p.other)) c.args.start p.machine.k (p.machine.n * p.other.n) (stays p.beside) c.requires.start_bound l.at l.queue l.invariant
    (omega (arith, c.loop-at-test.false, c.len.ensures.length))
