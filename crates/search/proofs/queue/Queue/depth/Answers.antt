use Rattle.std.proofs.Common.{◌≡◌, ◌<◌, ◌≤◌, length, ap, ◌∙◌, arith}
use Rattle.search.specs.Queue.{count_is, place_is, within, word_at, word_start, word_longer}
use Rattle.search.proofs.queue.Queue.depth.Goals as goal
use Rattle.search.proofs.queue.Queue.depth.Goals.{In-loop-at}

-- the place at hand is one of the queue's
used : (c : In-loop-at) → (c.loop-at.at < c.self.inside.count) × (c.self.inside.count ≤ 2304)
used c =
    let q = c.self.inside in
    (omega (arith, count_is q.nodes q.parent q.letter q.count _ c.self.view_is, c.loop-at.invariant.back), within c.self.invariant)

pub offset_bounds-self-inside-at : goal.offset_bounds-self-inside-at
offset_bounds-self-inside-at c = omega (arith, (used c).0, (used c).1)

pub bounds-self-inside-at : goal.bounds-self-inside-at
bounds-self-inside-at c = let u = used (goal.at.bounds-self-inside-at c).In-loop-at in omega (arith, u.0, u.1)

pub loop-at-smaller : goal.loop-at-smaller
loop-at-smaller c =
    let u = used (goal.at.loop-at-smaller c).In-loop-at in
    omega (arith, c.from-at.ensures, c.self.invariant.earlier c.loop-at.at c.loop-at-test.true u.0)

pub loop-at-preserved : goal.loop-at-preserved
loop-at-preserved c =
    let q = c.self.inside in
    let l = c.loop-at in
    let E = c.self.invariant.earlier in
    let u = used (goal.at.loop-at-preserved c).In-loop-at in
    rw c.from-at.ensures (record {
      back = omega (arith, E l.at c.loop-at-test.true u.0);
      word = omega (arith, l.invariant.word, word_longer q.parent q.letter l.at (λ p h s. E p h (omega (arith, u.0))) c.loop-at-test.true);
    })

pub returns : goal.returns
returns c =
    let q = c.self.inside in
    let l = c.loop-at in
    let z : l.at ≡ 0 = omega (arith, c.loop-at-test.false) in
    let start = ap (λ p. length (word_at q.parent q.letter p)) z ∙ ap length (word_start q.parent q.letter) in
    let word = ap (λ e. length e.word) (place_is q.nodes q.parent q.letter q.count _ c.self.view_is c.args.p c.requires) in
    omega (arith, l.invariant.word, start, word)
