use Rattle.std.proofs.Common.{ap, ◌∙◌, arith}
use Rattle.search.specs.Queue.{count_is, place_is, within}
use Rattle.search.proofs.queue.Queue.node.Goals as goal

pub offset_bounds-nodes-p : goal.offset_bounds-nodes-p
offset_bounds-nodes-p c =
    let q = c.self.inside in
    omega (arith, count_is q.nodes q.parent q.letter q.count _ c.self.view_is, within c.self.invariant)

pub bounds-nodes-p : goal.bounds-nodes-p
bounds-nodes-p c =
    let q = c.self.inside in
    omega (arith, count_is q.nodes q.parent q.letter q.count _ c.self.view_is, within c.self.invariant)

pub returns : goal.returns
returns c =
    let q = c.self.inside in
    c.from.ensures ∙ ap (λ e. e.node) (place_is q.nodes q.parent q.letter q.count _ c.self.view_is c.args.p c.requires)
