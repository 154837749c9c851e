use Rattle.std.proofs.Common.{length, ap, arith}
use Rattle.search.specs.Queue.{count_is, place_is, within, word_short}
use Rattle.search.proofs.queue.Queue.len.Goals as goal

pub returns : goal.returns
returns c =
    let q = c.self.inside in
    let n = count_is q.nodes q.parent q.letter q.count _ c.self.view_is in record {
      length = n;
      few = omega (arith, n, within c.self.invariant);
      short = λ p h. let w = ap (λ e. length e.word) (place_is q.nodes q.parent q.letter q.count _ c.self.view_is p h) in omega (arith, w, word_short q.parent q.letter p);
    }
