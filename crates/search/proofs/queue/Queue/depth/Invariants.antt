use Rattle.std.proofs.Common.{◌≡◌, ◌+◌, ◌≤◌, length}
use Rattle.search.specs.Queue.{word_at}
use Rattle.search.proofs.queue.Queue.depth.Given as goal

abbrev pub invariant-loop-at : goal.invariant-loop-at
invariant-loop-at l = record {
  back : l.depth + l.at ≤ l.p;
  word : length (word_at l.self-inside.parent l.self-inside.letter l.p) ≡ l.depth + length (word_at l.self-inside.parent l.self-inside.letter l.at);
}

abbrev pub decreases-loop-at : goal.decreases-loop-at
decreases-loop-at l = l.at
