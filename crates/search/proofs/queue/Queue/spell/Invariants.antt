use Rattle.std.proofs.Common.{◌≡◌, ℕ, ◌+◌, ◌≤◌, List, ◌++◌, length}
use Rattle.rules.specs.Areas.{put}
use Rattle.search.specs.Queue.{word_at}
use Rattle.search.proofs.queue.Queue.spell.Given as goal

-- the letters after those of the place at hand are put
abbrev pub invariant-loop-q : goal.invariant-loop-q
invariant-loop-q l = record {
  back : l.q ≤ l.p;
  size : length l.into ≡ length l.initial.into;
  left : l.i ≡ l.at + length (word_at l.self-inside.parent l.self-inside.letter l.q);
  rest : List ℕ;
  word : word_at l.self-inside.parent l.self-inside.letter l.p ≡ word_at l.self-inside.parent l.self-inside.letter l.q ++ rest;
  put : l.into ≡ put l.i rest l.initial.into;
}

abbrev pub decreases-loop-q : goal.decreases-loop-q
decreases-loop-q l = l.q
