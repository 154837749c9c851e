use Rattle.std.proofs.Common.{◌≡◌, map, length}
use Rattle.rules.specs.Areas.{put}
use Rattle.rules.specs.Table.{from}
use Rattle.learning.specs.Grid.{guess_in}
use Rattle.learning.proofs.table.Desk.conjecture.Given as goal

-- the words before the turn's are put
abbrev pub invariant-loop-i : goal.invariant-loop-i
invariant-loop-i l = record {
  size : length l.model ≡ length l.initial.model;
  words : l.model ≡ put 0 (map (guess_in 59 l.table l.self.rows (length l.self.s) l.self.machine.k (length l.self.columns)) (from 0 l.i)) l.initial.model;
}
