use Rattle.std.proofs.Common.{◌≡◌, length, map}
use Rattle.rules.specs.Areas.{put}
use Rattle.rules.specs.Table.{from}
use Rattle.rules.specs.Numbering.{renumbered}
use Rattle.machine.specs.Linked.{linked}
use Rattle.finish.specs.Sheet.{word_of}
use Rattle.finish.proofs.numbered.Numbered.put_rows.Given as goal

-- the words before the turn's are put
abbrev pub invariant-loop-i : goal.invariant-loop-i
invariant-loop-i l = record {
  size : length l.words ≡ length l.initial.words;
  put : l.words ≡ put 0 (map (word_of l.self.machine.k (renumbered l.self.machine.k (linked l.self.machine))) (from 0 l.i)) l.initial.words;
}
