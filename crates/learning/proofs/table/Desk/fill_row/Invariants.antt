use Rattle.std.proofs.Common.{◌≡◌, length, take}
use Rattle.rules.specs.Areas.{put}
use Rattle.rules.specs.Machine.{ask}
use Rattle.machine.specs.Linked.{linked}
use Rattle.learning.specs.Grid.{cells_from}
use Rattle.learning.proofs.table.Desk.fill_row.Given as goal

-- the cells before the turn's are there, and the row's word stands as it did
abbrev pub invariant-loop-c : goal.invariant-loop-c
invariant-loop-c l = record {
  size : length l.row ≡ length l.initial.row;
  word : take l.len l.word ≡ take l.len l.initial.word;
  cells : l.row ≡ put l.from (cells_from (ask (linked l.self.machine)) l.self.columns l.from l.c (take l.len l.initial.word)) l.initial.row;
}
