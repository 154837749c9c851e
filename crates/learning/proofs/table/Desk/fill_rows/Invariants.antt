use Rattle.std.proofs.Common.{◌≡◌, length}
use Rattle.rules.specs.Machine.{ask}
use Rattle.machine.specs.Linked.{linked}
use Rattle.learning.specs.Grid.{cell_of, Filled}
use Rattle.learning.proofs.table.Desk.fill_rows.Given as goal

-- the rows before the turn's are filled
abbrev pub invariant-loop-r : goal.invariant-loop-r
invariant-loop-r l = record {
  size : length l.table ≡ length l.initial.table;
  filled : Filled 59 (cell_of (ask (linked l.self.machine)) l.self.machine.k l.self.s l.self.columns) l.first l.r l.from (length l.self.columns) l.initial.table l.table;
}
