use Rattle.std.proofs.Common.{◌≡◌, ◌-◌, length}
use Rattle.learning.specs.ClosingLaws.{Closing}
use Rattle.learning.proofs.table.Desk.close.Given as goal

abbrev pub invariant-loop-r : goal.invariant-loop-r
invariant-loop-r l = record {
  machine : l.self.machine ≡ l.initial.self.machine;
  columns : l.self.columns ≡ l.initial.self.columns;
  closing : let d = l.initial.self in Closing d.machine.n d.machine.k d.machine.words.now d.s d.columns l.self.s l.self.rows l.table l.from;
}

abbrev pub decreases-loop-r : goal.decreases-loop-r
decreases-loop-r l = l.initial.self.machine.n - length l.self.s
