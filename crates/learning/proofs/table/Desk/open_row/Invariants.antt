use Rattle.std.proofs.Common.{◌≡◌, ◌+◌, ◌*◌, length}
use Rattle.rules.specs.Seek.{seek_on}
use Rattle.learning.specs.Grid.{open_in, is_open}
use Rattle.learning.proofs.table.Desk.open_row.Given as goal

-- none of the rows before the turn's is open
abbrev pub invariant-loop-r : goal.invariant-loop-r
invariant-loop-r l =
    open_in 59 l.table l.self.rows (length l.self.s) (length l.self.columns) l.from (1 + length l.self.s * l.self.machine.k)
    ≡ seek_on (is_open 59 l.table l.self.rows (length l.self.s) (length l.self.columns)) (1 + length l.self.s * l.self.machine.k) l.r
