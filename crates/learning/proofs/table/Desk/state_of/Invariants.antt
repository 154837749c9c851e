use Rattle.std.proofs.Common.{◌≡◌, length}
use Rattle.rules.specs.Seek.{seek_on}
use Rattle.learning.specs.Grid.{state_in, same_as}
use Rattle.learning.proofs.table.Desk.state_of.Given as goal

-- none of the words before the turn's has these cells
abbrev pub invariant-loop-j : goal.invariant-loop-j
invariant-loop-j l =
    state_in 59 l.table l.self.rows (length l.self.s) (length l.self.columns) l.r
    ≡ seek_on (same_as 59 l.table l.self.rows (length l.self.columns) l.r) (length l.self.s) l.j
