use Rattle.std.proofs.Common.{◌≡◌, ◌-◌}
use Rattle.sheets.specs.Reading.{rows}
use Rattle.sheets.specs.Rests.{follows}
use Rattle.sheets.proofs.reading.rows.Given as goal

-- the rows come out as those that are left do
abbrev pub invariant-loop : goal.invariant-loop
invariant-loop l = follows (rows l.n l.k l.r l.bytes) ≡ follows (rows l.n l.k (l.r - l.counter) l.rest)
