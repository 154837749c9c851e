use Rattle.std.proofs.Common.{◌≡◌, ◌*◌, ◌-◌, drop}
use Rattle.sheets.specs.Reading.{pairs}
use Rattle.sheets.specs.Steps.{outcome}
use Rattle.sheets.proofs.reading.pairs.Given as goal

-- the pairs come out as those that are left do
abbrev pub invariant-loop-i : goal.invariant-loop-i
invariant-loop-i l = outcome (pairs l.n l.k l.bytes) ≡ outcome (pairs l.n (l.k - l.i) (drop (2 * l.i) l.bytes))
