use Rattle.std.proofs.Common.{◌≡◌, ◌+◌, ◌*◌, ◌≤◌, length}
use Rattle.text.specs.Putting.{Put}
use Rattle.report.specs.Report.{pair_lines}
use Rattle.report.proofs.put_pairs.Given as goal

-- the lines of the pairs before the turn's are put
abbrev pub invariant-loop-i : goal.invariant-loop-i
invariant-loop-i l = record {
  size : length l.area ≡ length l.initial.area;
  near : l.place ≤ l.at + 24 * l.i;
  lines : Put l.at (pair_lines l.k l.sheet l.i) l.initial.area l.place l.area;
}
