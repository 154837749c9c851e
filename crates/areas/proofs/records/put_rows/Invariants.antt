use Rattle.std.proofs.Common.{◌≡◌, length}
use Rattle.rules.specs.Areas.{put}
use Rattle.rules.specs.Sheets.{row_bytes}
use Rattle.areas.proofs.records.put_rows.Given as goal

-- the rows before the turn's are put
abbrev pub invariant-loop-row : goal.invariant-loop-row
invariant-loop-row l = record {
  size : length l.area ≡ length l.initial.area;
  rows : l.area ≡ put l.at (row_bytes l.k l.row l.words) l.initial.area;
}
