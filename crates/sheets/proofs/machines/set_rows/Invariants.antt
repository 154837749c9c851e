use Rattle.std.proofs.Common.{◌≡◌}
use Rattle.rules.specs.Areas.{put}
use Rattle.sheets.specs.Standing.{row_words}
use Rattle.sheets.proofs.machines.set_rows.Given as goal

-- the words of the rows so far are put
abbrev pub invariant-loop-row : goal.invariant-loop-row
invariant-loop-row l = l.area ≡ put 0 (row_words l.k l.row l.rows) l.initial.area
