use Rattle.std.proofs.Common.{◌≡◌, ◌≤◌, ◌+◌, ◌*◌, length, take}
use Rattle.rules.specs.Areas.{put}
use Rattle.rules.specs.Sheets.{words_bytes}
use Rattle.finish.specs.Sheet.{mark_of}
use Rattle.finish.proofs.put_records.Given as goal

-- the records of the words before the turn's are put
abbrev pub invariant-loop-j : goal.invariant-loop-j
invariant-loop-j g l = record {
  size : length l.sheet ≡ length l.initial.sheet;
  end : l.end ≡ l.at + length (words_bytes (mark_of l.mark) (take l.j l.words));
  few : length (words_bytes (mark_of l.mark) (take l.j l.words)) ≤ l.j * (g.row.WIDTH + 2);
  put : l.sheet ≡ put l.at (words_bytes (mark_of l.mark) (take l.j l.words)) l.initial.sheet;
}
