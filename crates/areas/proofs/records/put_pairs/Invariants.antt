use Rattle.std.proofs.Common.{◌≡◌, length, take}
use Rattle.rules.specs.Areas.{put}
use Rattle.rules.specs.Sheets.{pair_bytes}
use Rattle.areas.proofs.records.put_pairs.Given as goal

-- the pairs of the words before the turn's are put
abbrev pub invariant-loop-i : goal.invariant-loop-i
invariant-loop-i l = record {
  size : length l.area ≡ length l.initial.area;
  pairs : l.area ≡ put l.at (pair_bytes (take l.i l.words)) l.initial.area;
}
