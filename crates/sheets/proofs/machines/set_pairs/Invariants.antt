use Rattle.std.proofs.Common.{◌≡◌}
use Rattle.rules.specs.Areas.{put}
use Rattle.sheets.specs.Standing.{pair_words}
use Rattle.sheets.proofs.machines.set_pairs.Given as goal

-- the words so far are put
abbrev pub invariant-loop-i : goal.invariant-loop-i
invariant-loop-i l = l.area ≡ put l.from (pair_words l.i l.pairs) l.initial.area
