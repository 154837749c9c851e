use Rattle.std.proofs.Common.{◌≡◌}
use Rattle.rules.specs.Table.{one_letter}
use Rattle.learning.proofs.rounds.one_letter.Given as goal

-- the letters before the turn's are there
abbrev pub invariant-loop-a : goal.invariant-loop-a
invariant-loop-a l = l.columns ≡ one_letter l.a
