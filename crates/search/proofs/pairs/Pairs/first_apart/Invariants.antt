use Rattle.std.proofs.Common.{ℕ, ◌+◌, ◌*◌}
use Rattle.machine.specs.Linked.{linked}
use Rattle.search.specs.Pairs.{Alike}
use Rattle.search.proofs.pairs.Pairs.first_apart.Given as goal

-- none differ before the letter, or the place, of the turn
abbrev pub invariant-loop-letter : goal.invariant-loop-letter
invariant-loop-letter l = (start : ℕ) → Alike (linked l.self.machine) (linked l.self.other) l.self.machine.k start l.queue (l.place * l.self.machine.k + l.letter)

abbrev pub invariant-loop-place : goal.invariant-loop-place
invariant-loop-place l = (start : ℕ) → Alike (linked l.self.machine) (linked l.self.other) l.self.machine.k start l.queue (l.place * l.self.machine.k)
