use Rattle.std.proofs.Common.{◌≡◌}
use Rattle.learning.specs.Turns.{Reached}
use Rattle.learning.proofs.table.Desk.rounds.Given as goal

-- the desk holds the table of the stop that as many rounds allow
abbrev pub invariant-loop-past : goal.invariant-loop-past
invariant-loop-past l = record {
  machine : l.self.machine ≡ l.fn.self.machine;
  reached : let m = l.fn.self.machine in Reached m.n m.k m.words.now l.past l.self.s l.self.columns l.table;
}
