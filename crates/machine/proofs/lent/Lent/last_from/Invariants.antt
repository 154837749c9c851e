use Rattle.std.proofs.Common.{◌≡◌, ◌<◌, drop}
use Rattle.rules.specs.Machine.{last_from}
use Rattle.machine.specs.Linked.{linked}
use Rattle.machine.proofs.lent.Lent.last_from.Given as goal

-- what is left of the word leads on from the state, and from the output that was last
abbrev pub invariant-loop-a : goal.invariant-loop-a
invariant-loop-a l = record {
  state : l.state < l.self.n;
  last : last_from (linked l.self) 0 l.state-2 l.w ≡ last_from (linked l.self) l.output l.state (drop l.a-index l.w);
}
