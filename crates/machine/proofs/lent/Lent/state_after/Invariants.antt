use Rattle.std.proofs.Common.{◌≡◌, ◌<◌, drop}
use Rattle.rules.specs.Search.{walk}
use Rattle.machine.specs.Linked.{linked}
use Rattle.machine.proofs.lent.Lent.state_after.Given as goal

-- what is left of the word leads on from the state
abbrev pub invariant-loop-a : goal.invariant-loop-a
invariant-loop-a l = record {
  state : l.state < l.self.n;
  walked : walk (linked l.self).next 0 l.w ≡ walk (linked l.self).next l.state (drop l.a-index l.w);
}
