use Rattle.rules.specs.Machine.{lent}
use Rattle.machine.proofs.lent.Lent.next.Goals as goal

pub returns : goal.returns
unfolding lent
returns c = record {
  value = c.next.ensures;
  there = rw c.next.ensures (c.args.self.now.steps.next c.args.state c.args.a c.requires.0 c.requires.1);
}
