use Rattle.std.proofs.Common.{◌≡◌, ℕ, ◌-◌, ◌<◌, length, get_or}
use Rattle.std.proofs.Math.Dec.{eqb}
use Rattle.rules.specs.Search.{starts, meet_all}
use Rattle.rules.specs.Difference.{pair_step}
use Rattle.machine.specs.Linked.{linked}
use Rattle.search.proofs.pairs.Pairs.meet_letters.Given as goal

-- the place stays, and the letters that are left do what is left
abbrev pub invariant-loop-a : goal.invariant-loop-a
invariant-loop-a l = record {
  there : l.at < length l.queue;
  same : get_or l.queue l.at (starts 0) ≡ get_or l.initial.queue l.at (starts 0);
  left : (start : ℕ) → meet_all eqb (pair_step (linked l.self.machine) (linked l.self.other)) start (get_or l.initial.queue l.at (starts 0)) l.a (l.self.machine.k - l.a) l.queue
      ≡ meet_all eqb (pair_step (linked l.self.machine) (linked l.self.other)) start (get_or l.initial.queue l.at (starts 0)) 0 l.self.machine.k l.initial.queue;
}
