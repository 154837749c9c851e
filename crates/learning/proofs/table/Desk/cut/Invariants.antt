use Rattle.std.proofs.Common.{◌≡◌, ◌-◌, ◌<◌, length, take}
use Rattle.rules.specs.Search.{walk}
use Rattle.rules.specs.Seek.{seek_on}
use Rattle.machine.specs.Linked.{linked}
use Rattle.learning.specs.Desks.{asked}
use Rattle.learning.specs.Cut.{swapped_in, differs, cut_in}
use Rattle.learning.proofs.table.Desk.cut.Given as goal

-- the answers before the turn's do not differ; the conjecture's state and the answer of the turn are at hand
abbrev pub invariant-loop-i : goal.invariant-loop-i
invariant-loop-i l = record {
  low : l.state < l.model.n;
  walked : l.state ≡ walk (linked l.model).next 0 (take l.i l.w);
  here : l.here ≡ swapped_in (asked l.self) l.self.s (linked l.model).next l.w l.i;
  sought : cut_in (asked l.self) l.self.s (linked l.model).next l.w ≡ seek_on (differs (asked l.self) l.self.s (linked l.model).next l.w) (length l.w - 1) l.i;
}
