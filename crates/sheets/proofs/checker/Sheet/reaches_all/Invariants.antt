use Rattle.std.proofs.Common.{◌≡◌, ◌-◌}
use Rattle.rules.specs.Tests.{all_from}
use Rattle.machine.specs.Linked.{linked}
use Rattle.sheets.specs.CheckerSteps.{reached}
use Rattle.sheets.specs.Held.{said}
use Rattle.sheets.specs.ProofParts.{reaching_place}
use Rattle.sheets.proofs.checker.Sheet.reaches_all.Given as goal

-- the words of the states that are left begin here, and all states are reached if those are
abbrev pub invariant-loop-state : goal.invariant-loop-state
invariant-loop-state l = record {
  place : l.place ≡ reaching_place (said l.self.bytes.now) l.state;
  left : all_from (reached (linked l.self.model) (said l.self.bytes.now)) 0 l.self.model.n
      ≡ all_from (reached (linked l.self.model) (said l.self.bytes.now)) l.state (l.self.model.n - l.state);
}
