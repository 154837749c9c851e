use Rattle.std.proofs.Common.{◌≡◌, length, map}
use Rattle.rules.specs.Areas.{put}
use Rattle.rules.specs.Table.{from}
use Rattle.rules.specs.Numbering.{model_state}
use Rattle.machine.specs.Linked.{linked}
use Rattle.finish.proofs.numbered.Numbered.put_map.Given as goal

-- the numbers for the states before the turn's are put
abbrev pub invariant-loop-state : goal.invariant-loop-state
invariant-loop-state l = record {
  size : length l.sheet ≡ length l.initial.sheet;
  put : l.sheet ≡ put l.at (map (model_state l.other.machine.k (linked l.other.machine) (linked l.self.machine)) (from 0 l.state)) l.initial.sheet;
}
