use Rattle.std.proofs.Common.{◌<◌, ◌+◌, length, refl, arith, length-set}
use Rattle.rules.specs.Records.{put_from_none_at, put_from_at}
use Rattle.rules.specs.Numbering.{model_state}
use Rattle.machine.specs.Linked.{linked}
use Rattle.finish.proofs.numbered.Numbered.put_map.Goals as goal

pub loop-state-init : goal.loop-state-init
loop-state-init c =
    let a = c.args in
    let n = a.other.now in
    record { size = refl; put = put_from_none_at (model_state n.machine.k (linked n.machine) (linked a.self.now.machine)) a.at a.sheet.now }

pub loop-state-preserved : goal.loop-state-preserved
loop-state-preserved c =
    let a = c.args in
    let l = c.loop-state in
    let n = a.other.now in
    let there : a.at + l.state < length a.sheet.now = omega (arith, c.loop-state-test.true, c.requires.room) in record {
      size = simp length-set l.invariant.size;
      put = put_from_at (model_state n.machine.k (linked n.machine) (linked a.self.now.machine)) a.at l.state c.map_state.result l.sheet a.sheet.now there l.invariant.put c.map_state.ensures;
    }
