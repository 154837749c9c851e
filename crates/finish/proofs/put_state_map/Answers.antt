use Rattle.std.proofs.Common.{◌+◌, map, ap, ◌∙◌, arith}
use Rattle.rules.specs.Areas.{put, put_put}
use Rattle.rules.specs.Machine.{lent}
use Rattle.rules.specs.Numbering.{model_state, state_map}
use Rattle.rules.specs.Sheets.{SM}
use Rattle.rules.specs.Table.{from}
use Rattle.machine.specs.Linked.{linked}
use Rattle.finish.proofs.Sheet.{map_length}
use Rattle.finish.proofs.put_state_map.Goals as goal

pub returns-clause-sheet_after : goal.returns-clause-sheet_after
unfolding state_map lent
returns-clause-sheet_after c =
    let a = c.args in
    let M = linked a.machine.now in
    let C = linked a.model.now.machine in
    let k = a.machine.now.k in
    c.put_map.ensures
    ∙ ap (put (a.at + 2) (map (model_state k M C) (from 0 a.machine.now.n))) c.put_mark.ensures
    ∙ put_put a.at SM (state_map k M C) a.sheet.now (omega (arith, map_length k M C, c.requires.room))
