use Rattle.std.proofs.Common.{◌<◌, length, sym, ◌∙◌, arith}
use Rattle.rules.specs.Seek.{seek_starts, seek_passes, seek_hits, seek_ends}
use Rattle.learning.specs.Grid.{state_in, same_as}
use Rattle.learning.proofs.table.Desk.state_of.Goals as goal

pub loop-j-init : goal.loop-j-init
unfolding state_in
loop-j-init c = let d = c.args.self.now in sym (seek_starts (same_as 59 c.args.table.now d.rows (length d.columns) c.args.r) (length d.s))

pub returns-then-same_cells : goal.returns-then-same_cells
returns-then-same_cells c =
    let d = c.args.self.now in
    let l = c.loop-j in
    let here : l.j < length d.s = omega arith in (
      l.invariant ∙ seek_hits (same_as 59 c.args.table.now d.rows (length d.columns) c.args.r) (length d.s) l.j here (rw c.len.ensures at (sym c.same_cells.ensures ∙ c.if-same_cells.true)),
      here,
    )

pub loop-j-preserved : goal.loop-j-preserved
loop-j-preserved c =
    let d = c.args.self.now in
    let l = c.loop-j in
    l.invariant ∙ seek_passes (same_as 59 c.args.table.now d.rows (length d.columns) c.args.r) (length d.s) l.j (omega arith) (rw c.len.ensures at (sym c.same_cells.ensures ∙ c.if-same_cells.false))

pub returns : goal.returns
returns c =
    let d = c.args.self.now in
    let l = c.loop-j in
    omega (arith, l.invariant ∙ seek_ends (same_as 59 c.args.table.now d.rows (length d.columns) c.args.r) (length d.s) l.j (omega arith))
