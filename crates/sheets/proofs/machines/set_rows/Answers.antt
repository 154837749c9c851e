use Rattle.std.proofs.Common.{◌≡◌, ◌+◌, ◌*◌, sym, ◌∙◌, arith}
use Rattle.rules.specs.Areas.{put_none}
use Rattle.rules.specs.SheetLaws.{room}
use Rattle.sheets.specs.Rests.{from_on}
use Rattle.sheets.specs.Standing.{row_words, set_rows_more}
use Rattle.sheets.proofs.machines.set_rows.Goals as goal

pub loop-row-init : goal.loop-row-init
unfolding row_words
loop-row-init c = sym (put_none 0 c.args.area.now)

pub loop-row-preserved : goal.loop-row-preserved
loop-row-preserved c =
    let a = c.args in
    let l = c.loop-row in
    let z : 0 + l.row * (2 + 2 * a.k) + 2 ≡ l.row * (2 + 2 * a.k) + 2 = omega arith in
    c.set_pairs.ensures ∙ rw (from_on (l.row * (2 + 2 * a.k) + 2) a.rows.now, l.invariant)
    (rw z at (set_rows_more 0 a.k l.row a.rows.now a.area.now (omega (arith, room l.row a.count a.k c.loop-row-test.true))))
