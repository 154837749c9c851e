use Rattle.std.proofs.Common.{◌≡◌, ◌+◌, ◌-◌, ◌*◌, ◌≤◌, length, refl, sym, ◌∙◌, rules, arith}
use Rattle.rules.specs.Areas.{put_none}
use Rattle.rules.specs.Sheets.{row_bytes}
use Rattle.rules.specs.SheetLaws.{room, put_rows_more}
use Rattle.areas.proofs.records.put_rows.Goals as goal
use Rattle.areas.proofs.records.put_rows.Goals.{In-loop-row}

-- a row that is due has its words and its room
known : (c : In-loop-row) → let a = c.args in let l = c.loop-row in (l.row * a.k + a.k ≤ length a.words.now) × (a.at + l.row * (2 + 2 * a.k) + (2 + 2 * a.k) ≤ length a.area.now)
known c =
    let a = c.args in
    let l = c.loop-row in (
      omega (arith, room l.row a.rows a.k c.loop-row-test.true),
      omega
          (arith, room l.row a.rows (2 + 2 * a.k) c.loop-row-test.true),
    )

pub loop-row-init : goal.loop-row-init
unfolding row_bytes
loop-row-init c = let a = c.args in record { size = refl; rows = sym (put_none a.at a.area.now) }

pub loop-row-preserved : goal.loop-row-preserved
loop-row-preserved c =
    let a = c.args in
    let l = c.loop-row in
    let k = known (goal.at.loop-row-preserved c).In-loop-row in
    let size : l.row * a.k + a.k - l.row * a.k ≡ a.k = omega arith in record {
      size = search rules;
      rows =
          c.put_row.ensures
          ∙ rw (size, l.invariant.rows) (put_rows_more a.at a.k l.row a.words.now a.area.now k.0 k.1);
    }
