use Rattle.std.proofs.Common.{◌≡◌, ◌+◌, ◌*◌, ◌-◌, ◌≤◌, take, drop, ap, ap₂, ◌∙◌, rules, arith}
use Rattle.rules.specs.Areas.{put, put_part}
use Rattle.rules.specs.Table.{row, cells}
use Rattle.rules.specs.Words.{Word}
use Rattle.rules.specs.Machine.{ask}
use Rattle.machine.specs.Linked.{linked}
use Rattle.learning.specs.Grid.{filled_row}
use Rattle.learning.specs.Laid.{laid_short, laid_below}
use Rattle.learning.proofs.table.Desk.fill_rows.Goals as goal
use Rattle.learning.proofs.table.Desk.fill_rows.Goals.{After-row_word-len}

-- the row's word stands at the start of the buffer, and leaves room for a column
known : (c : After-row_word-len) → let d = c.args.self.now in (take c.row_word-len.result c.row_word-len.new.word ≡ row d.machine.k d.s c.loop-r.r) × (c.row_word-len.result ≤ 48)
known c =
    let d = c.args.self.now in
    let w = row d.machine.k d.s c.loop-r.r in
    let e = c.row_word-len.ensures in
    let short = laid_short d.laid c.loop-r.r (omega arith) in (
      ap₂ take e.value e.word_after ∙ put_part 0 w c.loop-r.word (omega (arith, d.laid.few, d.laid.sound.n_high)),
      omega (arith, e.value, d.laid.few, d.laid.sound.n_high),
    )

pub fill_row-requires-clause-room : goal.fill_row-requires-clause-room
fill_row-requires-clause-room c = ((known (goal.at.fill_row-requires-clause-room c).After-row_word-len).1, search rules)

pub fill_row-requires-clause-letters : goal.fill_row-requires-clause-letters
fill_row-requires-clause-letters c =
    rw (known (goal.at.fill_row-requires-clause-letters c).After-row_word-len).0 (laid_below c.args.self.now.laid c.loop-r.r (omega arith))

pub loop-r-preserved : goal.loop-r-preserved
loop-r-preserved c =
    let a = c.args in
    let d = a.self.now in
    let l = c.loop-r in
    let q = ask (linked d.machine) in
    let F = filled_row q d.machine.k d.s d.columns a.first l.r a.from a.table.now l.table c.fill_row.new.row (omega arith) c.requires.from_in d.laid.narrow (omega arith)
    (c.fill_row.ensures ∙ ap (λ (x : Word). put a.from (cells q (drop a.from d.columns) x) (take (l.r * 59 + 59 - l.r * 59) (drop (l.r * 59) l.table))) (known (goal.at.loop-r-preserved c).After-row_word-len).0)
    l.invariant.filled in
    record { size = F.size; filled = F }
