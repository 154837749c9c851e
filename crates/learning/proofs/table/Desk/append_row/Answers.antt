use Rattle.std.proofs.Common.{refl, ◌≡◌, ◌+◌, ◌*◌, ◌≤◌, ◌<◌, length, take, sym, ap, ap₂, ◌∙◌, rules, arith, length-take-le}
use Rattle.rules.specs.Areas.{put_part, put_length}
use Rattle.rules.specs.Table.{row}
use Rattle.learning.specs.Laid.{laid_short}
use Rattle.learning.specs.Desk.{laid_more, held_more}
use Rattle.learning.proofs.table.Desk.append_row.Goals as goal
use Rattle.learning.proofs.table.Desk.append_row.Goals.{After-row_word-len, After-push, After-fill_rows}

-- the row's word stands at the start of the buffer
spelled : (c : After-row_word-len) → let d = c.args.self.now in
    (take c.row_word-len.result c.row_word-len.new.word ≡ row d.machine.k d.s c.args.r) × (c.row_word-len.result < 48) × (c.row_word-len.result ≤ length c.row_word-len.new.word)
spelled c =
    let d = c.args.self.now in
    let w = row d.machine.k d.s c.args.r in
    let e = c.row_word-len.ensures in
    let short = laid_short d.laid c.args.r c.requires.there.0 in
    let fits : 0 + length w ≤ 48 = omega (arith, c.requires.there.1, d.laid.sound.n_high) in (
      ap₂ take e.value e.word_after ∙ put_part 0 w _ fits,
      omega (arith, e.value, c.requires.there.1, d.laid.sound.n_high),
      omega (arith, e.value, ap length e.word_after ∙ put_length 0 w _ fits),
    )

pub slice_bounds-word-end : goal.slice_bounds-word-end
slice_bounds-word-end c = (spelled (goal.at.slice_bounds-word-end c).After-row_word-len).2

pub slice_bounds-push-end : goal.slice_bounds-push-end
slice_bounds-push-end c = sym (length-take-le _ _ (spelled (goal.at.slice_bounds-push-end c).After-row_word-len).2)

pub push-requires : goal.push-requires
push-requires c =
    let e = spelled (goal.at.push-requires c).After-row_word-len in
    let size = length-take-le c.row_word-len.result c.row_word-len.new.word e.2 in
    search (rules, arith)

pub invariant_of-self : goal.invariant_of-self
invariant_of-self c =
    let d = c.args.self.now in
    let e = spelled (goal.at.invariant_of-self c).After-row_word-len in
    record { laid = rw (c.push.ensures, e.0, c.len-m.ensures) (laid_more d.laid c.requires.held c.args.r c.requires.there.0 c.requires.there.1) }

pub returns : goal.returns
returns c =
    let d = c.args.self.now in
    let e = spelled (goal.at.returns c).After-row_word-len in
    let more : 1 + (length d.s + 1) * d.machine.k ≡ 1 + length d.s * d.machine.k + d.machine.k = omega arith in
    let x = held_more d.laid c.requires.held c.args.r c.requires.there.0 c.requires.there.1 (rw (c.len-m.ensures, more, c.push.ensures, e.0) at c.fill_rows.ensures) in
    record { held_after = rw (c.push.ensures, e.0) x; same = (refl, refl); words = rw (c.push.ensures, e.0) }
