use Rattle.std.proofs.Common.{◌-◌, ◌/◌, ◌<◌, [], length, get_or, refl, sym, arith, div-lt_iff_lt-mul}
use Rattle.rules.specs.Areas.{put_none}
use Rattle.rules.specs.Table.{row}
use Rattle.learning.specs.Grid.{row_put}
use Rattle.learning.proofs.table.Desk.row_word.Goals as goal
use Rattle.learning.proofs.table.Desk.row_word.Goals.{Else-r-eq0}

-- the row's word of S is there, and has fewer letters than S words
short : (c : Else-r-eq0) → let d = c.args.self.now in length (get_or d.s ((c.args.r - 1) / d.machine.k) []) < 48
short c =
    let d = c.args.self.now in
    let j : (c.args.r - 1) / d.machine.k < length d.s = (div-lt_iff_lt-mul d.laid.sound.k_low).1 (omega arith) in
    omega (arith, d.laid.short ((c.args.r - 1) / d.machine.k) j, d.laid.sound.n_high)

pub returns-then-r-eq0 : goal.returns-then-r-eq0
unfolding row
returns-then-r-eq0 c = rw c.if-r-eq0.true (record { value = refl; word_after = sym (put_none 0 c.args.word.now) })

pub returns : goal.returns
returns c =
    let d = c.args.self.now in
    let few = short (goal.at.returns c).Else-r-eq0 in
    let p = row_put d.machine.k d.s c.args.r _ _ c.args.word.now (omega arith)
    c.copy_word-end.ensures.value c.copy_word-end.ensures.area_after (omega arith) in
    record { value = p.0; word_after = p.1 }
