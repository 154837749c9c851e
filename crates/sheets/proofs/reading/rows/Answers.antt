use Rattle.std.proofs.Common.{◌≡◌, ◌-◌, ◌+◌, sym, ◌∙◌, arith}
use Rattle.std.proofs.lemmas.Grind.{common_steps}
use Rattle.sheets.specs.Reading.{rows}
use Rattle.sheets.specs.Rests.{rows_stop, rows_go}
use Rattle.sheets.proofs.reading.rows.Goals as goal

pub returns-in_err-rest : goal.returns-in_err-rest
returns-in_err-rest c =
    let a = c.args in
    let h = c.loop.invariant ∙ rows_stop _ (a.r - c.loop.counter) (omega arith) a.n a.k _ c.in_err-rest.ensures in
    grind (arith, common_steps)

pub loop-preserved : goal.loop-preserved
loop-preserved c =
    let a = c.args in
    let l = c.loop in
    let left : a.r - l.counter - 1 ≡ a.r - (l.counter + 1) = omega arith in
    rw (← left) (l.invariant ∙ rows_go l.rest.now (a.r - l.counter) (omega arith) a.n a.k _ c.in_ok-rest.ensures)

pub returns : goal.returns
unfolding rows
returns c =
    let z : c.args.r - c.loop.counter ≡ 0 = omega arith in
    sym (rw z at c.loop.invariant)
