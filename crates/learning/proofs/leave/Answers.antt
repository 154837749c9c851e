use Rattle.std.proofs.Common.{List, ℕ, refl, ap, ◌∙◌, arith}
use Rattle.rules.specs.Answer.{refused}
use Rattle.learning.specs.Leaving.{left_by}
use Rattle.learning.proofs.Leaving.{leave_ten, leave_open, leave_done, leave_short, leave_long}
use Rattle.learning.proofs.leave.Goals as goal

pub returns-then-limit-states : goal.returns-then-limit-states
returns-then-limit-states c =
    let a = c.args in
    let L = a.desk.now.laid in
    ap (λ (t : List ℕ). left_by (refused 10) t a.sheet.now) c.zero.ensures ∙ leave_ten L.sound L.narrow c.requires.turn a.limit a.sheet.now (omega arith)

pub put_counterexample-requires : goal.put_counterexample-requires
put_counterexample-requires c =
    let a = c.args in
    let L = a.desk.now.laid in
    let short = leave_short L.sound L.narrow c.requires.turn a.limit a.sheet.now c.in-Some.length c.in-Some.is in
    let long = leave_long L.sound L.narrow c.requires.turn a.limit a.sheet.now c.in-Some.length c.in-Some.is in
    (omega arith, c.requires.room)

pub returns-in-Some : goal.returns-in-Some
returns-in-Some c =
    let a = c.args in
    let L = a.desk.now.laid in
    rw (c.len-states.ensures, c.len.ensures)
    (leave_open L.sound L.narrow c.requires.turn a.limit a.sheet.now c.in-Some.length c.in-Some.is (omega arith) _ _ refl c.put_counterexample.ensures)

pub returns : goal.returns
returns c =
    let a = c.args in
    let L = a.desk.now.laid in
    let x = rw c.len-states.ensures at c.finish-bytes.ensures in
    rw (c.len-states.ensures, c.len.ensures) (leave_done L.sound L.narrow c.requires.turn a.limit a.sheet.now (omega arith) c.in_default.is _ _ x.value x.sheet_after)
