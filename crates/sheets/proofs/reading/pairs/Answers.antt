use Rattle.std.proofs.Common.{◌≡◌, ◌+◌, ◌*◌, ◌-◌, ◌∙◌, length, drop, take_all, length-drop, refl, arith}
use Rattle.sheets.specs.Reading.{pairs}
use Rattle.sheets.specs.Steps.{came_bad, pairs_took, pairs_refused, pairs_passed, pairs_end}
use Rattle.sheets.proofs.reading.pairs.Goals as goal

pub returns-then-n-from : goal.returns-then-n-from
returns-then-n-from c =
    let a = c.args in
    let l = c.loop-i in
    let e = l.invariant ∙ pairs_refused a.bytes.now (2 * l.i) (omega arith) a.n (a.k - l.i) (omega arith) (omega (arith, c.from.ensures)) in
    rw (came_bad (pairs a.n a.k a.bytes.now) 4 e) refl

pub loop-i-preserved : goal.loop-i-preserved
loop-i-preserved c =
    let a = c.args in
    let l = c.loop-i in
    let left : a.k - l.i - 1 ≡ a.k - (l.i + 1) = omega arith in
    let at : 2 * l.i + 2 ≡ 2 * (l.i + 1) = omega arith in
    rw (← left, ← at) (l.invariant ∙ pairs_passed a.bytes.now (2 * l.i) (omega arith) a.n (a.k - l.i) (omega arith) (omega (arith, c.from.ensures)))

pub returns : goal.returns
returns c =
    let a = c.args in
    let l = c.loop-i in
    let z : a.k - l.i ≡ 0 = omega arith in
    let e = (rw z at l.invariant) ∙ pairs_end a.n _ in
    let k : 0 + 2 * a.k ≡ 2 * a.k = omega arith in
    rw ((pairs_took a.bytes.now 0 (omega arith) a.n a.k e).is, k, take_all (length a.bytes.now - 2 * a.k) (drop (2 * a.k) a.bytes.now) (omega (arith, length-drop (2 * a.k) a.bytes.now))) refl
