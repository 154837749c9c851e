use Rattle.std.proofs.Common.{rules, ◌≡◌, ◌+◌, ◌-◌, length, sym, ◌∙◌, arith}
use Rattle.sheets.specs.WordSteps.{place_next, place_within, place_end}
use Rattle.sheets.proofs.proofs.record_place.Goals as goal

pub overflow_add-place : goal.overflow_add-place
overflow_add-place c =
    let w = place_within c.args.bytes.now c.loop.place (c.args.j - c.loop.counter) (length c.args.bytes.now) (omega arith) (rw c.loop.invariant at c.requires) in
    search rules

pub bounds-bytes-place : goal.bounds-bytes-place
bounds-bytes-place c =
    let w = place_within c.args.bytes.now c.loop.place (c.args.j - c.loop.counter) (length c.args.bytes.now) (omega arith) (rw c.loop.invariant at c.requires) in
    omega arith

pub overflow_add-place-in-loop-2 : goal.overflow_add-place-in-loop-2
overflow_add-place-in-loop-2 c =
    let w = place_within c.args.bytes.now c.loop.place (c.args.j - c.loop.counter) (length c.args.bytes.now) (omega arith) (rw c.loop.invariant at c.requires) in
    rw c.from.ensures (search rules)

pub loop-preserved : goal.loop-preserved
loop-preserved c =
    let l = c.loop in
    let left : c.args.j - l.counter - 1 ≡ c.args.j - (l.counter + 1) = omega arith in
    rw (c.from.ensures, ← left) (l.invariant ∙ place_next c.args.bytes.now l.place (c.args.j - l.counter) (omega arith))

pub returns : goal.returns
returns c =
    let z : c.args.j - c.loop.counter ≡ 0 = omega arith in
    sym ((rw z at c.loop.invariant) ∙ place_end c.args.bytes.now c.loop.place)
