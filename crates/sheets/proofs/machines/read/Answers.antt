use Rattle.std.proofs.Common.{length-drop, sym, ap, arith}
use Rattle.std.proofs.lemmas.Grind.{common_steps}
use Rattle.sheets.specs.Machines.{Size}
use Rattle.sheets.specs.Rests.{from_on}
use Rattle.sheets.specs.MachineSteps.{sized_refused, sized_sound, sheet_sized, read_refused, read_small, read_done}
use Rattle.sheets.proofs.machines.read.Goals as goal

pub returns-in_err-n : goal.returns-in_err-n
returns-in_err-n c =
    let a = c.args in
    let h = read_refused a.bytes.now a.area.now _ (sized_refused a.bytes.now _ (sym c.in_err-n.ensures)) in
    grind (arith, common_steps)

pub returns-then-area-lt576 : goal.returns-then-area-lt576
returns-then-area-lt576 c =
    let a = c.args in
    sym (read_small a.bytes.now a.area.now (sized_sound a.bytes.now _ (sym c.in_ok-n.ensures)).0 c.if-area-lt576.true)

pub slice_bounds-set_rows-count : goal.slice_bounds-set_rows-count
slice_bounds-set_rows-count c =
    let b = c.args.bytes.now in
    omega (arith, (sheet_sized b (sized_sound b _ (sym c.in_ok-n.ensures)).0).0)

pub slice_bounds-set_rows-start : goal.slice_bounds-set_rows-start
slice_bounds-set_rows-start c =
    let b = c.args.bytes.now in
    omega (arith, (sheet_sized b (sized_sound b _ (sym c.in_ok-n.ensures)).0).0)

pub set_rows-requires : goal.set_rows-requires
set_rows-requires c =
    let b = c.args.bytes.now in
    let h = sized_sound b _ (sym c.in_ok-n.ensures) in
    let s = sheet_sized b h.0 in
    let n = ap (λ (s : Size). s.n) h.1 in
    let k = ap (λ (s : Size). s.k) h.1 in
    rw (n, k, from_on 4 b) (record { k_in_bounds = omega arith; k_in_bounds_2 = omega (arith, length-drop 4 b) })

pub returns : goal.returns
returns c =
    let a = c.args in
    let h = sized_sound a.bytes.now _ (sym c.in_ok-n.ensures) in
    let n = ap (λ (s : Size). s.n) h.1 in
    let k = ap (λ (s : Size). s.k) h.1 in
    rw (c.set_rows.ensures, n, k, from_on 4 a.bytes.now) (sym (read_done a.bytes.now a.area.now h.0 (omega arith)))
