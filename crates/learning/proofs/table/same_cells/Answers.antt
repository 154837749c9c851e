use Rattle.rules.specs.Tests.{eqs_is}
use Rattle.learning.specs.Grid.{row_cells}
use native.Mathlib.Omega.{arith}
use mathlib.Core.Path.{◌≡◌}
use Prim.Native.Nat.{◌+◌, ◌*◌, ◌-◌}
use lib.ListN.{take, drop}
use Rattle.learning.proofs.table.same_cells.Goals as goal

pub returns : goal.returns
unfolding row_cells
returns c = let a = c.args in
    let t = a.table.now in
    let p : a.r * 59 + a.c - a.r * 59 ≡ a.c = omega arith in
    let q : a.q * 59 + a.c - a.q * 59 ≡ a.c = omega arith in
    let e = rw (p, q) at c.same.ensures in
    eqs_is c.same.result (take a.c (drop (a.r * 59) t)) (take a.c (drop (a.q * 59) t)) e.0 e.1
