use Rattle.std.proofs.Common.{arith, sym}
use Rattle.std.proofs.lemmas.Grind.{common_steps}
use Rattle.sheets.specs.MachineSteps.{write_small, write_done}
use Rattle.sheets.specs.Machines.{write_machine}
use Rattle.sheets.proofs.machines.write.Goals as goal

pub returns-in_err-machine : goal.returns-in_err-machine
unfolding write_machine
returns-in_err-machine c = rw (← c.in_err-machine.ensures.refusal) (grind (arith, common_steps))

pub returns-then-area-lt1252 : goal.returns-then-area-lt1252
returns-then-area-lt1252 c =
    let a = c.args in
    sym (write_small a.n a.k a.words.now a.area.now (sym c.in_ok-machine.ensures.refusal) (omega arith))

pub returns : goal.returns
returns c =
    let a = c.args in
    let m = c.in_ok-machine.ensures.machine in
    let h = sym (write_done a.n a.k a.words.now a.area.now (sym c.in_ok-machine.ensures.refusal) (omega arith)) in
    grind (arith, common_steps)
