use Rattle.std.proofs.Math.Path.{refl, sym}
use Rattle.machine.specs.LentLaws.{lent_sound, sound_steps}
use Rattle.machine.proofs.lent.Lent.new.Goals as goal

pub invariant_of-result : goal.invariant_of-result
invariant_of-result c =
    let a = c.args in
    record { steps = sound_steps (lent_sound a.n a.k a.words.now (sym c.in_ok-check.ensures)) }

pub returns-clause-machine : goal.returns-clause-machine
returns-clause-machine c =
    let a = c.args in
    (refl, refl, refl, lent_sound a.n a.k a.words.now (sym c.in_ok-check.ensures))
