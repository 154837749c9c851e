use Rattle.std.proofs.Common.{◌<◌, ◌*◌, length, replicate, refl, ap, ◌∙◌, arith}
use Rattle.rules.specs.Machine.{lent}
use Rattle.rules.specs.Alone.{alone}
use Rattle.rules.specs.Difference.{pairs, pair_step}
use Rattle.machine.specs.Lent.{link}
use Rattle.machine.specs.Linked.{linked}
use Rattle.machine.specs.LentLaws.{steps_complete}
use Rattle.search.specs.Pairs.{step_low, under_ends, under_few}
use Rattle.search.specs.Listing.{still, zeros_at, listed, listed_reached}
use Rattle.search.proofs.numbering.Numbering.number.Goals as goal

pub list-requires-clause-few : goal.list-requires-clause-few
unfolding lent
list-requires-clause-few c =
    let machine = c.args.machine.now in
    let k = machine.k in
    let M = linked machine in
    let T = link 1 k (replicate 12 0) in
    let stays = step_low M T (steps_complete machine.steps) (steps_complete (still 12 k c.requires.2)) in
    let low : 0 < machine.n * 1 = omega (arith, machine.steps.some) in
    omega (
      arith,
      c.requires.0,
      ap length c.explore.ensures,
      under_few (pair_step M T) 0 k (machine.n * 1) stays low (machine.n * 1) _ (under_ends (pair_step M T) 0 k (machine.n * 1) stays low),
    )

pub returns : goal.returns
unfolding pairs lent
returns c =
    let machine = c.args.machine.now in
    let k = machine.k in
    let T = link 1 k (replicate 12 0) in
    c.list.ensures ∙ ap listed (c.explore.ensures ∙ alone k (linked machine) T refl (λ b. rw zeros_at (omega arith))) ∙ listed_reached k (linked machine)
