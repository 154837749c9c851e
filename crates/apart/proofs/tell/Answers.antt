use Rattle.std.proofs.Common.{◌<◌, take, replicate, sym, arith, length-take-le}
use Rattle.rules.specs.Machine.{lent}
use Rattle.machine.specs.Linked.{linked}
use Rattle.machine.specs.LentLaws.{steps_complete}
use Rattle.apart.specs.ApartLaws.{Found, word_found}
use Rattle.apart.proofs.tell.Goals as goal
use Rattle.apart.proofs.tell.Goals.{In_ok-size}

-- the first letters of what was written are the word that was found
known : (c : In_ok-size) → let m = c.args.machine.now in Found m.k (linked m) c.args.s c.args.t (take c.in_ok-size.size c.difference_from.new.into) × (c.in_ok-size.size < m.n)
unfolding lent
known c =
    let m = c.args.machine.now in
    let p = c.requires.there in
    let d = c.in_ok-size.ensures in
    let B = c.requires.beside in
    word_found m.k B.k_low (linked m) (steps_complete m.steps) c.args.s c.args.t p.0 p.1 c.in_ok-size.size (replicate 96 0) c.difference_from.new.into
    (omega (arith, B.n_high)) d.value d.into_after

pub slice_bounds-found-end : goal.slice_bounds-found-end
slice_bounds-found-end c =
    let low = (known (goal.at.slice_bounds-found-end c).In_ok-size).1 in
    omega (arith, low, c.requires.beside.n_high, c.difference_from.auto)

pub slice_bounds-name-end : goal.slice_bounds-name-end
slice_bounds-name-end c =
    let low = (known (goal.at.slice_bounds-name-end c).In_ok-size).1 in
    sym (length-take-le _ _ (omega (arith, low, c.requires.beside.n_high, c.difference_from.auto)))

pub name-requires : goal.name-requires
unfolding lent
name-requires c =
    let f = (known (goal.at.name-requires c).In_ok-size).0 in
    (c.requires.there.0, c.requires.there.1, f.letters, omega (arith, f.short, c.requires.beside.n_high, c.requires.there.2))

pub returns : goal.returns
returns c = rw (known (goal.at.returns c).In_ok-size).0.is c.name.ensures
