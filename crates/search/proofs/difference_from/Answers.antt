use Rattle.std.proofs.Common.{◌≡◌, ◌<◌, ◌+◌, ◌*◌, ◌++◌, ◌∷◌, [], ℕ, List, length, get_or, set, Some, sym, ap, ◌∙◌, arith, length-append}
use Rattle.std.proofs.Math.Path.{ap₂}
use Rattle.std.proofs.Math.Arith.{digits_lt}
use Rattle.std.proofs.Math.Option as paper
use Rattle.rules.specs.Areas.{put_store}
use Rattle.rules.specs.Machine.{lent}
use Rattle.rules.specs.Search.{starts}
use Rattle.rules.specs.Difference.{pair_step, pairs, difference}
use Rattle.rules.specs.DifferenceLaws.{found_short}
use Rattle.machine.specs.Linked.{linked}
use Rattle.search.specs.Pairs.{first_whole, second_whole, stays, under_ends, under_places, spelled, told, told_pairs, found_length, found_put}
use Rattle.search.proofs.difference_from.Goals as goal
use Rattle.search.proofs.difference_from.Goals.{After-first_apart, In_err-place, In_ok-place}

-- what was spelled is the least difference
is : (c : After-first_apart) → spelled c.explore.new.queue c.first_apart.result ≡ difference (linked c.args.machine.now) (linked c.args.other.now) c.args.machine.now.k c.args.s c.args.t
unfolding pairs lent
is c =
    let M = linked c.args.machine.now in
    let N = linked c.args.other.now in
    let k = c.args.machine.now.k in
    let start = c.args.s * c.args.other.now.n + c.args.t in
    sym (c.first_apart.ensures.word start) ∙ ap (told M N k start) c.explore.ensures ∙ told_pairs M N k c.args.s c.args.t

pub first_apart-requires : goal.first_apart-requires
first_apart-requires c =
    let machine = c.args.machine.now in
    let other = c.args.other.now in
    let B = c.requires.beside in
    let step = pair_step (linked machine) (linked other) in
    let start = c.args.s * other.n + c.args.t in
    let size = machine.n * other.n in
    let low : start < size = digits_lt c.requires.s_lt_n.0 c.requires.s_lt_n.1 in
    rw c.explore.ensures (under_places step start machine.k size (stays B) low size _ (under_ends step start machine.k size (stays B) low))

-- so nothing was found where there is no place
none_is : (c : In_err-place) → paper.none ≡ difference (linked c.args.machine.now) (linked c.args.other.now) c.args.machine.now.k c.args.s c.args.t
none_is c = ap (spelled c.explore.new.queue) (sym c.in_err-place.was) ∙ is (goal.at.In_err-place c).After-first_apart

pub returns-in_err-place-clause-value : goal.returns-in_err-place-clause-value
returns-in_err-place-clause-value c = c.from_residual.ensures ∙ ap found_length (none_is (goal.at.returns-in_err-place-clause-value c).In_err-place)

pub returns-in_err-place-clause-into_after : goal.returns-in_err-place-clause-into_after
returns-in_err-place-clause-into_after c = ap (λ o. found_put o c.args.into.now) (none_is (goal.at.returns-in_err-place-clause-into_after c).In_err-place)

-- the word of the place, and the letter
word : (c : In_ok-place) → List ℕ
word c = (get_or c.explore.new.queue c.in_ok-place.place (starts 0)).word

some_is : (c : In_ok-place) → paper.some (word c ++ (c.in_ok-place.letter ∷ [])) ≡ difference (linked c.args.machine.now) (linked c.args.other.now) c.args.machine.now.k c.args.s c.args.t
unfolding word
some_is c = ap (spelled c.explore.new.queue) (sym c.in_ok-place.was) ∙ is (goal.at.In_ok-place c).After-first_apart

short : (c : In_ok-place) → length (word c) + 1 < c.args.machine.now.n + c.args.other.now.n
unfolding lent
short c =
    let B = c.requires.beside in
    let M = linked c.args.machine.now in
    let N = linked c.args.other.now in
    let w = word c ++ (c.in_ok-place.letter ∷ []) in
    omega (
      arith,
      length-append (word c) (c.in_ok-place.letter ∷ []),
      found_short c.args.machine.now.k B.k_low M N (first_whole B) (second_whole B) c.args.s c.args.t c.requires.s_lt_n.0 c.requires.s_lt_n.1 w (sym (some_is c)),
    )

pub spell-end-requires-clause-room : goal.spell-end-requires-clause-room
unfolding word
spell-end-requires-clause-room c = omega (arith, short (goal.at.spell-end-requires-clause-room c).In_ok-place, c.requires.s_lt_n.2)

pub bounds-into-end : goal.bounds-into-end
unfolding word
bounds-into-end c = omega (arith, short (goal.at.bounds-into-end c).In_ok-place, c.spell-end.ensures.value, c.spell-end.auto, c.requires.s_lt_n.2)

pub overflow_add-result : goal.overflow_add-result
unfolding word
overflow_add-result c =
    let B = c.requires.beside in
    omega (arith, short (goal.at.overflow_add-result c).In_ok-place, c.spell-end.ensures.value, B.n_high, B.m_high)

pub returns-clause-value : goal.returns-clause-value
unfolding word
returns-clause-value c =
    let d = (goal.at.returns-clause-value c).In_ok-place in
    rw (← some_is d) (ap Some (omega (arith, c.spell-end.ensures.value, length-append (word d) (c.in_ok-place.letter ∷ []))))

pub returns-clause-into_after : goal.returns-clause-into_after
unfolding word
returns-clause-into_after c =
    let d = (goal.at.returns-clause-into_after c).In_ok-place in
    let a = c.in_ok-place.letter in
    rw (← some_is d)
    (ap₂ (λ (x : List ℕ) (j : ℕ). set x j a) c.spell-end.ensures.into_after c.spell-end.ensures.value
    ∙ put_store 0 (word d) a c.args.into.now (omega (arith, short d, c.requires.s_lt_n.2)))
