use Rattle.std.proofs.Common.{◌<◌, ◌≤◌, ◌-◌, ℕ, List, sym, ap, ◌∙◌, arith, add-one}
use Rattle.std.proofs.Math.Path.{ap₂}
use Rattle.rules.specs.Words.{Word}
use Rattle.rules.specs.Search.{Entry}
use Rattle.search.specs.Queue.{known, count_is, onward_is, joined, joined_old, joined_new, room, holds_new, entries_new}
use Rattle.search.proofs.queue.Queue.meet.Goals as goal
use Rattle.search.proofs.queue.Queue.meet.Goals.{Else-self-x}

-- the place it was met from is one of the queue's, or the first
from : (c : Else-self-x) → c.args.from ≤ c.self.inside.count - 1
from c = let q = c.self.inside in omega (arith, count_is q.nodes q.parent q.letter q.count _ c.self.view_is, c.requires.2)

-- so there is room
free : (c : Else-self-x) → c.self.inside.count < 2304
free c = room c.self.invariant c.args.x c.args.from c.args.a c.requires.0 c.if-self-x.false (from c)

pub returns-then-self-x : goal.returns-then-self-x
returns-then-self-x c =
    let q = c.self.inside in
    let marks = c.self.invariant.marks c.args.x c.requires.0 in
    sym (joined_old _ c.args.x _ (ap (known c.args.x) (sym c.self.view_is) ∙ sym marks ∙ c.if-self-x.true))

pub offset_bounds-self-inside-place : goal.offset_bounds-self-inside-place
offset_bounds-self-inside-place c = omega (arith, free (goal.at.offset_bounds-self-inside-place c).Else-self-x)

pub bounds-self-inside-place : goal.bounds-self-inside-place
bounds-self-inside-place c = free (goal.at.bounds-self-inside-place c).Else-self-x

pub offset_bounds-self-inside-place-2 : goal.offset_bounds-self-inside-place-2
offset_bounds-self-inside-place-2 c = omega (arith, free (goal.at.offset_bounds-self-inside-place-2 c).Else-self-x)

pub bounds-self-inside-place-2 : goal.bounds-self-inside-place-2
bounds-self-inside-place-2 c = free (goal.at.bounds-self-inside-place-2 c).Else-self-x

pub bounds-self-inside-place-3 : goal.bounds-self-inside-place-3
bounds-self-inside-place-3 c = free (goal.at.bounds-self-inside-place-3 c).Else-self-x

pub overflow_cast-self-2 : goal.overflow_cast-self-2
overflow_cast-self-2 c = let e = (goal.at.overflow_cast-self-2 c).Else-self-x in omega (arith, free e, from e)

pub overflow_add-self : goal.overflow_add-self
overflow_add-self c = omega (arith, free (goal.at.overflow_add-self c).Else-self-x)

pub invariant_of-self : goal.invariant_of-self
invariant_of-self c =
    let a = c.args in
    rw add-one (holds_new c.self.invariant a.x a.from a.a c.requires.0 c.if-self-x.false (from (goal.at.invariant_of-self c).Else-self-x))

pub returns : goal.returns
returns c =
    let a = c.args in
    let q = c.self.inside in
    rw add-one
    (entries_new c.self.invariant a.x a.from a.a c.requires.0 c.if-self-x.false (from (goal.at.returns c).Else-self-x)
    ∙ sym (joined_new _ a.x _ (sym (c.self.invariant.marks a.x c.requires.0) ∙ c.if-self-x.false))
    ∙ ap₂ (λ (l : List (Entry ℕ)) (w : Word). joined l a.x w) c.self.view_is (onward_is q.nodes q.parent q.letter q.count _ c.self.view_is a.from a.a c.requires.2))
