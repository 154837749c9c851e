use Rattle.std.proofs.Common.{◌+◌, ◌-◌, ◌++◌, ◌∷◌, [], ℕ, List, length, get_or, sym, ap, ◌∙◌, arith, length-append}
use Rattle.std.proofs.Math.Path.{ap₂}
use Rattle.std.proofs.Math.Dec.{eqb}
use Rattle.std.proofs.Math.ListN.{get_or-append}
use Rattle.std.proofs.lemmas.List.{get_or_default}
use Rattle.rules.specs.Search.{Entry, starts, meet_all}
use Rattle.rules.specs.Difference.{pair_step}
use Rattle.machine.specs.Linked.{linked}
use Rattle.search.specs.Queue.{joined, onward_later, joined_grown, letter_tried, letters_over}
use Rattle.search.proofs.pairs.Pairs.meet_letters.Goals as goal

pub loop-a-preserved : goal.loop-a-preserved
loop-a-preserved c =
    let a = c.args in
    let l = c.loop-a in
    let k = a.self.now.machine.k in
    let e = get_or a.queue.now a.at (starts 0) in
    let step = pair_step (linked a.self.now.machine) (linked a.self.now.other) in
    let word = onward_later (length l.queue) (get_or l.queue a.at (starts 0)).word l.a (omega (arith, l.invariant.there)) ∙ ap (λ (e : Entry ℕ). e.word ++ (l.a ∷ [])) l.invariant.same in
    let node = c.next.ensures.value ∙ ap (λ (x : ℕ). step x l.a) c.node-x.ensures in
    let now = c.meet.ensures ∙ ap₂ (joined l.queue) node word in
    let g = joined_grown l.queue (step e.node l.a) (e.word ++ (l.a ∷ [])) in
    let grown = now ∙ g.1 in record {
      there = rw (grown, length-append) (omega (arith, l.invariant.there));
      same = ap (λ (q : List (Entry ℕ)). get_or q a.at (starts 0)) grown ∙ get_or-append l.queue g.0 (starts 0) a.at l.invariant.there ∙ l.invariant.same;
      left = λ start. ap (meet_all eqb step start e (l.a + 1) (k - (l.a + 1))) now ∙ sym (letter_tried step start e k l.a l.queue c.loop-a-test.true) ∙ l.invariant.left start;
    }

pub returns : goal.returns
returns c =
    let a = c.args in
    let l = c.loop-a in
    let k = a.self.now.machine.k in
    let e = get_or a.queue.now a.at (starts 0) in
    let step = pair_step (linked a.self.now.machine) (linked a.self.now.other) in
    λ start.
    rw (get_or_default a.queue.now a.at (starts start) (starts 0) c.requires.0)
    (sym (letters_over step start e k l.a l.queue c.loop-a-test.false) ∙ l.invariant.left start)
