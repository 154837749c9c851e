use Rattle.std.proofs.Common.{◌≡◌, ◌<◌, [], length, get_or, sym, ap, ◌∙◌, arith}
use Rattle.rules.specs.Words.{Below}
use Rattle.rules.specs.Search.{walk}
use Rattle.rules.specs.Numbering.{order, place, reaching_words}
use Rattle.rules.specs.NumberingLaws.{letters, placed}
use Rattle.machine.specs.Linked.{linked}
use Rattle.machine.specs.LentLaws.{steps_complete, below_letters}
use Rattle.finish.proofs.Sheet.{found_place, found_none, mapped, unmapped, words_number}
use Rattle.finish.proofs.numbered.Numbered.map_state.Goals as goal
use Rattle.finish.proofs.numbered.Numbered.map_state.Goals.{In-Some, After-word}

found : (c : In-Some) → let n = c.args.other.now in (c.in-Some.place ≡ place (order n.machine.k (linked n.machine)) c.args.state) × (place (order n.machine.k (linked n.machine)) c.args.state < length (order n.machine.k (linked n.machine)))
found c =
    let n = c.args.other.now in
    rw (← ap (λ l. l.states) n.listed) (found_place n.numbering.now.states c.args.state c.in-Some.place c.in-Some.ensures)

pub word-requires : goal.word-requires
word-requires c =
    let n = c.args.other.now in
    let f = found c in
    let words = ap (λ l. length l.words) n.listed in
    omega (arith, f.0, f.1, words, words_number n.machine.k (linked n.machine) (steps_complete n.machine.steps))

-- the word is the state's least one, over the letters of both machines
word_is : (c : After-word) → let n = c.args.other.now in c.word.result.now ≡ get_or (reaching_words n.machine.k (linked n.machine)) (place (order n.machine.k (linked n.machine)) c.args.state) []
word_is c =
    let n = c.args.other.now in
    c.word.ensures.word ∙ ap (λ l. get_or l.words c.in-Some.place []) n.listed ∙ ap (λ p. get_or (reaching_words n.machine.k (linked n.machine)) p []) (found (goal.at.After-word c).In-Some).0

below : (c : After-word) → Below c.args.self.now.machine.k c.word.result.now
below c =
    let n = c.args.other.now in
    let f = found (goal.at.After-word c).In-Some in
    rw (word_is c, ← c.requires) (letters n.machine.k (linked n.machine) (steps_complete n.machine.steps) _ f.1)

pub state_after-reached-requires : goal.state_after-reached-requires
state_after-reached-requires c = below_letters _ _ (below c)

pub place-requires-in-Some : goal.place-requires-in-Some
place-requires-in-Some c =
    let n = c.args.self.now in
    rw c.state_after-reached.ensures (placed n.machine.k (linked n.machine) (steps_complete n.machine.steps) _ (below (goal.at.place-requires-in-Some c).After-word)).0

pub returns-in-Some : goal.returns-in-Some
returns-in-Some c =
    let n = c.args.other.now in
    let C = linked c.args.self.now.machine in
    let e = (goal.at.returns-in-Some c).After-word in
    let f = found (goal.at.returns-in-Some c).In-Some in
    c.place-in-Some.ensures.value
    ∙ ap (λ k. place (order k C) c.state_after-reached.result) (sym c.requires)
    ∙ ap (place (order n.machine.k C)) (c.state_after-reached.ensures ∙ ap (walk C.next 0) (word_is e))
    ∙ sym (mapped n.machine.k (linked n.machine) C c.args.state f.1)

pub returns-in-None : goal.returns-in-None
returns-in-None c =
    let n = c.args.other.now in
    let C = linked c.args.self.now.machine in
    let f = rw (ap (λ l. l.states) n.listed) at (found_none n.numbering.now.states c.args.state c.in-None.ensures) in
    sym (unmapped n.machine.k (linked n.machine) C c.args.state f)
