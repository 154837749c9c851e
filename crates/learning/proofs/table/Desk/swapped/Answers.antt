use Rattle.std.proofs.Common.{◌≡◌, ◌+◌, ◌-◌, ◌++◌, [], length, take, drop, get_or, ap, ◌∙◌, arith}
use Rattle.learning.specs.Grid.{letters_append, letters_drop}
use Rattle.learning.specs.Desks.{asked}
use Rattle.learning.specs.Cut.{joined}
use Rattle.learning.proofs.table.Desk.swapped.Goals as goal
use Rattle.learning.proofs.table.Desk.swapped.Goals.{After-put_letters}

-- the word of S and the kept letters stand at the start of the buffer
whole : (c : After-put_letters) → let a = c.args in take (c.copy_word-from.result + (length a.w.now - a.i)) c.put_letters.new.area ≡ get_or a.self.now.s a.state [] ++ drop a.i a.w.now
whole c =
    let a = c.args in
    let d = a.self.now in
    let e = c.copy_word-from.ensures in
    (joined (get_or d.s a.state []) a.w.now a.i _ c.copy_word-from.new.area c.put_letters.new.area c.copy_word-from.result c.requires.there.1
    (omega (arith, d.laid.short a.state c.requires.there.0, d.laid.few, d.laid.sound.n_high)) e.value e.area_after c.put_letters.ensures).1

pub last_output-requires : goal.last_output-requires
last_output-requires c =
    let a = c.args in
    let d = a.self.now in
    rw (whole (goal.at.last_output-requires c).After-put_letters)
    (letters_append d.machine.k (get_or d.s a.state []) (drop a.i a.w.now) (d.laid.letters a.state c.requires.there.0) (letters_drop d.machine.k a.i a.w.now c.requires.letters))

pub returns : goal.returns
returns c = c.last_output.ensures ∙ ap (asked c.args.self.now) (whole (goal.at.returns c).After-put_letters)
