use Rattle.std.proofs.Common.{refl, ◌∙◌}
use Rattle.learning.specs.ClosingLaws.{closing_begins, closing_room, closing_on, closing_ended}
use Rattle.learning.specs.Laid.{Laid}
use Rattle.learning.proofs.table.Desk.close.Goals as goal
use Rattle.learning.proofs.table.Desk.close.Goals.{At-loop-r}

-- the desk at the loop, with the machine and the columns that it had
laid : (c : At-loop-r) → let d = c.args.self.now in Laid d.machine.n d.machine.k d.machine.words.now c.loop-r.self.s c.loop-r.self.rows d.columns
laid c = rw (c.loop-r.invariant.machine, c.loop-r.invariant.columns) at c.loop-r.self.laid

pub loop-r-init : goal.loop-r-init
loop-r-init c = let d = c.args.self.now in record { machine = refl; columns = refl; closing = closing_begins d.laid c.requires.held c.requires.told }

pub append_row-requires-clause-there : goal.append_row-requires-clause-there
append_row-requires-clause-there c =
    let L = c.loop-r.invariant in
    let found = rw (L.machine, L.columns) at c.in-Some.ensures in
    rw L.machine (found.1, closing_room L.closing (laid (goal.at.append_row-requires-clause-there c).At-loop-r) c.requires.columns c.in-Some.r found.0 found.1)

pub loop-r-preserved : goal.loop-r-preserved
loop-r-preserved c =
    let L = c.loop-r.invariant in
    let e = c.append_row.ensures in
    let machine = e.same.0 ∙ L.machine in
    let columns = e.same.1 ∙ L.columns in
    let found = rw (L.machine, L.columns) at c.in-Some.ensures in record {
      machine = machine;
      columns = columns;
      closing =
          closing_on L.closing (laid (goal.at.loop-r-preserved c).At-loop-r) c.requires.columns c.in-Some.r found.0 found.1 (rw (machine, columns) at c.append_row.new.self.laid)
          (rw (machine, columns) at e.held_after) (rw L.machine at e.words);
    }

pub returns-clause-words : goal.returns-clause-words
returns-clause-words c =
    let L = c.loop-r.invariant in
    closing_ended L.closing (laid (goal.at.returns-clause-words c).At-loop-r) c.requires.columns (rw (L.machine, L.columns) at c.in_default.ensures)
