use Rattle.std.proofs.Common.{◌∷◌, [], ◌∙◌}
use Rattle.rules.specs.Table as rules
use Rattle.rules.proofs.Links.{one_letter_long}
use Rattle.learning.specs.Desk.{Held}
use Rattle.learning.specs.Desks.{asked}
use Rattle.learning.specs.Start.{told_one, laid_first, held_first}
use Rattle.learning.proofs.table.Desk.begin.Goals as goal
use Rattle.learning.proofs.table.Desk.begin.Goals.{After-push, After-fill_rows}

pub invariant_of-self : goal.invariant_of-self
invariant_of-self c =
    let d = c.args.self.now in
    record { laid = rw (c.push.ensures, c.requires.empty.0, c.one_letter.ensures) (laid_first d.laid.sound d.rows d.laid.long) }

-- the first table is filled
filled : (c : After-fill_rows) → let d = c.args.self.now in
    Held d.machine.n d.machine.k d.machine.words.now ([] ∷ []) (rules.one_letter d.machine.k) c.fill_rows.new.table
filled c =
    let d = c.args.self.now in
    held_first d.laid.sound c.requires.blank.0 c.requires.blank.1 (rw (c.push.ensures, c.requires.empty.0, c.one_letter.ensures) at c.fill_rows.ensures)

pub close-requires : goal.close-requires
close-requires c =
    let d = c.args.self.now in record {
      held = rw (c.push.ensures, c.requires.empty.0, c.one_letter.ensures) (filled (goal.at.close-requires c).After-fill_rows);
      told = rw (c.push.ensures, c.requires.empty.0) (told_one (asked d) c.one_letter.new.columns);
      columns = rw c.one_letter.ensures (one_letter_long d.machine.k);
    }

pub returns : goal.returns
returns c =
    let x = c.close.ensures in record {
      held = x.held_after;
      machine = x.same.0;
      columns = x.same.1 ∙ c.one_letter.ensures;
      words = rw (c.push.ensures, c.requires.empty.0, c.one_letter.ensures) at x.words;
    }
