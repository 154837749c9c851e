use Rattle.std.proofs.Common.{◌+◌, ◌<◌, ◌++◌, ◌∷◌, [], length, ◌∙◌, arith}
use Rattle.rules.specs.Table.{suffix}
use Rattle.rules.specs.Rounds.{more}
use Rattle.learning.specs.Desk.{Held}
use Rattle.learning.specs.Desks.{asked}
use Rattle.learning.specs.RoundLaws.{laid_column, held_column, round_low, round_suffix, round_letters, round_told, round_columns}
use Rattle.learning.proofs.table.Desk.round.Goals as goal
use Rattle.learning.proofs.table.Desk.round.Goals.{After-cut-from, After-fill_rows}

low : (c : After-cut-from) → c.cut-from.result + 1 < length c.args.w.now
low c = omega (arith, c.cut-from.ensures, round_low c.requires.ready c.requires.held.some)

pub cut-from-requires-clause-letters : goal.cut-from-requires-clause-letters
cut-from-requires-clause-letters c =
    let R = c.requires.ready in (omega (arith, round_low R c.requires.held.some), R.short, R.letters)

pub overflow_add-from : goal.overflow_add-from
overflow_add-from c = omega (arith, low (goal.at.overflow_add-from c).After-cut-from)

pub slice_bounds-push-count : goal.slice_bounds-push-count
slice_bounds-push-count c = omega (arith, low (goal.at.slice_bounds-push-count c).After-cut-from)

pub slice_bounds-push-start : goal.slice_bounds-push-start
slice_bounds-push-start c = omega (arith, low (goal.at.slice_bounds-push-start c).After-cut-from)

pub invariant_of-self : goal.invariant_of-self
invariant_of-self c =
    let d = c.args.self.now in
    let R = c.requires.ready in
    record { laid = rw (c.push.ensures, round_suffix R c.requires.held.some c.cut-from.result c.cut-from.ensures) (laid_column d.laid _ (round_letters R c.requires.held.some) c.requires.room) }

-- the suffix of the rule is the last column, and its cells are filled
filled : (c : After-fill_rows) → let d = c.args.self.now in
    Held d.machine.n d.machine.k d.machine.words.now d.s (d.columns ++ (suffix (asked d) 1 d.columns d.s c.args.w.now ∷ [])) c.fill_rows.new.table
filled c =
    let d = c.args.self.now in
    let e = round_suffix c.requires.ready c.requires.held.some c.cut-from.result c.cut-from.ensures in
    held_column d.laid _ c.requires.held (rw (c.len.ensures, c.len-new.ensures, c.push.ensures, e) at c.fill_rows.ensures)

pub close-requires : goal.close-requires
unfolding more
close-requires c =
    let R = c.requires.ready in
    let some = c.requires.held.some in
    let e = round_suffix R some c.cut-from.result c.cut-from.ensures in
    record { held = rw (c.push.ensures, e) (filled (goal.at.close-requires c).After-fill_rows); told = rw (c.push.ensures, e) (round_told R some); columns = rw (c.push.ensures, e) (round_columns R some) }

pub returns : goal.returns
unfolding more
returns c =
    let x = c.close.ensures in
    let e = round_suffix c.requires.ready c.requires.held.some c.cut-from.result c.cut-from.ensures in record {
      held_after = x.held_after;
      machine = x.same.0;
      columns = x.same.1 ∙ rw (c.push.ensures, e);
      words = rw x.same.1 x.words;
    }
