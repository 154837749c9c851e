use Rattle.std.proofs.Common.{rules, ◌≡◌, ℕ, ◌+◌, ◌<◌, List, [], length, get_or, take, drop, sym, ap, ◌∙◌, arith}
use Rattle.std.specs.Prelude.{Bool}
use Rattle.machine.specs.Linked.{linked}
use Rattle.sheets.specs.declared.checker.Sheet.{Sheet}
use Rattle.sheets.specs.CheckerSteps.{tells}
use Rattle.sheets.specs.Held.{said, Here, here_word, columns_many, column_here}
use Rattle.sheets.specs.ProofParts.{column_place}
use Rattle.sheets.proofs.CheckerSteps.{told_from, some_here, some_later, some_none}
use Rattle.sheets.proofs.checker.Sheet.told_apart.Goals as goal

-- what is asked of the word of a record is asked of the column there
is_told : (s : Sheet) (i j n : ℕ) {place next : ℕ} {column : List ℕ} {t : Bool} → Here s.bytes.now s.model.k (get_or (said s.bytes.now).columns n []) place next
    → column ≡ take (get_or s.bytes.now (place + 2) 0) (drop (place + 3) s.bytes.now) → t ≡ tells (linked s.model) i j column
    → tells (linked s.model) i j (get_or (said s.bytes.now).columns n []) ≡ t
is_told s i j n h w e = sym (e ∙ ap (tells (linked s.model) i j) (w ∙ here_word h))

pub word_at-column-requires : goal.word_at-column-requires
word_at-column-requires c =
    let s = c.args.self.now in
    let l = c.loop in
    let h = column_here s.held l.counter (omega (arith, s.at.1, l.invariant.end, c.loop-test.true)) in
    rw l.invariant.place (omega (arith, h.within, h.size))

pub column_tells-requires : goal.column_tells-requires
column_tells-requires c =
    let s = c.args.self.now in
    let l = c.loop in
    let h = column_here s.held l.counter (omega (arith, s.at.1, l.invariant.end, c.loop-test.true)) in
    (c.requires.0, c.requires.1, rw (c.word_at-column.ensures.word, l.invariant.place, here_word h) h.below)

pub returns-then-column_tells : goal.returns-then-column_tells
returns-then-column_tells c =
    let s = c.args.self.now in
    let l = c.loop in
    let h : Here s.bytes.now s.model.k (get_or (said s.bytes.now).columns l.counter []) l.place (column_place (said s.bytes.now) (l.counter + 1)) =
    rw l.invariant.place (column_here s.held l.counter (omega (arith, s.at.1, l.invariant.end, c.loop-test.true))) in
    let told = is_told s c.args.i c.args.j l.counter h c.word_at-column.ensures.word c.column_tells.ensures in
    let there : l.counter < length (said s.bytes.now).columns = omega (arith, columns_many s.held, s.at.1, l.invariant.end, c.loop-test.true) in
    sym (told_from s.held _ _ _ ∙ l.invariant.left ∙ some_here _ _ _ there (told ∙ c.if-column_tells.true))

pub overflow_add-place-in-loop : goal.overflow_add-place-in-loop
overflow_add-place-in-loop c =
    let s = c.args.self.now in
    let l = c.loop in
    let h : Here s.bytes.now s.model.k (get_or (said s.bytes.now).columns l.counter []) l.place (column_place (said s.bytes.now) (l.counter + 1)) =
    rw l.invariant.place (column_here s.held l.counter (omega (arith, s.at.1, l.invariant.end, c.loop-test.true))) in
    let w = h.within in
    rw (c.word_at-column.ensures.size, h.size) (search rules)

pub loop-preserved : goal.loop-preserved
loop-preserved c =
    let s = c.args.self.now in
    let l = c.loop in
    let h : Here s.bytes.now s.model.k (get_or (said s.bytes.now).columns l.counter []) l.place (column_place (said s.bytes.now) (l.counter + 1)) =
    rw l.invariant.place (column_here s.held l.counter (omega (arith, s.at.1, l.invariant.end, c.loop-test.true))) in
    let told = is_told s c.args.i c.args.j l.counter h c.word_at-column.ensures.word c.column_tells.ensures in
    let there : l.counter < length (said s.bytes.now).columns = omega (arith, columns_many s.held, s.at.1, l.invariant.end, c.loop-test.true) in record {
      end = l.invariant.end;
      place = omega (arith, h.after, h.size, c.word_at-column.ensures.size);
      left = l.invariant.left ∙ some_later _ _ _ there (told ∙ c.if-column_tells.false);
    }

pub returns : goal.returns
returns c =
    let s = c.args.self.now in
    let l = c.loop in
    sym (told_from s.held _ _ _ ∙ l.invariant.left
    ∙ some_none _ (said s.bytes.now).columns l.counter (omega (arith, columns_many s.held, s.at.1, l.invariant.end, c.loop-test.false)))
