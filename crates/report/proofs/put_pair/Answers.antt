use Rattle.report.specs.ReportLaws.{pair_low, put_pair}
use native.Mathlib.Omega.{arith}
use borrow.Author.Rules.{rules}
use Rattle.report.proofs.put_pair.Goals as goal

pub overflow_mul-place-2 : goal.overflow_mul-place-2
overflow_mul-place-2 c = let low = pair_low c.args.k c.args.i c.requires.1 in let room = c.requires.3 in let long = c.requires.4 in search rules

pub overflow_mul-place-3 : goal.overflow_mul-place-3
overflow_mul-place-3 c = let low = pair_low c.args.k c.args.i c.requires.1 in let room = c.requires.3 in let long = c.requires.4 in search rules

pub overflow_add-place-2 : goal.overflow_add-place-2
overflow_add-place-2 c = let low = pair_low c.args.k c.args.i c.requires.1 in let room = c.requires.3 in let long = c.requires.4 in search rules

pub overflow_add-place-3 : goal.overflow_add-place-3
overflow_add-place-3 c = let low = pair_low c.args.k c.args.i c.requires.1 in let room = c.requires.3 in let long = c.requires.4 in search rules

pub overflow_add-place-4 : goal.overflow_add-place-4
overflow_add-place-4 c = let low = pair_low c.args.k c.args.i c.requires.1 in let room = c.requires.3 in let long = c.requires.4 in search rules

pub bounds-sheet-place : goal.bounds-sheet-place
bounds-sheet-place c = let low = pair_low c.args.k c.args.i c.requires.1 in let room = c.requires.3 in let long = c.requires.4 in search rules

pub overflow_add-place-5 : goal.overflow_add-place-5
overflow_add-place-5 c = let low = pair_low c.args.k c.args.i c.requires.1 in let room = c.requires.3 in let long = c.requires.4 in search rules

pub bounds-sheet-place-2 : goal.bounds-sheet-place-2
bounds-sheet-place-2 c = let low = pair_low c.args.k c.args.i c.requires.1 in let room = c.requires.3 in let long = c.requires.4 in search rules

pub put_line-requires : goal.put_line-requires
put_line-requires c =
    let low = pair_low c.args.k c.args.i c.requires.1 in
    let room = c.requires.3 in
    record { at_in_bounds = c.requires.0; a_bound = (omega arith, omega arith, search rules, search rules) }

pub returns : goal.returns
returns c =
    let a = c.args in
    let p = c.put_line.ensures in
    (put_pair a.k a.i _ _ a.sheet.now c.from.ensures c.from-2.ensures p.0, p.1)
