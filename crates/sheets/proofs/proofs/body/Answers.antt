use Rattle.std.proofs.Common.{rules, sym, arith}
use Rattle.std.proofs.lemmas.Grind.{common_steps}
use Rattle.sheets.specs.ProofAnswers.{numbers_of}
use Rattle.sheets.specs.Rests.{stop_model, stop_reaching, stop_columns, stop_map, sheet_over, sheet_done}
use Rattle.sheets.proofs.proofs.body.Goals as goal

pub returns-in_err-words : goal.returns-in_err-words
returns-in_err-words c = let h = stop_model (numbers_of c.args.counts.now) _ _ c.in_err-words.ensures in grind (arith, common_steps)

pub returns-in_err-columns : goal.returns-in_err-columns
returns-in_err-columns c =
    let h = stop_reaching (numbers_of c.args.counts.now) _ _ c.in_ok-words.ensures _ c.in_err-columns.ensures in
    grind (arith, common_steps)

pub returns-in_err-map : goal.returns-in_err-map
returns-in_err-map c =
    let h = stop_columns (numbers_of c.args.counts.now) _ _ c.in_ok-words.ensures _ c.in_ok-columns.ensures _ c.in_err-map.ensures in
    grind (arith, common_steps)

pub returns-in_err-rest : goal.returns-in_err-rest
returns-in_err-rest c =
    let h = stop_map (numbers_of c.args.counts.now) _ _ c.in_ok-words.ensures _ c.in_ok-columns.ensures _ c.in_ok-map.ensures _ c.in_err-rest.ensures in
    grind (arith, common_steps)

pub returns-then-not-is_empty : goal.returns-then-not-is_empty
returns-then-not-is_empty c =
    sym (sheet_over (numbers_of c.args.counts.now) _ _ c.in_ok-words.ensures _ c.in_ok-columns.ensures _ c.in_ok-map.ensures c.in_ok-rest.rest.now c.in_ok-rest.ensures (search rules))

pub returns : goal.returns
returns c =
    sym (sheet_done (numbers_of c.args.counts.now) _ _ c.in_ok-words.ensures _ c.in_ok-columns.ensures _ c.in_ok-map.ensures c.in_ok-rest.rest.now c.in_ok-rest.ensures (search rules))
