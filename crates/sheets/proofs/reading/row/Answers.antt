use Rattle.std.proofs.Common.{sym, ◌∙◌, arith}
use Rattle.std.proofs.lemmas.Grind.{common_steps}
use Rattle.sheets.specs.Rests.{row_stop, row_lacks, row_goes}
use Rattle.sheets.proofs.reading.row.Goals as goal

pub returns-in_err-rest : goal.returns-in_err-rest
returns-in_err-rest c = let h = row_stop c.args.n c.args.k _ _ c.in_err-rest.ensures in grind (arith, common_steps)

pub returns-then-rest-k : goal.returns-then-rest-k
returns-then-rest-k c = sym (row_lacks c.args.n c.args.k _ _ c.in_ok-rest.ensures (omega (arith, c.if-rest-k.true)))

pub returns : goal.returns
returns c = c.pairs.ensures ∙ sym (row_goes c.args.n c.args.k _ _ c.in_ok-rest.ensures (omega (arith, c.if-rest-k.false)))
