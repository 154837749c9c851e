use Rattle.std.proofs.Common.{true, false, sym, ◌∙◌, arith}
use Rattle.std.proofs.lemmas.Grind.{common_steps}
use Rattle.sheets.specs.Rests.{header_stop, header_lacks, header_is}
use Rattle.sheets.proofs.proofs.header.Goals as goal

pub returns-in_err-mark : goal.returns-in_err-mark
returns-in_err-mark c = let h = header_stop c.args.bytes.now _ c.in_err-mark.ensures in grind (arith, common_steps)

pub returns-in_default : goal.returns-in_default
returns-in_default c = sym (header_lacks c.args.bytes.now _ c.in_ok-mark.ensures c.in_default.len_below)

pub returns-then-not-in_range : goal.returns-then-not-in_range
returns-then-not-in_range c =
    let out = sym c.in_range.ensures ∙ c.if-not-in_range.true in
    sym (header_is c.args.bytes.now _ c.in_ok-mark.ensures false c.in-len4-up.len_at_least (rw (c.from.ensures, c.from-2.ensures, c.from-3.ensures, c.from-4.ensures) at out))

pub returns : goal.returns
returns c =
    let ranged = sym c.in_range.ensures ∙ c.if-not-in_range.false in
    rw (c.from.ensures, c.from-2.ensures, c.from-3.ensures, c.from-4.ensures)
    (sym (header_is c.args.bytes.now _ c.in_ok-mark.ensures true c.in-len4-up.len_at_least (rw (c.from.ensures, c.from-2.ensures, c.from-3.ensures, c.from-4.ensures) at ranged)))
