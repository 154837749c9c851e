use Rattle.std.proofs.Common.{sym, ap, ◌∙◌, arith}
use Rattle.std.proofs.lemmas.Grind.{common_steps}
use Rattle.sheets.specs.Steps.{outcome}
use Rattle.sheets.specs.MachineSteps.{size_refused}
use Rattle.sheets.specs.Rests.{from_on, head_stop, head_lacks, head_goes, head_gives}
use Rattle.sheets.proofs.machines.sheet.Goals as goal

pub returns-in_err-mark : goal.returns-in_err-mark
returns-in_err-mark c = let h = head_stop c.args.bytes.now _ c.in_err-mark.ensures in grind (arith, common_steps)

pub returns-in_default : goal.returns-in_default
returns-in_default c = sym (head_lacks c.args.bytes.now _ c.in_ok-mark.ensures c.in_default.len_below)

pub returns-in_err-body : goal.returns-in_err-body
returns-in_err-body c =
    let b = c.args.bytes.now in
    let rest = c.in_ok-mark.field-0.now in
    let e = ap outcome (head_goes b rest c.in_ok-mark.ensures c.in-len2-up.len_at_least) in
    let h = size_refused b _ (e ∙ sym (rw (c.from.ensures, c.from-2.ensures, from_on 2 rest) at c.in_err-body.ensures)) in
    grind (arith, common_steps)

pub returns : goal.returns
returns c =
    let b = c.args.bytes.now in
    let rest = c.in_ok-mark.field-0.now in
    let e = ap outcome (head_goes b rest c.in_ok-mark.ensures c.in-len2-up.len_at_least) in
    rw (c.from.ensures, c.from-2.ensures)
    (sym (head_gives b rest c.in_ok-mark.ensures c.in-len2-up.len_at_least (e ∙ sym (rw (c.from.ensures, c.from-2.ensures, from_on 2 rest) at c.in_ok-body.ensures))))
