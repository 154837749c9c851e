use Rattle.std.proofs.Common.{sym, ◌∙◌, arith}
use Rattle.std.proofs.lemmas.Grind.{common_steps}
use Rattle.sheets.specs.Rests.{from_on, word_stop, word_lacks, word_goes}
use Rattle.sheets.proofs.proofs.Due.word.Goals as goal

pub returns-in_err-mark : goal.returns-in_err-mark
returns-in_err-mark c =
    let s = c.args.self.now in
    let h = word_stop s.mark s.low s.high s.k _ _ c.in_err-mark.ensures in
    grind (arith, common_steps)

pub returns-in_default : goal.returns-in_default
returns-in_default c = let s = c.args.self.now in sym (word_lacks s.mark s.low s.high s.k _ _ c.in_ok-mark.ensures c.in_default.len_below)

pub returns : goal.returns
returns c =
    let s = c.args.self.now in
    let rest = c.in_ok-mark.field-0.now in
    (rw (c.from.ensures, from_on 1 rest) at c.letters.ensures) ∙ sym (word_goes s.mark s.low s.high s.k _ rest c.in_ok-mark.ensures c.in-len1-up.len_at_least)
