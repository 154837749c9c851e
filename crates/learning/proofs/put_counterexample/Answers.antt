use Rattle.std.proofs.Common.{ℕ, List, length, set, refl, ap, ◌∙◌, arith}
use Rattle.rules.specs.Areas.{put, put_start}
use Rattle.rules.specs.Sheets.{CX, word_bytes}
use Rattle.rules.specs.Records.{put_word}
use Rattle.learning.proofs.put_counterexample.Goals as goal

pub returns : goal.returns
returns c =
    let a = c.args in
    let w = a.w.now in
    c.put_letters.ensures
    ∙ ap (λ (l : List ℕ). put 3 w (set l 2 (length w))) c.put_mark.ensures
    ∙ put_word CX refl 0 w a.sheet.now (omega arith)
    ∙ put_start (word_bytes CX w) a.sheet.now
