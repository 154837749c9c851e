use Rattle.std.proofs.Common.{List, ℕ, ap, ◌∙◌, set, arith}
use Rattle.rules.specs.Areas.{put}
use Rattle.rules.specs.Sheets.{row_bytes}
use Rattle.rules.specs.SheetLaws.{rows_most, put_machine}
use Rattle.sheets.proofs.machines.put_sheet.Goals as goal

pub returns : goal.returns
returns c =
    let a = c.args in
    let m = a.machine.now in
    let s = c.requires.sound in
    c.put_rows.ensures ∙ ap (λ (x : List ℕ). put 4 (row_bytes m.k m.n m.words.now) (set (set x 2 m.n) 3 m.k))
    c.put_mark.ensures ∙ put_machine m.n m.k m.words.now a.area.now (omega (arith, s.long)) (omega (arith, rows_most m.n m.k s.n_high s.k_high))
