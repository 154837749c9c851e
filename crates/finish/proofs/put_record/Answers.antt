use Rattle.std.proofs.Common.{◌+◌, ℕ, List, length, set, refl, ap, ◌∙◌}
use Rattle.rules.specs.Areas.{put}
use Rattle.rules.specs.Records.{put_word}
use Rattle.finish.specs.Sheet.{mark_of}
use Rattle.finish.proofs.put_record.Goals as goal

pub returns-clause-sheet_after : goal.returns-clause-sheet_after
returns-clause-sheet_after c =
    let a = c.args in
    c.put_letters.ensures
    ∙ ap (λ (l : List ℕ). put (a.at + 3) a.w.now (set l (a.at + 2) (length a.w.now))) c.put_mark.ensures
    ∙ put_word (mark_of a.mark.now) refl a.at a.w.now a.sheet.now c.requires.room
