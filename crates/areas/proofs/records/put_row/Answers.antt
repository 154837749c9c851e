use Rattle.std.proofs.Common.{◌+◌, ap, ◌∙◌, arith}
use Rattle.rules.specs.Areas.{put, put_put}
use Rattle.rules.specs.Sheets.{MR, pair_bytes}
use Rattle.rules.specs.SheetLaws.{pairs_length}
use Rattle.areas.proofs.records.put_row.Goals as goal

pub returns : goal.returns
returns c =
    let a = c.args in
    c.put_pairs.ensures ∙ ap (put (a.at + 2) (pair_bytes a.words.now)) c.put_mark.ensures ∙ put_put a.at MR (pair_bytes a.words.now) a.area.now (omega (arith, pairs_length a.words.now, c.requires))
