use Rattle.std.proofs.Common.{ℕ, List, set, ap, ◌∙◌}
use Rattle.rules.specs.Records.{put_head}
use Rattle.finish.proofs.put_head.Goals as goal

pub returns : goal.returns
returns c =
    let a = c.args in
    ap (λ (l : List ℕ). set (set (set (set l 2 a.m) 3 a.k) 4 a.n) 5 a.c) c.put_mark.ensures ∙ put_head a.m a.k a.n a.c a.sheet.now c.requires.room
