use lib.ListN.{length-set}
use Rattle.rules.specs.SheetLaws.{put_two}
use native.Mathlib.Omega.{arith}
use lib.ListN.{get_or}
use borrow.Author.Rules.{rules}
use Rattle.areas.proofs.records.put_mark.Goals as goal

pub bounds-area-at-2 : goal.bounds-area-at-2
bounds-area-at-2 c = simp length-set (omega arith)

pub returns : goal.returns
returns c = let a = c.args in put_two a.area.now a.at (get_or a.mark.now 0 0) (get_or a.mark.now 1 0) (search rules)
