use mathlib.Core.Path.{sym}
use lib.Seq.{length-take-le}
use mathlib.Core.Path.{sym}
use borrow.Author.Rules.{rules}
use Rattle.cases.proofs.say_learnt.Goals as goal

pub slice_bounds-say_bytes-end : goal.slice_bounds-say_bytes-end
slice_bounds-say_bytes-end c = sym (length-take-le _ _ (search rules))
