use Rattle.std.proofs.Common.{◌≡◌, ℕ, ◌<◌, ap, ◌∙◌}
use lib.ListN.{length-set, set}
use Rattle.rules.specs.SheetLaws.{put_two}
use native.Mathlib.Omega.{arith}
use Prim.Native.Nat.{◌/◌, ◌%◌, ◌+◌}
use borrow.Author.Rules.{rules}
use Rattle.areas.proofs.records.put_pair.Goals as goal

pub bounds-area-at-2 : goal.bounds-area-at-2
bounds-area-at-2 c = simp length-set (omega arith)

-- the bytes of a word, the low one first: its remainder by 256 is the output, its quotient the next state
pub returns : goal.returns
returns c =
    let a = c.args in
    let fits : a.word < 65536 = search rules in
    let high : (a.word / 256) % 256 ≡ a.word / 256 = omega (arith, fits) in
    rw c.to_le_bytes.ensures
    (ap (λ (y : ℕ). set (set a.area.now a.at (a.word % 256)) (a.at + 1) y) high ∙ put_two a.area.now a.at (a.word % 256) (a.word / 256) (search rules))
