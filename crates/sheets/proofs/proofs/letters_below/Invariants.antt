use Rattle.std.specs.Prelude.{◌≡◌, ◌&&◌, drop}
use Rattle.machine.specs.Lent.{letters_below}
use Rattle.sheets.proofs.proofs.letters_below.Given as goal

-- all are below if those so far are, and those that are left
abbrev pub invariant-loop-a : goal.invariant-loop-a
invariant-loop-a l = record { passed : letters_below l.k l.w ≡ (l.below && letters_below l.k (drop l.a-index l.w)) }
