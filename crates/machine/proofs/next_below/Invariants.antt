use Rattle.std.specs.Prelude.{◌≡◌, ◌&&◌, drop}
use Rattle.machine.specs.Lent.{next_below}
use Rattle.machine.proofs.next_below.Given as goal

-- all are below if those so far are, and those that are left
abbrev pub invariant-loop-word : goal.invariant-loop-word
invariant-loop-word l = record { passed : next_below l.n l.words ≡ (l.below && next_below l.n (drop l.word-index l.words)) }
