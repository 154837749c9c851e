-- Links, the machines of document 01: rules 1 to 6 with a machine's answers for the oracle. What the stop means for the machine: proofs/Links.
use Rattle.std.specs.Prelude.{ℕ}
use Rattle.std.proofs.Math.Option.{Option}
use mathlib.Core.List.{List}
use Rattle.rules.specs.Words.{Word}
use Rattle.rules.specs.Machine.{Machine, ask}
use Rattle.rules.specs.Table.{one_letter, conjecture}
use Rattle.rules.specs.Rounds.{Stop, learned}
use Rattle.rules.specs.Difference.{difference}

-- rule 5: the least word on which machine and conjecture differ
unfoldable pub counterexample : ℕ → Machine → List Word → List Word → Option Word
unfolding difference conjecture ask
counterexample k M E S = difference M (conjecture (ask M) E S) k 0 0

-- rules 1 to 6, R rounds at most; no closing appends more words than the machine has states
unfoldable pub stopped : ℕ → Machine → ℕ → Stop
unfolding learned counterexample one_letter ask
stopped k M R = learned (ask M) k 1 M.states (counterexample k M) R (one_letter k)
