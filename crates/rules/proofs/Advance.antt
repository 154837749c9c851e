-- What one round more makes of a stop, for every number of rounds of a machine.
use Rattle.std.specs.Prelude.{◌≡◌}
use mathlib.Core.List.{[], ◌∷◌}
use Prim.Native.Nat.{ℕ, suc}
use Rattle.rules.specs.Machine.{Machine, ask}
use Rattle.rules.specs.Table.{one_letter, close}
use Rattle.rules.specs.Rounds.{learned}
use Rattle.rules.specs.Links.{counterexample, stopped}
use Rattle.rules.specs.Advance.{advance, rounds_more}

-- the stops of a machine
pub stop_more : (k : ℕ) (M : Machine) (R : ℕ) → stopped k M (suc R) ≡ advance (ask M) k 1 M.states (counterexample k M) (stopped k M R)
unfolding stopped learned
stop_more k M R = rounds_more (ask M) k 1 M.states (counterexample k M) R 0 (one_letter k) (close (ask M) k M.states (one_letter k) ([] ∷ []))
