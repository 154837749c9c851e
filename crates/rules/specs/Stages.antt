-- What holds of the table at each round, and of the stop. Over any oracle and any finder of counterexamples, for the rules of document 01 and
-- the kinds that share them. That it holds: proofs/Stages.
use Rattle.std.specs.Prelude.{◌≡◌, ◌⊎◌, get_or}
use Rattle.std.proofs.Math.Option.{Option, none}
use mathlib.Core.List.{List, []}
use Prim.Native.Nat.{ℕ, ◌+◌, ◌≤◌, ◌<◌}
use Rattle.std.proofs.Math.ListN.{length}
use Rattle.rules.specs.Words.{Word}
use Rattle.rules.specs.Closing.{Told, Shut, Words, Columns, Short}
use Rattle.rules.specs.Rounds.{Stop}

-- what holds of a closed table after p rounds; `first` columns stood there before them
pub record Stage (ask : Word → ℕ) (k τ first p : ℕ) (E S : List Word) : Type 0 where
  pub told : Told ask E S
  pub shut : Shut ask k E S
  pub head : get_or S 0 [] ≡ []
  pub words : Words k S
  pub short : Short S
  pub columns : Columns τ E
  pub letters : Words k E
  pub wide : length E ≡ first + p
  -- the rounds past are fewer than the words
  pub grown : p < length S

-- a stop after p rounds and at most r more
pub record Stopped (ask : Word → ℕ) (k τ first : ℕ) (find : List Word → List Word → Option Word) (p r : ℕ) (x : Stop) : Type 0 where
  pub stage : Stage ask k τ first x.past x.E x.S
  -- the counterexample left is the finder's at that very table
  pub asked : x.left ≡ find x.E x.S
  pub end : (x.left ≡ none) ⊎ (x.past ≡ p + r)
  pub few : x.past ≤ p + r
