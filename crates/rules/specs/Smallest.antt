-- Words that the columns tell apart, against a machine with no more states than there are such words. What follows: proofs/Smallest.
use Rattle.std.specs.Prelude.{ℕ, ◌≤◌, length}
use mathlib.Core.List.{List}
use Rattle.rules.specs.Words.{Word}
use Rattle.rules.specs.Machine.{Machine, Complete, ask, Equal}
use Rattle.rules.specs.Closing.{Told, Words, Columns}

-- words S that the columns E tell apart in M, and an equal machine N with no more states than there are words
pub record Tells (k : ℕ) (M N : Machine) (E S : List Word) : Type 0 where
  pub whole : Complete k N
  pub equal : Equal k M N
  pub told : Told (ask M) E S
  pub words : Words k S
  pub columns : Columns 1 E
  pub letters : Words k E
  pub few : N.states ≤ length S
