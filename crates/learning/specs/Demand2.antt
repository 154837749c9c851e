-- The counts of Done and Open, as the theorems about the learner's answers speak of them: proofs/Demand2.
use Rattle.std.specs.Prelude.{◌≡◌, ℕ, ◌+◌, ◌*◌, ◌-◌, ◌≤◌, ◌<◌}
use Rattle.std.proofs.Math.ListN.{length}
use Rattle.rules.specs.Rounds.{Stop}
use Rattle.learning.specs.Learner.{Counts}

-- the counts of Done and Open, of a machine of n states and k letters and of the stop x, whose table is left in the area
pub record Figures (n k : ℕ) (x : Stop) (c : Counts) : Type 0 where
  pub words : c.states ≡ length x.S
  pub columns : k + c.rounds ≡ length x.E
  -- rows times columns
  pub cells : c.cells ≡ (1 + c.states * k) * (k + c.rounds)
  pub fewer : c.rounds < c.states
  pub few : c.states ≤ n
  pub most : c.cells ≤ (1 + n * k) * (k + n - 1)
