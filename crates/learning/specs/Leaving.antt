-- What the learner leaves, put together from its parts.
use Rattle.std.specs.Prelude.{List, ℕ}
use Rattle.rules.specs.Answer.{Answer}
use Rattle.learning.specs.Learner.{Counts, Learnt, Left}

abbrev pub left_by : Answer Learnt → List ℕ → List ℕ → Left
left_by a t s = record { answer = a; table = t; sheet = s }

abbrev pub counted : ℕ → ℕ → ℕ → ℕ → Counts
counted states rounds cells bytes = record { states = states; rounds = rounds; cells = cells; bytes = bytes }
