-- Document 01, rule 5: the least word on which two machines differ, by breadth first search over pairs of states.
-- The pair of s and t is the number s·m + t, m being the states of the second machine.
use Rattle.std.specs.Prelude.{◌≢◌, Bool, true, false, not, List, [], ◌∷◌, ◌++◌, ℕ, ◌+◌, ◌*◌, ◌/◌, ◌%◌, length, get_or, ltb}
use Rattle.std.proofs.Math.Option.{Option, none, some}
use Rattle.std.proofs.Math.Dec.{eqb}
use Rattle.rules.specs.Words.{Word, LeastWord}
use Rattle.rules.specs.Seek.{seek}
use Rattle.rules.specs.Search.{Entry, starts, explore}
use Rattle.rules.specs.Machine.{Machine, answer_from}

-- what is sought: the least word that s of M and t of N answer differently
abbrev pub LeastDifference : ℕ → Machine → Machine → ℕ → ℕ → Type 0
LeastDifference k M N s t = LeastWord k (λ w. answer_from M s w ≢ answer_from N t w)

module _ (M N : Machine) where
  unfoldable pub pair_step : ℕ → ℕ → ℕ
  pair_step x a = M.next (x / N.states) a * N.states + N.next (x % N.states) a

  -- the outputs at the letter a differ
  unfoldable pub pair_apart : ℕ → ℕ → Bool
  pair_apart x a = not (eqb (M.out (x / N.states) a) (N.out (x % N.states) a))

  -- the pairs met from (s, t), by their least words
  unfoldable pub pairs : ℕ → ℕ → ℕ → List (Entry ℕ)
  unfolding explore pair_step
  pairs k s t = explore eqb pair_step (s * N.states + t) k (M.states * N.states)

  -- the first place and letter, as place·k + letter, at which the outputs differ; length queue · k where there is none
  unfoldable pub first_apart : ℕ → ℕ → List (Entry ℕ) → ℕ
  unfolding seek pair_apart
  first_apart k x0 queue = seek (λ (j : ℕ). pair_apart (get_or queue (j / k) (starts x0)).node (j % k)) 0 (length queue * k)

  -- the word of that place, followed by that letter
  unfoldable pub word_apart : ℕ → ℕ → List (Entry ℕ) → ℕ → Option Word
  word_apart k x0 queue r =
      elim (ltb r (length queue * k)) [ false ↦ none | true ↦ some ((get_or queue (r / k) (starts x0)).word ++ (r % k ∷ [])) ]

  unfoldable pub difference : ℕ → ℕ → ℕ → Option Word
  unfolding pairs first_apart word_apart
  difference k s t =
      let x0 = s * N.states + t in
      let queue = pairs k s t in
      word_apart k x0 queue (first_apart k x0 queue)
