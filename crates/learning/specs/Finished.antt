-- The finished sheet of a learner that is done, its model, and what belongs on a sheet. What they mean for the machine: proofs/Finished.
use Rattle.std.specs.Prelude.{◌≡◌, List, [], ℕ, ◌≤◌, ◌<◌, length, get_or}
use Rattle.rules.specs.Words.{Word, Below}
use Rattle.rules.specs.Search.{walk}
use Rattle.rules.specs.Machine.{Machine, ask}
use Rattle.rules.specs.Table.{conjecture}
use Rattle.rules.specs.Links.{stopped}
use Rattle.rules.specs.StateMap.{Unreached}
use Rattle.rules.specs.Sheets.{Proof}
use Rattle.machine.specs.Lent.{link}
use Rattle.learning.specs.Learner.{finished}

-- the conjecture of the table at the stop
abbrev pub conjectured : ℕ → Machine → ℕ → Machine
conjectured k M R = conjecture (ask M) (stopped k M R).E (stopped k M R).S

-- the finished sheet, and the model on a sheet over k letters
abbrev pub sheet_of : ℕ → Machine → ℕ → Proof
sheet_of k M R = finished k M (stopped k M R)

abbrev pub model_on : ℕ → Proof → Machine
model_on k P = link P.m k P.model

-- what belongs on a sheet for a model N of M: a word that reaches each state, the model's state for each machine state that words reach, and
-- 255 for the others
pub record Entries (k : ℕ) (M N : Machine) (reaching : List Word) (states : List ℕ) : Type 0 where
  pub many : length reaching ≡ N.states
  pub short : (j : ℕ) → j < N.states → length (get_or reaching j []) ≤ 47
  pub letters : (j : ℕ) → j < N.states → Below k (get_or reaching j [])
  pub reaches : (j : ℕ) → j < N.states → walk N.next 0 (get_or reaching j []) ≡ j
  pub long : length states ≡ M.states
  -- where a word leads the machine, the state to which it leads the model
  pub mapped : (w : Word) → Below k w → get_or states (walk M.next 0 w) 255 ≡ walk N.next 0 w
  pub unmapped : (s : ℕ) → s < M.states → Unreached k M s → get_or states s 255 ≡ 255
