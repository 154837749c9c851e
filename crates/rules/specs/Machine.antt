-- Machines as document 01's section 'The machine' has them: run, answer, question, equal machines, smallest model, numbering by least
-- words. A machine is its functions; how it is lent (words, bytes) is said where it is decoded.
use Rattle.std.specs.Prelude.{◌≡◌, List, [], ◌∷◌, ℕ, ◌+◌, ◌*◌, ◌/◌, ◌%◌, ◌≤◌, ◌<◌, length, get_or}
use Rattle.rules.specs.Words.{Word, Below, Before}
use Rattle.rules.specs.Search.{walk}

-- states 0 to states - 1, of which 0 is the start
pub record Machine : Type 0 where
  pub states : ℕ
  pub next : ℕ → ℕ → ℕ
  pub out : ℕ → ℕ → ℕ

-- over k letters: it has a start, and no letter leads out of its states
abbrev pub Complete : ℕ → Machine → Type 0
Complete k M = (0 < M.states) × ((s a : ℕ) → s < M.states → a < k → M.next s a < M.states)

-- the output at each letter of a word that is run from the state s
unfoldable pub answer_from : Machine → ℕ → Word → List ℕ
answer_from M s [] = []
answer_from M s (a ∷ w) = M.out s a ∷ answer_from M (M.next s a) w

unfoldable pub answer : Machine → Word → List ℕ
unfolding answer_from
answer M w = answer_from M 0 w

-- the last output of a word that is run from the state s; o where the word is empty
unfoldable pub last_from : Machine → ℕ → ℕ → Word → ℕ
last_from M o s [] = o
last_from M o s (a ∷ w) = last_from M (M.out s a) (M.next s a) w

-- A question's answer is its last output. The empty word puts no question; the 0 here is never an answer.
unfoldable pub ask : Machine → Word → ℕ
unfolding last_from
ask M w = last_from M 0 0 w

-- two machines over k letters are equal if they answer every word alike
abbrev pub Equal : ℕ → Machine → Machine → Type 0
Equal k M N = (w : Word) → Below k w → answer M w ≡ answer N w

-- an equal complete machine with the fewest states
pub record SmallestModel (k : ℕ) (M N : Machine) : Type 0 where
  pub complete : Complete k N
  pub equal : Equal k M N
  pub fewest : (N' : Machine) → Complete k N' → Equal k M N' → N.states ≤ N'.states

-- each state's number is the place of the least word that reaches it
pub record ByLeastWords (k : ℕ) (N : Machine) (reaching : List Word) : Type 0 where
  pub all : length reaching ≡ N.states
  pub letters : (j : ℕ) → j < N.states → Below k (get_or reaching j [])
  pub reaches : (j : ℕ) → j < N.states → walk N.next 0 (get_or reaching j []) ≡ j
  pub least : (j : ℕ) → j < N.states → (v : Word) → Below k v → walk N.next 0 v ≡ j → ¬ Before v (get_or reaching j [])
  pub rising : (i j : ℕ) → i < j → j < N.states → Before (get_or reaching i []) (get_or reaching j [])

-- Lent as n·k words, state by state and letter by letter; a word is B·next + output, and B is 256 for outputs of a byte.
unfoldable pub lent : ℕ → ℕ → ℕ → List ℕ → Machine
lent B n k words = record {
  states = n;
  next = λ s a. get_or words (s * k + a) 0 / B;
  out = λ s a. get_or words (s * k + a) 0 % B;
}
