-- Breadth first search over a finite graph whose edges are letters: a queue of the nodes met, each with the word by which it was met
-- first. The nodes come in the order of the least words that reach them. Used for the counterexample (nodes are pairs of states), the
-- numbering by least words and the reachable states.
use Rattle.std.specs.Prelude.{◌≡◌, refl, ◌≢◌, Bool, List, [], ◌∷◌, ◌++◌, length, get_or, ltb}
use Rattle.std.proofs.Math.Bool.{true, false}
use Prim.Native.Nat.{ℕ, zero, suc, ◌≤◌, ◌<◌}
use Rattle.rules.specs.Words.{Word, Below, code}

-- the node that a word leads to
abbrev pub walk : {X : Type 0} → (X → ℕ → X) → X → Word → X
walk step x [] = x
walk step x (a ∷ w) = walk step (step x a) w

pub walk_append : {X : Type 0} (step : X → ℕ → X) (x : X) (u v : Word) → walk step x (u ++ v) ≡ walk step (walk step x u) v
walk_append step x [] v = refl
walk_append step x (a ∷ u) v = walk_append step (step x a) u v

-- a node that was met, and the word that met it
pub record Entry (X : Type 0) : Type 0 where
  pub node : X
  pub word : Word

-- the start, met by the empty word
abbrev pub starts : {X : Type 0} → X → Entry X
starts x0 = record { node = x0; word = [] }

module _ {X : Type 0} (same : X → X → Bool) (step : X → ℕ → X) (x0 : X) where
  unfoldable pub met : X → List (Entry X) → Bool
  met x [] = false
  met x (e ∷ queue) = elim (same e.node x) [ true ↦ true | false ↦ met x queue ]

  -- the node after the letter a joins the queue's end, unless it was met before
  unfoldable pub meet : Entry X → ℕ → List (Entry X) → List (Entry X)
  unfolding met
  meet e a queue =
      elim (met (step e.node a) queue) [ true ↦ queue | false ↦ queue ++ (record { node = step e.node a; word = e.word ++ (a ∷ []) } ∷ []) ]

  -- the letters a, a + 1, .. (j of them) at one entry
  unfoldable pub meet_all : Entry X → ℕ → ℕ → List (Entry X) → List (Entry X)
  unfolding meet
  meet_all e a zero queue = queue
  meet_all e a (suc j) queue = meet_all e (suc a) j (meet e a queue)

  -- the entries from place i on, with f turns left
  unfoldable pub explore_from : ℕ → ℕ → ℕ → List (Entry X) → List (Entry X)
  unfolding meet_all
  explore_from k zero i queue = queue
  explore_from k (suc f) i queue =
      elim (ltb i (length queue)) [ false ↦ queue | true ↦ explore_from k f (suc i) (meet_all (get_or queue i (starts x0)) 0 k queue) ]

  -- every node that some word of letters below k reaches from x0, in the order of the least such words; n bounds the number of nodes
  unfoldable pub explore : ℕ → ℕ → List (Entry X)
  unfolding explore_from
  explore k n = explore_from k n 0 (starts x0 ∷ [])

-- ---- what it means
-- y stands in the queue, met by a word whose number is at most c
pub record Covered {X : Type 0} (k : ℕ) (x0 : X) (queue : List (Entry X)) (y : X) (c : ℕ) : Type 0 where
  pub at : ℕ
  pub low : at < length queue
  pub node : (get_or queue at (starts x0)).node ≡ y
  pub early : code k 0 (get_or queue at (starts x0)).word ≤ c

pub record Explored {X : Type 0} (step : X → ℕ → X) (k : ℕ) (x0 : X) (queue : List (Entry X)) : Type 0 where
  -- the start stands first
  pub some : 0 < length queue
  pub start : get_or queue 0 (starts x0) ≡ starts x0
  -- each word leads to its node
  pub leads : (i : ℕ) → i < length queue → walk step x0 (get_or queue i (starts x0)).word ≡ (get_or queue i (starts x0)).node
  pub letters : (i : ℕ) → i < length queue → Below k (get_or queue i (starts x0)).word
  -- later places have later words and other nodes
  pub rising : (i j : ℕ) → i < j → j < length queue → code k 0 (get_or queue i (starts x0)).word < code k 0 (get_or queue j (starts x0)).word
  pub apart : (i j : ℕ) → i < j → j < length queue → (get_or queue i (starts x0)).node ≢ (get_or queue j (starts x0)).node
  -- whatever a word leads to was met, by a word that is no later
  pub every : (v : Word) → Below k v → Covered k x0 queue (walk step x0 v) (code k 0 v)
