-- The model handed out is numbered by the least word reaching each state: the conjecture's states in the order of a breadth first
-- search. The state map gives each machine state the number of the model state that its least word reaches.
use Rattle.std.specs.Prelude.{true, false, ℕ, get_or, ltb}
use mathlib.Core.List.{List, [], map}
use Rattle.std.proofs.Math.ListN.{length}
use Rattle.std.proofs.Math.Dec.{eqb}
use Rattle.rules.specs.Words.{Word}
use Rattle.rules.specs.Seek.{seek}
use Rattle.rules.specs.Search.{Entry, walk, explore}
use Rattle.rules.specs.Machine.{Machine}
use Rattle.rules.specs.Table.{from}

-- the place of x in a list of numbers, its length where x is not there
unfoldable pub place : List ℕ → ℕ → ℕ
unfolding seek
place xs x = seek (λ (j : ℕ). eqb (get_or xs j 0) x) 0 (length xs)

module _ (k : ℕ) (M : Machine) where
  -- the states that words reach, each with its least word, in the order of these words
  unfoldable pub reached : List (Entry ℕ)
  unfolding explore
  reached = explore eqb M.next 0 k M.states

  unfoldable pub order : List ℕ
  unfolding reached
  order = map (λ (e : Entry ℕ). e.node) reached

  unfoldable pub reaching_words : List Word
  unfolding reached
  reaching_words = map (λ (e : Entry ℕ). e.word) reached

  -- the machine with its reachable states numbered in that order
  unfoldable pub renumbered : Machine
  unfolding order place
  renumbered = record {
    states = length order;
    next = λ i a. place order (M.next (get_or order i 0) a);
    out = λ i a. M.out (get_or order i 0) a;
  }

-- the model state of the machine state s, or 255 where no word reaches s; C is the model before it was numbered
unfoldable pub model_state : ℕ → Machine → Machine → ℕ → ℕ
unfolding order reaching_words place
model_state k M C s =
    elim (ltb (place (order k M) s) (length (order k M))) [
      | false ↦ 255
      | true ↦ place (order k C) (walk C.next 0 (get_or (reaching_words k M) (place (order k M) s) []))
    ]

unfoldable pub state_map : ℕ → Machine → Machine → List ℕ
unfolding model_state from
state_map k M C = map (model_state k M C) (from 0 M.states)
