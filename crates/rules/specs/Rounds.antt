-- Document 01, 'Table, rounds and stop': a round, the rounds, and where they stop. `find` gives the counterexample of a closed table,
-- whatever its source; `room` is the room of each closing.
use Rattle.std.proofs.Math.Option.{Option, none, some}
use Rattle.std.specs.Prelude.{List, [], ◌∷◌, ◌++◌, length}
use Prim.Native.Nat.{ℕ, zero, suc, ◌+◌, ◌*◌}
use Rattle.rules.specs.Words.{Word}
use Rattle.rules.specs.Table.{close, suffix}

-- where the learner stops: the words, the columns, the rounds past, and the counterexample that is left
pub record Stop : Type 0 where
  pub S : List Word
  pub E : List Word
  pub past : ℕ
  pub left : Option Word

-- the columns after a round with the word w
unfoldable pub more : (Word → ℕ) → ℕ → List Word → List Word → Word → List Word
unfolding suffix
more ask τ E S w = E ++ (suffix ask τ E S w ∷ [])

module _ (ask : Word → ℕ) (k τ room : ℕ) (find : List Word → List Word → Option Word) where
  -- from a closed table, with r rounds left and p past
  unfoldable pub rounds : ℕ → ℕ → List Word → List Word → Stop
  unfolding close more
  rounds zero p E S = record { S = S; E = E; past = p; left = find E S }
  rounds (suc r) p E S =
      elim (find E S) [
        | none ↦ record { S = S; E = E; past = p; left = none }
        | some w ↦ rounds r (suc p) (more ask τ E S w) (close ask k room (more ask τ E S w) S)
      ]

  -- from the empty word alone and the first columns E
  unfoldable pub learned : ℕ → List Word → Stop
  unfolding rounds close
  learned r E = rounds r 0 E (close ask k room E ([] ∷ []))

-- rows times columns
unfoldable pub cell_count : ℕ → Stop → ℕ
cell_count k x = (1 + length x.S * k) * length x.E
