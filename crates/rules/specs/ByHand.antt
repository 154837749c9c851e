-- M1 by hand, over the definitions of this crate: the words, the columns, the round and its counterexample, computed.
use Rattle.std.specs.Prelude.{◌≡◌, refl, List, [], ◌∷◌, map, ℕ}
use Rattle.std.proofs.Math.Option.{none, some}
use Rattle.rules.specs.Words.{Word}
use Rattle.rules.specs.Machine.{Machine, lent, ask}
use Rattle.rules.specs.Table.{from, one_letter, row, cells, suffix}
use Rattle.rules.specs.Numbering.{reaching_words, state_map}
use Rattle.rules.specs.Table.{conjecture}
use Rattle.rules.specs.Links.{counterexample, stopped}

-- four states, two letters, as words 256·next + output; no word reaches state 3
pub m1 : Machine
unfolding lent
m1 = lent 256 4 2 (256 ∷ 0 ∷ 512 ∷ 256 ∷ 1 ∷ 512 ∷ 769 ∷ 0 ∷ [])

pub words : List Word
words = [] ∷ (0 ∷ []) ∷ (0 ∷ 0 ∷ []) ∷ []

pub columns : List Word
columns = (0 ∷ []) ∷ (1 ∷ []) ∷ (0 ∷ 0 ∷ []) ∷ []

-- round 0: the empty word alone is closed; the least difference is 000, and what is kept of it is 00
pub first_difference : counterexample 2 m1 (one_letter 2) ([] ∷ []) ≡ some (0 ∷ 0 ∷ 0 ∷ [])
unfolding counterexample m1 one_letter
first_difference = refl

pub first_suffix : suffix (ask m1) 1 (one_letter 2) ([] ∷ []) (0 ∷ 0 ∷ 0 ∷ []) ≡ 0 ∷ 0 ∷ []
unfolding suffix ask one_letter m1
first_suffix = refl

-- one round later: three words, three columns, no difference left
pub stop : stopped 2 m1 47 ≡ record { S = words; E = columns; past = 1; left = none }
unfolding stopped m1 words columns
stop = refl

-- the table of 7 rows and 3 columns
pub table : map (λ (r : ℕ). cells (ask m1) columns (row 2 words r)) (from 0 7)
    ≡ (0 ∷ 0 ∷ 0 ∷ []) ∷ (0 ∷ 0 ∷ 1 ∷ []) ∷ (0 ∷ 0 ∷ 0 ∷ []) ∷ (1 ∷ 0 ∷ 0 ∷ []) ∷ (0 ∷ 0 ∷ 1 ∷ []) ∷ (0 ∷ 0 ∷ 0 ∷ []) ∷ (1 ∷ 0 ∷ 0 ∷ []) ∷ []
unfolding cells row from ask m1 words columns
table = refl

-- the model's least words, and the state map with none for state 3
pub least_words : reaching_words 2 (conjecture (ask m1) columns words) ≡ words
unfolding reaching_words conjecture ask m1 words columns
least_words = refl

pub states : state_map 2 m1 (conjecture (ask m1) columns words) ≡ 0 ∷ 1 ∷ 2 ∷ 255 ∷ []
unfolding state_map conjecture ask m1 words columns
states = refl
