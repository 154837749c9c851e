-- The finished proof sheet as the code writes it, from the conjecture and the columns. That its parts make the whole: proofs/Sheet.
use Rattle.std.specs.Prelude.{ℕ, ◌+◌, ◌*◌, ◌/◌, ◌%◌, length}
use mathlib.Core.List.{List, [], ◌∷◌}
use Rattle.std.proofs.Math.ListN.{get_or}
use Rattle.rules.specs.Words.{Word}
use Rattle.rules.specs.Machine.{Machine}
use Rattle.rules.specs.Sheets.{Proof, row_bytes, words_of}
use Rattle.rules.specs.Numbering.{reaching_words, renumbered, state_map}

-- what the sheet says: the machine M, the model C numbered by least words with the words that reach its states, the columns E in table order,
-- and the model state of each machine state, 255 for an unreachable one
unfoldable pub numbered_sheet : ℕ → Machine → Machine → List Word → Proof
unfolding renumbered reaching_words state_map words_of
numbered_sheet k M C E = record {
  m = (renumbered k C).states;
  k = k;
  n = M.states;
  c = length E;
  model = words_of 256 k (renumbered k C);
  reaching = reaching_words k C;
  columns = E;
  state_map = state_map k M C;
}

-- the rows of the numbered model
abbrev pub model_bytes : ℕ → Machine → List ℕ
model_bytes k C = row_bytes k (renumbered k C).states (words_of 256 k (renumbered k C))

-- the numbered model's word of state i / k and letter i % k
abbrev pub word_of : ℕ → Machine → ℕ → ℕ
word_of k N i = 256 * N.next (i / k) (i % k) + N.out (i / k) (i % k)

-- ---- records of words
-- a mark of two bytes
abbrev pub mark_of : List ℕ → List ℕ
mark_of mark = get_or mark 0 0 ∷ get_or mark 1 0 ∷ []
