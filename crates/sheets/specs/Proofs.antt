-- Document 01: reading a proof sheet, and the AW record of a state.
use Rattle.std.specs.Prelude.{Bool, true, false, ◌||◌, List, [], ◌∷◌, ℕ, zero, suc, length, get_or, eqb, ltb, leb}
use Rattle.rules.specs.Words.{Word}
use Rattle.rules.specs.Answer.{Answer, refused, gives, within}
use Rattle.rules.specs.Sheets.{PH, AW, CW, SM, Proof, word_bytes}
use Rattle.std.specs.List.{list_all}
use Rattle.machine.specs.Lent.{letters_below}
use Rattle.sheets.specs.Reading.{Parsed, bad, good, Reader, pure, ◌>>=◌, ◌>>◌, demand, present, byte, grab, at_end, mark, rows}

-- one record of a word: mark, length low to high, letters below k
unfoldable pub word_record : List ℕ → ℕ → ℕ → ℕ → Reader Word
unfolding mark
word_record due low high k = do
  mark due
  length ← byte
  demand (within low high length) 6
  present length
  w ← grab length
  demand (letters_below k w) 6
  pure w

unfoldable pub word_records : List ℕ → ℕ → ℕ → ℕ → ℕ → Reader (List Word)
unfolding word_record
word_records due low high k zero = pure []
word_records due low high k (suc r) = do
  w ← word_record due low high k
  others ← word_records due low high k r
  pure (w ∷ others)

-- a byte of the state map: below m, or 255 for none
abbrev pub map_byte : ℕ → ℕ → Bool
map_byte m b = ltb b m || eqb b 255

unfoldable pub proof_sheet : Reader Proof
unfolding mark rows word_records
proof_sheet = do
  mark PH
  present 4
  m ← byte
  k ← byte
  n ← byte
  c ← byte
  demand (within 1 48 m) 3
  demand (within 1 12 k) 3
  demand (within 1 48 n) 3
  demand (leb c 59) 3
  model ← rows m k m
  reaching ← word_records AW 0 47 k m
  columns ← word_records CW 1 93 k c
  mark SM
  present n
  states ← grab n
  demand (list_all (map_byte m) states) 4
  at_end
  pure (record { m = m; k = k; n = n; c = c; model = model; reaching = reaching; columns = columns; state_map = states })

-- what reading gives; it writes nothing
pub record Counts : Type 0 where
  pub m : ℕ
  pub k : ℕ
  pub n : ℕ
  pub c : ℕ

abbrev pub counts_of : Parsed Proof → Answer Counts
counts_of (bad number) = refused number
counts_of (good P rest) = gives (record { m = P.m; k = P.k; n = P.n; c = P.c })

unfoldable pub read_proof : List ℕ → Answer Counts
unfolding proof_sheet
read_proof bytes = counts_of (proof_sheet bytes)

-- the AW record of a state, mark included; the empty part for a sheet that is refused or a state not below m
abbrev pub record_of : Parsed Proof → ℕ → List ℕ
record_of (bad number) state = []
record_of (good P rest) state = elim (ltb state P.m) [ false ↦ [] | true ↦ word_bytes AW (get_or P.reaching state []) ]

unfoldable pub aw_record : List ℕ → ℕ → List ℕ
unfolding proof_sheet word_bytes
aw_record bytes state = record_of (proof_sheet bytes) state
