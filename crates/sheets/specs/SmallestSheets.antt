-- A proof sheet for any smallest model, whatever its numbering. That it is read and accepted: proofs/SmallestSheets.
use Rattle.std.specs.Prelude.{ℕ, length}
use mathlib.Core.List.{List}
use Rattle.rules.specs.Words.{Word}
use Rattle.rules.specs.Machine.{Machine}
use Rattle.rules.specs.Sheets.{Proof, words_of}

-- the sheet of a model N of the machine M, with the columns E
abbrev pub sheet_for : ℕ → Machine → List Word → Machine → List Word → List ℕ → Proof
sheet_for k M E N reaching states = record {
  m = N.states;
  k = k;
  n = M.states;
  c = length E;
  model = words_of 256 k N;
  reaching = reaching;
  columns = E;
  state_map = states;
}
