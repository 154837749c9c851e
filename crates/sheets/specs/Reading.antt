-- Document 01, 'Order': sheets are read left to right. A reader gives a value and the bytes that follow it, or the number of a refusal.
use Rattle.std.specs.Prelude.{Bool, true, false, List, [], ◌∷◌, ◌++◌, ℕ, zero, suc, ◌+◌, ◌*◌, length, take, drop, ltb, leb}
use Rattle.rules.specs.Tests.{eqs}
use Rattle.rules.specs.Sheets.{MR}

pub data Parsed (A : Type 0) : Type 0 where
  bad : ℕ → Parsed A
  good : A → List ℕ → Parsed A

abbrev pub Reader : Type 0 → Type 0
Reader A = List ℕ → Parsed A

abbrev pub pure : {A : Type 0} → A → Reader A
pure a bytes = good a bytes

abbrev pub and_then : {A B : Type 0} → Parsed A → (A → Reader B) → Parsed B
and_then (bad number) f = bad number
and_then (good a bytes) f = f a bytes

abbrev pub ◌>>=◌ : {A B : Type 0} → Reader A → (A → Reader B) → Reader B
◌>>=◌ p f bytes = and_then (p bytes) f

abbrev pub ◌>>◌ : {A B : Type 0} → Reader A → Reader B → Reader B
◌>>◌ p g bytes = and_then (p bytes) (λ a. g)

-- refuse with this number unless the test passes
abbrev pub demand : Bool → ℕ → Reader (Unit {0})
demand true number bytes = good tt bytes
demand false number bytes = bad number

-- n bytes must be there
abbrev pub present : ℕ → Reader (Unit {0})
present n bytes = demand (leb n (length bytes)) 1 bytes

abbrev pub byte : Reader ℕ
byte [] = bad 1
byte (b ∷ bytes) = good b bytes

-- the next n bytes
abbrev pub grab : ℕ → Reader (List ℕ)
grab n bytes = good (take n bytes) (drop n bytes)

-- no byte is left over
abbrev pub at_end : Reader (Unit {0})
at_end [] = good tt []
at_end (b ∷ bytes) = bad 5

-- mark present (1), mark right (2)
unfoldable pub mark : List ℕ → Reader (Unit {0})
unfolding eqs
mark due = do
  present 2
  found ← grab 2
  demand (eqs found due) 2

-- k pairs (output, next), next below n, as words
unfoldable pub pairs : ℕ → ℕ → Reader (List ℕ)
pairs n zero = pure []
pairs n (suc k) = do
  output ← byte
  next ← byte
  demand (ltb next n) 4
  words ← pairs n k
  pure ((256 * next + output) ∷ words)

-- r times MR with k pairs: the row's bytes are present (1) before any next is looked at (4)
unfoldable pub rows : ℕ → ℕ → ℕ → Reader (List ℕ)
unfolding mark pairs
rows n k zero = pure []
rows n k (suc r) = do
  mark MR
  present (2 * k)
  words ← pairs n k
  others ← rows n k r
  pure (words ++ others)
