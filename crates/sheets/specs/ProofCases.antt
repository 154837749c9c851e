-- The proof sheet of M1, by hand: it is read, each refusal is given in its place, and the AW records lie where they are counted.
-- Its header stands at 0, its rows at 6, AW at 24, 27 and 31, CW at 36, 40 and 44, SM at 49 with its bytes from 51 to 54.
use Rattle.std.specs.Prelude.{◌≡◌, refl, List, [], ◌∷◌, ◌++◌, map, ℕ, take, set}
use Rattle.rules.specs.Answer.{Answer, refused, gives}
use Rattle.sheets.specs.Proofs.{Counts, read_proof, aw_record}
use Rattle.sheets.specs.ProofParts.{counts, aw_place}
use Rattle.sheets.specs.Cases.{p1}

-- a refusal's number, 0 for none
abbrev number : Answer Counts → ℕ
number (refused x) = x
number (gives h) = 0

abbrev pub numbers : List (List ℕ) → List ℕ
numbers sheets = map (λ (sheet : List ℕ). number (read_proof sheet)) sheets

pub sheet_read : read_proof p1 ≡ gives (counts 3 2 4 3)
unfolding read_proof
sheet_read = refl

-- mark absent, wrong; numbers absent, though m is 49; m 49 and 0, k 13, n 0, c 60
pub header_refused : numbers (take 1 p1 ∷ set p1 1 0x49 ∷ take 5 (set p1 2 49) ∷ take 6 (set p1 2 49) ∷ set p1 2 0 ∷ set p1 3 13 ∷ set p1 4 0 ∷ set p1 5 60 ∷ [])
    ≡ 1 ∷ 2 ∷ 1 ∷ 3 ∷ 3 ∷ 3 ∷ 3 ∷ 3 ∷ []
unfolding read_proof
header_refused = refl

-- a row's last byte absent, though its first next state is 3; that next state alone
pub row_refused : numbers (take 11 (set p1 9 3) ∷ set p1 9 3 ∷ []) ≡ 1 ∷ 4 ∷ []
unfolding read_proof
row_refused = refl

-- one byte of a mark, wrong as it is; length absent; length 48 with nothing after it; letters absent; a letter not below k; a column of length 0
pub word_refused : numbers (take 25 (set p1 24 0) ∷ take 26 p1 ∷ take 27 (set p1 26 48) ∷ take 30 p1 ∷ set p1 30 2 ∷ set p1 38 0 ∷ []) ≡ 1 ∷ 1 ∷ 6 ∷ 1 ∷ 6 ∷ 6 ∷ []
unfolding read_proof
word_refused = refl

-- wrong mark; a byte absent, though another is 3; 254; 3; 2, which is a model state; a byte left over
pub map_refused : numbers (set p1 50 0 ∷ take 54 (set p1 51 3) ∷ set p1 54 254 ∷ set p1 54 3 ∷ set p1 54 2 ∷ (p1 ++ (0 ∷ [])) ∷ []) ≡ 2 ∷ 1 ∷ 4 ∷ 4 ∷ 0 ∷ 5 ∷ []
unfolding read_proof
map_refused = refl

-- of states 0, 1 and 2; none of state 3, and none in a sheet that is refused
pub aw_records : map (aw_record p1) (0 ∷ 1 ∷ 2 ∷ 3 ∷ []) ≡ (0x41 ∷ 0x57 ∷ 0 ∷ []) ∷ (0x41 ∷ 0x57 ∷ 1 ∷ 0 ∷ []) ∷ (0x41 ∷ 0x57 ∷ 2 ∷ 0 ∷ 0 ∷ []) ∷ [] ∷ []
unfolding aw_record
aw_records = refl

pub aw_places : map (aw_place p1) (0 ∷ 1 ∷ 2 ∷ 3 ∷ []) ≡ 24 ∷ 27 ∷ 31 ∷ 0 ∷ []
unfolding aw_place
aw_places = refl

pub aw_of_refused : aw_record (p1 ++ (0 ∷ [])) 0 ≡ []
unfolding aw_record
aw_of_refused = refl
