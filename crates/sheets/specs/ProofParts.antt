-- The parts of a proof sheet as the code reads them one by one, and where the parts lie in it.
use Rattle.std.specs.Prelude.{◌≡◌, refl, Bool, true, false, ◌&&◌, List, ℕ, zero, suc, ◌+◌, ◌*◌, length, get_or, take, drop, ltb, leb}
use Rattle.rules.specs.Words.{Word}
use Rattle.rules.specs.Answer.{Answer, refused, gives, within}
use Rattle.rules.specs.Sheets.{PH, AW, CW, SM, Proof, words_bytes}
use Rattle.std.specs.List.{list_all}
use Rattle.machine.specs.Lent.{letters_below}
use Rattle.sheets.specs.Reading.{Parsed, bad, good, Reader, pure, and_then, ◌>>=◌, ◌>>◌, demand, present, byte, grab, at_end, mark, rows}
use Rattle.sheets.specs.Proofs.{word_records, map_byte, proof_sheet, Counts}

-- ---- the parts
abbrev pub counts : ℕ → ℕ → ℕ → ℕ → Counts
counts m k n c = record { m = m; k = k; n = n; c = c }

-- PH, its four numbers present, each in its range
unfoldable pub header : Reader Counts
header = do
  mark PH
  present 4
  m ← byte
  k ← byte
  n ← byte
  c ← byte
  demand (within 1 48 m) 3
  demand (within 1 12 k) 3
  demand (within 1 48 n) 3
  demand (leb c 59) 3
  pure (counts m k n c)

-- SM, its n bytes present, each below m or 255
unfoldable pub map_record : ℕ → ℕ → Reader (List ℕ)
map_record m n = do
  mark SM
  present n
  states ← grab n
  demand (list_all (map_byte m) states) 4
  pure states

-- what follows the header
unfoldable pub body : Counts → Reader Proof
body h = do
  model ← rows h.m h.k h.m
  reaching ← word_records AW 0 47 h.k h.m
  columns ← word_records CW 1 93 h.k h.c
  states ← map_record h.m h.n
  at_end
  pure (record { m = h.m; k = h.k; n = h.n; c = h.c; model = model; reaching = reaching; columns = columns; state_map = states })

-- the four numbers, each in its range
unfoldable pub in_range : Counts → Bool
in_range h = within 1 48 h.m && (within 1 12 h.k && (within 1 48 h.n && leb h.c 59))

-- a word's record after its mark and its length
unfoldable pub letters : ℕ → ℕ → ℕ → ℕ → Reader Word
letters low high k size = do
  demand (within low high size) 6
  present size
  w ← grab size
  demand (letters_below k w) 6
  pure w

-- what a step gives: its refusal, or its value
abbrev pub given : {A : Type 0} → Parsed A → Answer A
given (bad number) = refused number
given (good a rest) = gives a

-- ---- the sheet is its header and its body
then_same : {A B : Type 0} (p : Parsed A) (f g : A → Reader B) → ((a : A) (rest : List ℕ) → f a rest ≡ g a rest) → and_then p f ≡ and_then p g
then_same (bad x) f g h = refl
then_same (good a rest) f g h = h a rest

-- what follows a step may be taken in two parts
in_two : {A B C : Type 0} (p : Parsed A) (f : A → Reader C) (one : A → Reader B) (two : B → Reader C) → ((a : A) (rest : List ℕ) → f a rest ≡ and_then (one a rest) two)
    → and_then p f ≡ and_then (and_then p one) two
in_two (bad x) f one two h = refl
in_two (good a rest) f one two h = h a rest

pub sheet_parts : (bytes : List ℕ) → proof_sheet bytes ≡ and_then (header bytes) body
unfolding proof_sheet header body map_record
sheet_parts bytes =
    in_two (mark PH bytes) _ _ body (λ u r. in_two (present 4 r) _ _ body
    (λ u r. in_two (byte r) _ _ body (λ m r. in_two (byte r) _ _ body (λ k r. in_two (byte r) _ _ body (λ n r. in_two (byte r) _ _ body
    (λ c r. in_two (demand (within 1 48 m) 3 r) _ _ body (λ u r. in_two (demand (within 1 12 k) 3 r) _ _ body (λ u r. in_two (demand (within 1 48 n) 3 r) _ _ body (λ u r. in_two (demand (leb c 59) 3 r) _ _ body
    (λ u r. then_same (rows m k m r) _ _ (λ model r. then_same (word_records AW 0 47 k m r) _ _ (λ reaching r. then_same (word_records CW 1 93 k c r) _ _
    (λ columns r. in_two (mark SM r) _ _ _ (λ u r. in_two (present n r) _ _ _ (λ u r. in_two (demand (list_all (map_byte m) (take n r)) 4 (drop n r)) _ _ _ (λ u r. refl))))))))))))))))

-- ---- where the parts lie
-- the place of the record number j, counted from the record at a place: each has a mark, a length and that many letters
unfoldable pub record_place : List ℕ → ℕ → ℕ → ℕ
record_place bytes at zero = at
record_place bytes at (suc j) = record_place bytes (at + (3 + get_or bytes (at + 2) 0)) j

-- the place of the record number j, by the words before it
abbrev pub place_of : List ℕ → ℕ → List Word → ℕ → ℕ
place_of due at words j = at + length (words_bytes due (take j words))

-- the record of the word that reaches state j
unfoldable pub reaching_place : Proof → ℕ → ℕ
unfolding words_bytes
reaching_place P j = place_of AW (6 + P.m * (2 + 2 * P.k)) P.reaching j

-- the record of column j
unfoldable pub column_place : Proof → ℕ → ℕ
unfolding reaching_place
column_place P j = place_of CW (reaching_place P P.m) P.columns j

-- the mark of the state map, with its n bytes after it
unfoldable pub map_place : Proof → ℕ
unfolding column_place
map_place P = column_place P P.c

-- where the AW record of a state lies in a sheet; 0, with no bytes, for a sheet that is refused or a state not below m
abbrev pub place_in : Parsed Proof → ℕ → ℕ
place_in (bad number) state = 0
place_in (good P rest) state = elim (ltb state P.m) [ false ↦ 0 | true ↦ reaching_place P state ]

unfoldable pub aw_place : List ℕ → ℕ → ℕ
unfolding proof_sheet reaching_place
aw_place bytes state = place_in (proof_sheet bytes) state
