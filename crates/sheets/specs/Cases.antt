-- Document 01, 'M1, by hand': the cases marked P, computed over the definitions, with every byte that the paper prints.
use Rattle.std.specs.Prelude.{◌≡◌, refl, Bool, true, false, List, [], ◌∷◌, ◌++◌, ℕ, suc, length, take, replicate, eqb}
use Rattle.rules.specs.Tests.{eqs}
use Rattle.rules.specs.Areas.{zeros}
use Rattle.rules.specs.Answer.{Answer, refused, gives}
use Rattle.learning.specs.Learner as learner
use Rattle.learning.specs.Learner.{learn, Learnt, done, unfinished, table_size, sheet_size}
use Rattle.sheets.specs.Reading.{Parsed, bad, good}
use Rattle.sheets.specs.Machines.{Sheet, machine_sheet}
use Rattle.sheets.specs.Checker.{check}

-- ---- M1 and its proof sheet, record by record
abbrev row0 : List ℕ
row0 = 0x4D ∷ 0x52 ∷ 0 ∷ 1 ∷ 0 ∷ 0 ∷ []

abbrev row1 : List ℕ
row1 = 0x4D ∷ 0x52 ∷ 0 ∷ 2 ∷ 0 ∷ 1 ∷ []

abbrev row2 : List ℕ
row2 = 0x4D ∷ 0x52 ∷ 1 ∷ 0 ∷ 0 ∷ 2 ∷ []

abbrev row3 : List ℕ
row3 = 0x4D ∷ 0x52 ∷ 1 ∷ 3 ∷ 0 ∷ 0 ∷ []

abbrev pub m1 : List ℕ
m1 = 0x4D ∷ 0x48 ∷ 4 ∷ 2 ∷ (row0 ++ (row1 ++ (row2 ++ row3)))

-- MH 01 01 · MR 07 00
abbrev seven : List ℕ
seven = 0x4D ∷ 0x48 ∷ 1 ∷ 1 ∷ 0x4D ∷ 0x52 ∷ 7 ∷ 0 ∷ []

-- PH 03 02 04 and c, the first three rows of M1
abbrev head : ℕ → List ℕ
head c = 0x50 ∷ 0x48 ∷ 3 ∷ 2 ∷ 4 ∷ c ∷ (row0 ++ (row1 ++ row2))

-- AW 00 · AW 01 00, and the letters for state 2 with their length
abbrev words : List ℕ → List ℕ
words last = 0x41 ∷ 0x57 ∷ 0 ∷ 0x41 ∷ 0x57 ∷ 1 ∷ 0 ∷ 0x41 ∷ 0x57 ∷ last

abbrev column0 : List ℕ
column0 = 0x43 ∷ 0x57 ∷ 1 ∷ 0 ∷ []

abbrev column1 : List ℕ
column1 = 0x43 ∷ 0x57 ∷ 1 ∷ 1 ∷ []

abbrev column00 : List ℕ
column00 = 0x43 ∷ 0x57 ∷ 2 ∷ 0 ∷ 0 ∷ []

-- SM 00 01 02, and the byte for state 3
abbrev states : ℕ → List ℕ
states last = 0x53 ∷ 0x4D ∷ 0 ∷ 1 ∷ 2 ∷ last ∷ []

abbrev pub p1 : List ℕ
p1 = head 3 ++ (words (2 ∷ 0 ∷ 0 ∷ []) ++ (column0 ++ (column1 ++ (column00 ++ states 0xFF))))

-- ---- an answer as numbers: a refusal's number after 0; 1 for Done and 2 for Open with the counts and the bytes written
abbrev numbers : learner.Left → Answer Learnt → List ℕ
numbers x (refused number) = 0 ∷ number ∷ []
numbers x (gives (done c)) = 1 ∷ c.states ∷ c.rounds ∷ c.cells ∷ take c.bytes x.sheet
numbers x (gives (unfinished c)) = 2 ∷ c.states ∷ c.rounds ∷ c.cells ∷ take c.bytes x.sheet

abbrev said : learner.Left → List ℕ
said x = numbers x x.answer

abbrev learn_parsed : Parsed Sheet → ℕ → ℕ → List ℕ
learn_parsed (bad number) L R = 0 ∷ number ∷ []
learn_parsed (good s rest) L R = said (learn s.n s.k s.words L R (replicate table_size 0xEE) (replicate sheet_size 0xEE))

-- a machine sheet is read and learnt
abbrev learn_sheet : List ℕ → ℕ → ℕ → List ℕ
learn_sheet bytes L R = learn_parsed (machine_sheet bytes) L R

abbrev number : Answer (Unit {0}) → ℕ
number (refused x) = x
number (gives u) = 0

abbrev check_parsed : Parsed Sheet → List ℕ → ℕ
check_parsed (bad x) sheet = x
check_parsed (good s rest) sheet = number (check s.n s.k s.words sheet)

-- a proof sheet is held against a machine sheet: 0 for accepted
abbrev check_sheet : List ℕ → List ℕ → ℕ
check_sheet bytes sheet = check_parsed (machine_sheet bytes) sheet

-- the places of the tests that fail
pub failed : ℕ → List Bool → List ℕ
failed i [] = []
failed i (true ∷ tests) = failed (suc i) tests
failed i (false ∷ tests) = i ∷ failed (suc i) tests

pub cases : List Bool
unfolding machine_sheet learn check eqs
cases =
    eqb (length p1) 55
    -- M1 done
    ∷ eqs (learn_sheet m1 48 47) (1 ∷ 3 ∷ 1 ∷ 21 ∷ p1)
    -- M1, R = 0, L = 1: open, CX 03 00 00 00
    ∷ eqs (learn_sheet m1 1 0) (2 ∷ 1 ∷ 0 ∷ 6 ∷ 0x43 ∷ 0x58 ∷ 3 ∷ 0 ∷ 0 ∷ 0 ∷ [])
    -- M1, R = 47, L = 2: 10; L = 3: done
    ∷ eqs (learn_sheet m1 2 47) (0 ∷ 10 ∷ [])
    ∷ eqs (learn_sheet m1 3 47) (1 ∷ 3 ∷ 1 ∷ 21 ∷ p1)
    -- one state, 0 rounds, 2 cells
    ∷ eqs (take 4 (learn_sheet seven 48 47)) (1 ∷ 1 ∷ 0 ∷ 2 ∷ [])
    -- empty sheet; MH 00 01; MH 31 01; MH 30 01 alone
    ∷ eqs (learn_sheet [] 48 47) (0 ∷ 1 ∷ [])
    ∷ eqs (learn_sheet (0x4D ∷ 0x48 ∷ 0 ∷ 1 ∷ []) 48 47) (0 ∷ 3 ∷ [])
    ∷ eqs (learn_sheet (0x4D ∷ 0x48 ∷ 0x31 ∷ 1 ∷ []) 48 47) (0 ∷ 3 ∷ [])
    ∷ eqs (learn_sheet (0x4D ∷ 0x48 ∷ 0x30 ∷ 1 ∷ []) 48 47) (0 ∷ 1 ∷ [])
    -- M1 with its last byte 04; with a byte more
    ∷ eqs (learn_sheet (take 27 m1 ++ (4 ∷ [])) 48 47) (0 ∷ 4 ∷ [])
    ∷ eqs (learn_sheet (m1 ++ (0 ∷ [])) 48 47) (0 ∷ 5 ∷ [])
    -- the proof sheet is accepted; without the CW for letter 1 too; without the CW of two letters: 13
    ∷ eqb (check_sheet m1 p1) 0
    ∷ eqb (check_sheet m1 (head 2 ++ (words (2 ∷ 0 ∷ 0 ∷ []) ++ (column0 ++ (column00 ++ states 0xFF))))) 0
    ∷ eqb (check_sheet m1 (head 2 ++ (words (2 ∷ 0 ∷ 0 ∷ []) ++ (column0 ++ (column1 ++ states 0xFF))))) 13
    -- AW 01 00 for state 2; SM 00 01 02 02
    ∷ eqb (check_sheet m1 (head 3 ++ (words (1 ∷ 0 ∷ []) ++ (column0 ++ (column1 ++ (column00 ++ states 0xFF)))))) 12
    ∷ eqb (check_sheet m1 (head 3 ++ (words (2 ∷ 0 ∷ 0 ∷ []) ++ (column0 ++ (column1 ++ (column00 ++ states 2)))))) 14
    ∷ []

-- THE P CASES: none of them fails
pub p_cases_hold : failed 0 cases ≡ []
unfolding cases failed
p_cases_hold = refl

-- ---- the table that M1 leaves: 7 rows of 3 cells, and zeros elsewhere in the first 34,043 bytes
-- three cells at the start of a row of the area
abbrev pub cells_of : ℕ → ℕ → ℕ → List ℕ
cells_of x y z = x ∷ y ∷ z ∷ zeros 56

abbrev pub table_parsed : Parsed Sheet → List ℕ
table_parsed (bad number) = []
table_parsed (good s rest) = (learn s.n s.k s.words 48 47 (replicate table_size 0xEE) (replicate sheet_size 0xEE)).table

-- the table area after a machine sheet was read and learnt
abbrev pub learn_table : List ℕ → List ℕ
learn_table bytes = table_parsed (machine_sheet bytes)

pub m1_table : learn_table m1 ≡ cells_of 0 0 0 ++ (cells_of 0 0 1 ++ (cells_of 0 0 0 ++ (cells_of 1 0 0 ++ (cells_of 0 0 1 ++ (cells_of 0 0 0 ++ (cells_of 1 0 0 ++ zeros 33630))))))
unfolding learn machine_sheet zeros
m1_table = refl
