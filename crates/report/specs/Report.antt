-- Document 01, 'M1, by hand': what the program `learn` prints for the bytes that it reads.
use Rattle.std.specs.Prelude.{List, [], ◌∷◌, ◌++◌, ℕ, zero, suc, ◌+◌, ◌*◌, ◌/◌, ◌%◌, get_or, take}
use Rattle.rules.specs.Areas.{zeros}
use Rattle.rules.specs.Answer.{Answer, refused, gives}
use Rattle.text.specs.Decimal.{decimal}
use Rattle.learning.specs.Learner.{Counts, Learnt, done, unfinished, Left, table_size, sheet_size, learn}
use Rattle.sheets.specs.Machines.{Size, read_machine}

-- a number, and the byte after it
unfoldable pub number : ℕ → ℕ → List ℕ
unfolding decimal
number x end = decimal x ++ (end ∷ [])

-- four numbers with spaces between them, and a newline
unfoldable pub line : ℕ → ℕ → ℕ → ℕ → List ℕ
unfolding number
line a b c d = number a 32 ++ (number b 32 ++ (number c 32 ++ number d 10))

-- `refused `
abbrev pub refused_mark : List ℕ
refused_mark = 0x72 ∷ 0x65 ∷ 0x66 ∷ 0x75 ∷ 0x73 ∷ 0x65 ∷ 0x64 ∷ 0x20 ∷ []

-- `model `
abbrev pub model_mark : List ℕ
model_mark = 0x6D ∷ 0x6F ∷ 0x64 ∷ 0x65 ∷ 0x6C ∷ 0x20 ∷ []

-- a refusal is one line, with its number
unfoldable pub refusal : ℕ → List ℕ
unfolding number
refusal x = refused_mark ++ number x 10

-- state, letter, output and next: a pair of the model's rows on a proof sheet, which begin at 6
unfoldable pub pair_line : ℕ → List ℕ → ℕ → List ℕ
unfolding line
pair_line k sheet i =
    let at = 6 + (i / k * (2 + 2 * k) + (2 + 2 * (i % k))) in
    line (i / k) (i % k) (get_or sheet at 0) (get_or sheet (at + 1) 0)

-- the first of them
unfoldable pub pair_lines : ℕ → List ℕ → ℕ → List ℕ
unfolding pair_line
pair_lines k sheet zero = []
pair_lines k sheet (suc i) = pair_lines k sheet i ++ pair_line k sheet i

-- states, letters, rounds and cells; then all pairs
unfoldable pub model : ℕ → Counts → List ℕ → List ℕ
unfolding line pair_lines
model k c sheet = model_mark ++ (line c.states k c.rounds c.cells ++ pair_lines k sheet (c.states * k))

-- what the learner's answer, with the sheet that it left, makes of it. With 47 rounds it is never open, so nothing is said of that.
abbrev pub told : ℕ → Answer Learnt → List ℕ → List ℕ
told k (refused x) sheet = refusal x
told k (gives (done c)) sheet = model k c sheet
told k (gives (unfinished c)) sheet = []

abbrev pub told_of : ℕ → Left → List ℕ
told_of k l = told k l.answer l.sheet

-- L = 48 and R = 47, for a machine sheet that can be read
abbrev pub read_told : Answer Size → List ℕ → List ℕ
read_told (refused x) words = refusal x
read_told (gives s) words = told_of s.k (learn s.n s.k (take (s.n * s.k) words) 48 47 (zeros table_size) (zeros sheet_size))

unfoldable pub report : List ℕ → List ℕ
unfolding read_machine learn refusal model zeros
report bytes = let l = read_machine bytes (zeros 576) in read_told l.answer l.area
