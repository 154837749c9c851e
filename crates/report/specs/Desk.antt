-- Document 01, 'Sheets': what the desk programs do with the bytes that they read. `accept` holds a proof sheet against a machine sheet;
-- `proof` sends the proof sheet of the machine on a machine sheet; `why` (02: M-105) says why two of its states are apart.
use Rattle.std.specs.Prelude.{List, ℕ, ◌*◌, get_or, take}
use Rattle.rules.specs.Areas.{zeros}
use Rattle.rules.specs.Answer.{Answer, refused, gives}
use Rattle.learning.specs.Learner as learner
use Rattle.learning.specs.Learner.{Learnt, done, unfinished, table_size, learn}
use Rattle.apart.specs.Apart as apart
use Rattle.sheets.specs.Machines.{Size, Left, read_machine}
use Rattle.sheets.specs.Checker.{check}

-- ---- accept
-- the model's size, or the number of a refusal of the one sheet or the other
pub data Verdict : Type 0 where
  accepted : ℕ → Verdict
  machine_refused : ℕ → Verdict
  proof_refused : ℕ → Verdict

abbrev pub judged : ℕ → Answer (Unit {0}) → Verdict
judged m (refused x) = proof_refused x
judged m (gives u) = accepted m

-- for a machine sheet that can be read; m stands on the proof sheet, after its mark
abbrev pub read_judged : Answer Size → List ℕ → List ℕ → Verdict
read_judged (refused x) words proof = machine_refused x
read_judged (gives s) words proof = judged (get_or proof 2 0) (check s.n s.k (take (s.n * s.k) words) proof)

unfoldable pub verdict : List ℕ → List ℕ → Verdict
unfolding read_machine check zeros
verdict machine proof = let l = read_machine machine (zeros 576) in read_judged l.answer l.area proof

-- ---- proof
-- the length of the sheet that the learner leaves. With 47 rounds it is never open, so nothing is sent of that.
abbrev pub length_of : Answer Learnt → Answer ℕ
length_of (refused x) = refused x
length_of (gives (done c)) = gives c.bytes
length_of (gives (unfinished c)) = gives 0

abbrev pub sending : learner.Left → Left ℕ
sending l = record { answer = length_of l.answer; area = l.sheet }

-- L = 48 and R = 47, for a machine sheet that can be read; a refusal leaves the area
abbrev pub read_sent : Answer Size → List ℕ → List ℕ → Left ℕ
read_sent (refused x) words area = record { answer = refused x; area = area }
read_sent (gives s) words area = sending (learn s.n s.k (take (s.n * s.k) words) 48 47 (zeros table_size) area)

unfoldable pub send : List ℕ → List ℕ → Left ℕ
unfolding read_machine learn zeros
send machine area = let l = read_machine machine (zeros 576) in read_sent l.answer l.area area

-- ---- why
-- for a machine sheet that can be read; a refusal leaves the area
abbrev pub read_apart : Answer Size → List ℕ → ℕ → ℕ → List ℕ → apart.Left
read_apart (refused x) words s t area = record { answer = refused x; area = area }
read_apart (gives z) words s t area = apart.apart z.n z.k (take (z.n * z.k) words) s t area

unfoldable pub why : List ℕ → ℕ → ℕ → List ℕ → apart.Left
unfolding read_machine apart.apart zeros
why machine s t area = let l = read_machine machine (zeros 576) in read_apart l.answer l.area s t area
