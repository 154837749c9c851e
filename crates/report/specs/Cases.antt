-- Document 01, 'M1, by hand', computed over the definitions: what `learn` prints for M1, and for M1 with its last byte 04; what `proof`
-- sends for it, and what `accept` says of that.
use Rattle.std.specs.Prelude.{◌≡◌, refl, List, [], ◌∷◌, ◌++◌, ℕ, ◌+◌, take}
use Rattle.rules.specs.Answer.{gives}
use Rattle.rules.specs.Areas.{zeros}
use Rattle.learning.specs.Learner.{sheet_size}
use Rattle.sheets.specs.Cases.{m1, p1}
use Rattle.report.specs.Report.{report}
use Rattle.report.specs.Desk.{accepted, verdict, send}

-- a line of four digits
abbrev pub digits : ℕ → ℕ → ℕ → ℕ → List ℕ
digits a b c d = (48 + a) ∷ 0x20 ∷ (48 + b) ∷ 0x20 ∷ (48 + c) ∷ 0x20 ∷ (48 + d) ∷ 0x0A ∷ []

-- `model 3 2 1 21` and a newline
abbrev pub first : List ℕ
first = 0x6D ∷ 0x6F ∷ 0x64 ∷ 0x65 ∷ 0x6C ∷ 0x20 ∷ 0x33 ∷ 0x20 ∷ 0x32 ∷ 0x20 ∷ 0x31 ∷ 0x20 ∷ 0x32 ∷ 0x31 ∷ 0x0A ∷ []

pub m1_printed : report m1
    ≡ first ++ (digits 0 0 0 1 ++ (digits 0 1 0 0 ++ (digits 1 0 0 2 ++ (digits 1 1 0 1 ++ (digits 2 0 1 0 ++ digits 2 1 0 2)))))
unfolding report
m1_printed = refl

-- `refused 4` and a newline
pub m1_refused : report (take 27 m1 ++ (4 ∷ [])) ≡ 0x72 ∷ 0x65 ∷ 0x66 ∷ 0x75 ∷ 0x73 ∷ 0x65 ∷ 0x64 ∷ 0x20 ∷ 0x34 ∷ 0x0A ∷ []
unfolding report
m1_refused = refl

pub m1_sent : let l = send m1 (zeros sheet_size) in (l.answer ≡ gives 55) × (take 55 l.area ≡ p1)
unfolding send
m1_sent = (refl, refl)

pub m1_accepted : verdict m1 p1 ≡ accepted 3
unfolding verdict
m1_accepted = refl
