-- The answers of the operations as the numbers that C is given.
use Rattle.std.proofs.Math.Option.{Option, none, some}
use Rattle.std.specs.Prelude.{ℕ}
use Rattle.rules.specs.Answer.{Answer, refused, gives}
use Rattle.learning.specs.Learner as learner
use Rattle.learning.specs.Learner.{done, unfinished}
use Rattle.apart.specs.Apart as states
use Rattle.sheets.specs.Machines as machines
use Rattle.sheets.specs.Proofs as proofs
use Rattle.handheld.specs.declared.Output.{Output}
use Rattle.handheld.specs.declared.Size.{Size}
use Rattle.handheld.specs.declared.Length.{Length}
use Rattle.handheld.specs.declared.Outcome.{Outcome}
use Rattle.handheld.specs.declared.Counts.{Counts}
use Rattle.handheld.specs.declared.Apart.{Apart}

-- a check's number, 0 where nothing is refused
abbrev pub refusal_of : Answer (Unit {0}) → ℕ
refusal_of (refused x) = x
refusal_of (gives u) = 0

abbrev pub output_of : Answer ℕ → Output
output_of (refused x) = record { refusal = x; output = 0 }
output_of (gives output) = record { refusal = 0; output = output }

abbrev pub size_of : Answer machines.Size → Size
size_of (refused x) = record { refusal = x; n = 0; k = 0 }
size_of (gives s) = record { refusal = 0; n = s.n; k = s.k }

abbrev pub length_of : Answer ℕ → Length
length_of (refused x) = record { refusal = x; length = 0 }
length_of (gives length) = record { refusal = 0; length = length }

-- 0 for a refusal, 1 for Done, 2 for Open; then the number, and the counts
abbrev pub outcome_of : Answer learner.Learnt → Outcome
outcome_of (refused x) = record { kind = 0; refusal = x; states = 0; rounds = 0; cells = 0; bytes = 0 }
outcome_of (gives (done c)) = record { kind = 1; refusal = 0; states = c.states; rounds = c.rounds; cells = c.cells; bytes = c.bytes }
outcome_of (gives (unfinished c)) = record { kind = 2; refusal = 0; states = c.states; rounds = c.rounds; cells = c.cells; bytes = c.bytes }

abbrev pub counts_of : Answer proofs.Counts → Counts
counts_of (refused x) = record { refusal = x; m = 0; k = 0; n = 0; c = 0 }
counts_of (gives h) = record { refusal = 0; m = h.m; k = h.k; n = h.n; c = h.c }

-- 0 for a refusal, 1 for a word, 2 for none; then the number, the word's length and both last outputs
abbrev pub apart_of : Answer (Option states.Told) → Apart
apart_of (refused x) = record { kind = 0; refusal = x; length = 0; first = 0; second = 0 }
apart_of (gives none) = record { kind = 2; refusal = 0; length = 0; first = 0; second = 0 }
apart_of (gives (some w)) = record { kind = 1; refusal = 0; length = w.length; first = w.first; second = w.second }
