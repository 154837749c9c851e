-- Document 02, M-105: the least word on which two states of a machine answer differently, with both last outputs, or none.
use Rattle.std.proofs.Math.Option.{Option, none, some}
use Rattle.std.specs.Prelude.{List, ℕ, length, ltb, leb}
use Rattle.rules.specs.Words.{Word}
use Rattle.rules.specs.Areas.{over}
use Rattle.rules.specs.Machine.{Machine, lent, last_from}
use Rattle.rules.specs.Difference.{difference}
use Rattle.rules.specs.Answer.{Answer, refused, gives, demand, ◌>>◌}
use Rattle.machine.specs.Lent.{link, lent_check}

-- the word's length, and its last output from each state
pub record Told : Type 0 where
  pub length : ℕ
  pub first : ℕ
  pub second : ℕ

-- the answer, and the area after it
pub record Left : Type 0 where
  pub answer : Answer (Option Told)
  pub area : List ℕ

-- machine, then a state not below n 4, then an area under 47 bytes 9
unfoldable pub asked : ℕ → ℕ → List ℕ → ℕ → ℕ → List ℕ → Answer (Unit {0})
unfolding lent_check
asked n k words s t area = do
  lent_check n k words
  demand (ltb s n) 4
  demand (ltb t n) 4
  demand (leb 47 (length area)) 9

-- the word goes to the start of the area
abbrev pub tells : Machine → ℕ → ℕ → Option Word → List ℕ → Left
tells M s t none area = record { answer = gives none; area = area }
tells M s t (some w) area = record {
  answer = gives (some (record { length = length w; first = last_from M 0 s w; second = last_from M 0 t w }));
  area = over w area;
}

-- a refusal writes nothing
abbrev pub leaves : Answer (Unit {0}) → ℕ → Machine → ℕ → ℕ → List ℕ → Left
leaves (refused x) k M s t area = record { answer = refused x; area = area }
leaves (gives u) k M s t area = tells M s t (difference M M k s t) area

unfoldable pub apart : ℕ → ℕ → List ℕ → ℕ → ℕ → List ℕ → Left
unfolding asked difference over last_from lent
apart n k words s t area = leaves (asked n k words s t area) k (link n k words) s t area
