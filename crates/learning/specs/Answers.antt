-- The learner's answer in the paper's terms: a refusal's number, or its counts. They fix it.
use Rattle.std.specs.Prelude.{◌≡◌, Result, List, ℕ}
use Rattle.std.proofs.Common.{sym, ap, ◌∙◌}
use Rattle.rules.specs.Answer.{Answer}
use Rattle.machine.specs.declared.refusal.Refusal.{Refusal}
use Rattle.machine.specs.Answers.{answer, answer_fixed}
use Rattle.learning.specs.Learner as learner
use Rattle.learning.specs.Learner.{done, unfinished, learn}
use Rattle.learning.specs.declared.Counts.{Counts}
use Rattle.learning.specs.declared.Learnt.{Learnt}
use Rattle.learning.specs.declared.Learnt.TheVariants.{Done, Open}

abbrev pub counted : Counts → learner.Counts
counted c = record { states = c.states; rounds = c.rounds; cells = c.cells; bytes = c.bytes }

abbrev pub ending : Learnt → learner.Learnt
ending (Done c) = done (counted c)
ending (Open c) = unfinished (counted c)

abbrev pub learnt : Result Learnt Refusal → Answer learner.Learnt
learnt x = answer ending x

-- the four counts
same_counts : (c d : Counts) → counted c ≡ counted d → c ≡ d
same_counts c d e = ap (λ (x : learner.Counts). let y : Counts = record { states = x.states; rounds = x.rounds; cells = x.cells; bytes = x.bytes } in y) e

ending_fixed : (x y : Learnt) → ending x ≡ ending y → x ≡ y
ending_fixed (Done c) (Done d) e = let h : counted c ≡ counted d = cc in ap Done (same_counts c d h)
ending_fixed (Done c) (Open d) e = cc
ending_fixed (Open c) (Done d) e = cc
ending_fixed (Open c) (Open d) e = let h : counted c ≡ counted d = cc in ap Open (same_counts c d h)

-- two answers with their areas that meet the learner's promise are equal
pub learn_fixed : (n k : ℕ) (words : List ℕ) (L R : ℕ) (table sheet : List ℕ) (x y : Result Learnt Refusal) (t s t' s' : List ℕ)
    → record { answer = learnt x; table = t; sheet = s } ≡ learn n k words L R table sheet → record { answer = learnt y; table = t'; sheet = s' } ≡ learn n k words L R table sheet
    → (x ≡ y) × (t ≡ t') × (s ≡ s')
learn_fixed n k words L R table sheet x y t s t' s' p q =
    let e = p ∙ sym q in (
      answer_fixed ending ending_fixed x y (ap (λ (l : learner.Left). l.answer) e),
      ap (λ (l : learner.Left). l.table) e,
      ap (λ (l : learner.Left). l.sheet) e,
    )
