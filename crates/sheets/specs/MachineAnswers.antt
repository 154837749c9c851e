-- The answers of machine sheets in the paper's terms, and that the promises fix them with the area: two that meet one promise are equal.
use Rattle.std.specs.Prelude.{◌≡◌, Result, List, ℕ}
use Rattle.std.proofs.Common.{sym, ap, ◌∙◌}
use Rattle.rules.specs.Answer.{Answer}
use Rattle.machine.specs.declared.refusal.Refusal.{Refusal}
use Rattle.machine.specs.Answers.{answer, answered, answer_fixed, answered_fixed}
use Rattle.sheets.specs.declared.machines.Size as code
use Rattle.sheets.specs.Machines.{Size, Left, read_machine, write_machine}

-- n and k, as reading gives them
abbrev pub size_of : code.Size → Size
size_of s = record { n = s.n; k = s.k }

abbrev pub read_of : Result code.Size Refusal → Answer Size
read_of r = answer size_of r

size_of_fixed : (x y : code.Size) → size_of x ≡ size_of y → x ≡ y
size_of_fixed x y e = ap (λ (s : Size). record { n = s.n; k = s.k }) e

-- what `read` promises of an answer x and of the area a after it
abbrev pub ReadPromise : List ℕ → List ℕ → Result code.Size Refusal → List ℕ → Type 0
ReadPromise bytes area x a = record { answer = read_of x; area = a } ≡ read_machine bytes area

-- what `write` promises
abbrev pub WritePromise : ℕ → ℕ → List ℕ → List ℕ → Result ℕ Refusal → List ℕ → Type 0
WritePromise n k words area x a = record { answer = answered x; area = a } ≡ write_machine n k words area

pub read_fixed : (bytes area : List ℕ) (x y : Result code.Size Refusal) (a b : List ℕ) → ReadPromise bytes area x a → ReadPromise bytes area y b → (x ≡ y) × (a ≡ b)
read_fixed bytes area x y a b p q =
    let e = p ∙ sym q in
    (answer_fixed size_of size_of_fixed x y (ap (λ (l : Left Size). l.answer) e), ap (λ (l : Left Size). l.area) e)

pub write_fixed : (n k : ℕ) (words area : List ℕ) (x y : Result ℕ Refusal) (a b : List ℕ) → WritePromise n k words area x a → WritePromise n k words area y b → (x ≡ y) × (a ≡ b)
write_fixed n k words area x y a b p q =
    let e = p ∙ sym q in
    (answered_fixed x y (ap (λ (l : Left ℕ). l.answer) e), ap (λ (l : Left ℕ). l.area) e)
