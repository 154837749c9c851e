-- The answers of the code in the paper's terms, and that these fix them: two answers that meet one promise are equal.
use Rattle.std.specs.Prelude.{◌≡◌, Result, Ok, Err, List, ℕ}
use Rattle.std.proofs.Common.{sym, ap, ◌∙◌, arith}
use Rattle.rules.specs.Answer.{Answer, refused, gives}
use Rattle.machine.specs.declared.refusal.Refusal.{Refusal}
use Rattle.rules.specs.Words.{Word}
use Rattle.machine.specs.Refusals.{number, number_inj}
use Rattle.machine.specs.Lent.{lent_check, question}

-- what is given, in the paper's terms, or a refusal's number
abbrev pub answer : {T A : Type 0} → (T → A) → Result T Refusal → Answer A
answer f (Ok x) = gives (f x)
answer f (Err r) = refused (number r)

abbrev pub answered : {T : Type 0} → Result T Refusal → Answer T
answered r = answer (λ x. x) r

-- an answer is no refusal
clash : {A : Type 0} {x : ℕ} {a : A} → ◌≡◌ {A = Answer A} (refused x) (gives a) → ⊥
clash e = let z : ◌≡◌ {A = ℕ} 0 1 = cc in omega arith

-- the paper's terms fix an answer if they fix what is given
pub answer_fixed : {T A : Type 0} (f : T → A) → ((x y : T) → f x ≡ f y → x ≡ y) → (x y : Result T Refusal) → answer f x ≡ answer f y → x ≡ y
answer_fixed f inj (Ok x) (Ok y) e = let h : f x ≡ f y = cc in ap Ok (inj x y h)
answer_fixed f inj (Ok x) (Err s) e = absurd (clash (sym e))
answer_fixed f inj (Err r) (Ok y) e = absurd (clash e)
answer_fixed f inj (Err r) (Err s) e = let h : number r ≡ number s = cc in ap Err (number_inj r s h)

pub answered_fixed : {T : Type 0} (x y : Result T Refusal) → answered x ≡ answered y → x ≡ y
answered_fixed x y e = answer_fixed (λ x. x) (λ x y h. h) x y e

-- so each promise fixes its answer
pub check_fixed : (n k : ℕ) (words : List ℕ) (x y : Result (Unit {0}) Refusal) → answered x ≡ lent_check n k words → answered y ≡ lent_check n k words → x ≡ y
check_fixed n k words x y p q = answered_fixed x y (p ∙ sym q)

pub question_fixed : (n k : ℕ) (words : List ℕ) (w : Word) (x y : Result ℕ Refusal) → answered x ≡ question n k words w → answered y ≡ question n k words w → x ≡ y
question_fixed n k words w x y p q = answered_fixed x y (p ∙ sym q)
