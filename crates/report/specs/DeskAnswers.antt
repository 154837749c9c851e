-- The desk programs' answers in the paper's terms, and that the promises fix them: two that meet one promise are equal.
use Rattle.std.specs.Prelude.{◌≡◌, Result, Ok, Err, Option, List, ℕ}
use Rattle.std.proofs.Common.{sym, ap, ◌∙◌, arith}
use Rattle.machine.specs.Refusals.{number, number_inj}
use Rattle.machine.specs.Answers.{answered, answered_fixed}
use Rattle.machine.specs.declared.refusal.Refusal.{Refusal}
use Rattle.apart.specs.declared.Told as apart
use Rattle.apart.specs.Answers.{Promise, left_fixed}
use Rattle.sheets.specs.Machines.{Left}
use Rattle.report.specs.declared.verdict.Rejection.{Rejection}
use Rattle.report.specs.declared.verdict.Rejection.TheVariants as sheet
use Rattle.report.specs.Desk.{Verdict, accepted, machine_refused, proof_refused, verdict, send, why}

-- the refusal of one sheet or the other
abbrev pub rejection_of : Rejection → Verdict
rejection_of (sheet.Machine r) = machine_refused (number r)
rejection_of (sheet.Proof r) = proof_refused (number r)

abbrev pub verdict_of : Result ℕ Rejection → Verdict
verdict_of (Ok m) = accepted m
verdict_of (Err r) = rejection_of r

clash : ◌≡◌ {A = ℕ} 0 1 → ⊥
clash z = omega arith

rejection_of_fixed : (x y : Rejection) → rejection_of x ≡ rejection_of y → x ≡ y
rejection_of_fixed (sheet.Machine r) (sheet.Machine s) e = let h : number r ≡ number s = cc in ap sheet.Machine (number_inj r s h)
rejection_of_fixed (sheet.Machine r) (sheet.Proof s) e = let z : ◌≡◌ {A = ℕ} 0 1 = cc in absurd (clash z)
rejection_of_fixed (sheet.Proof r) (sheet.Machine s) e = let z : ◌≡◌ {A = ℕ} 0 1 = cc in absurd (clash z)
rejection_of_fixed (sheet.Proof r) (sheet.Proof s) e = let h : number r ≡ number s = cc in ap sheet.Proof (number_inj r s h)

verdict_of_fixed : (x y : Result ℕ Rejection) → verdict_of x ≡ verdict_of y → x ≡ y
verdict_of_fixed (Ok a) (Ok b) e = let h : a ≡ b = cc in ap Ok h
verdict_of_fixed (Ok a) (Err (sheet.Machine s)) e = let z : ◌≡◌ {A = ℕ} 0 1 = cc in absurd (clash z)
verdict_of_fixed (Ok a) (Err (sheet.Proof s)) e = let z : ◌≡◌ {A = ℕ} 0 1 = cc in absurd (clash z)
verdict_of_fixed (Err (sheet.Machine r)) (Ok b) e = let z : ◌≡◌ {A = ℕ} 0 1 = cc in absurd (clash z)
verdict_of_fixed (Err (sheet.Proof r)) (Ok b) e = let z : ◌≡◌ {A = ℕ} 0 1 = cc in absurd (clash z)
verdict_of_fixed (Err r) (Err s) e = ap Err (rejection_of_fixed r s e)

pub verdict_fixed : (machine proof : List ℕ) (x y : Result ℕ Rejection) → verdict_of x ≡ verdict machine proof → verdict_of y ≡ verdict machine proof
    → x ≡ y
verdict_fixed machine proof x y p q = verdict_of_fixed x y (p ∙ sym q)

-- what `send` promises of an answer x, the sheet's length, and of the area a after it
abbrev pub SendPromise : List ℕ → List ℕ → Result ℕ Refusal → List ℕ → Type 0
SendPromise machine area x a = record { answer = answered x; area = a } ≡ send machine area

pub send_fixed : (machine area : List ℕ) (x y : Result ℕ Refusal) (a b : List ℕ) → SendPromise machine area x a → SendPromise machine area y b → (x ≡ y) × (a ≡ b)
send_fixed machine area x y a b p q =
    let e = p ∙ sym q in
    (answered_fixed x y (ap (λ (l : Left ℕ). l.answer) e), ap (λ (l : Left ℕ). l.area) e)

-- why two states are apart
pub why_fixed : (machine : List ℕ) (s t : ℕ) (area : List ℕ) (x y : Result (Option apart.Told) Refusal) (a b : List ℕ)
    → Promise (why machine s t area) x a → Promise (why machine s t area) y b → (x ≡ y) × (a ≡ b)
why_fixed machine s t area = left_fixed (why machine s t area)
