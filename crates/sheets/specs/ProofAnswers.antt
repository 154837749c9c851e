-- The answers of the proof sheet's reader in the paper's terms, and that these fix them: two answers that meet one promise are equal.
use Rattle.std.specs.Prelude.{◌≡◌, Result, Ok, Err, List, ℕ, ◌+◌}
use Rattle.std.proofs.Common.{Bor, sym, ap, ◌∙◌}
use Rattle.rules.specs.Answer.{Answer}
use Rattle.machine.specs.declared.refusal.Refusal.{Refusal}
use Rattle.machine.specs.Refusals.{number, number_inj}
use Rattle.machine.specs.Answers.{answer, answer_fixed}
use Rattle.sheets.specs.Rests.{rest_of}
use Rattle.sheets.specs.WordSteps.{clash}
use Rattle.sheets.specs.declared.proofs.Counts as code
use Rattle.sheets.specs.Proofs.{Counts, aw_record}
use Rattle.sheets.specs.ProofParts.{counts, aw_place}

-- ---- a step
-- its answer as a value: the bytes that follow it, wherever they lie, or its refusal
abbrev pub stepped : Result (Bor (List ℕ)) Refusal → Result (List ℕ) Refusal
stepped (Ok bytes) = Ok bytes.now
stepped (Err r) = Err r

-- what a step promises of its answer fixes it
pub stepped_fixed : (x y : Result (Bor (List ℕ)) Refusal) → rest_of x ≡ rest_of y → stepped x ≡ stepped y
stepped_fixed (Ok x) (Ok y) e = let h : x.now ≡ y.now = cc in ap Ok h
stepped_fixed (Ok x) (Err s) e = absurd (clash (sym e))
stepped_fixed (Err r) (Ok y) e = absurd (clash e)
stepped_fixed (Err r) (Err s) e = let h : number r ≡ number s = cc in ap Err (number_inj r s h)

-- ---- reading a proof sheet
-- the four numbers, as reading gives them
abbrev pub numbers_of : code.Counts → Counts
numbers_of h = counts h.m h.k h.n h.c

abbrev pub read_of : Result code.Counts Refusal → Answer Counts
read_of r = answer numbers_of r

numbers_fixed : (x y : code.Counts) → numbers_of x ≡ numbers_of y → x ≡ y
numbers_fixed x y e = ap (λ (h : Counts). record { m = h.m; k = h.k; n = h.n; c = h.c }) e

pub read_fixed : (x y : Result code.Counts Refusal) → read_of x ≡ read_of y → x ≡ y
read_fixed x y e = answer_fixed numbers_of numbers_fixed x y e

-- ---- the AW record of a state
-- what `aw_record` promises of a part: its bytes, and the block and the place at which it lies, for a sheet that lies at a place of a block
abbrev pub AwPromise : List ℕ → ℕ → ℕ → ℕ → List ℕ → ℕ → ℕ → Type 0
AwPromise sheet block start state part b place = (part ≡ aw_record sheet state) × (b ≡ block) × (place ≡ aw_place sheet state + start)

pub aw_fixed : (sheet : List ℕ) (block start state : ℕ) (x y : List ℕ) (b c i j : ℕ) → AwPromise sheet block start state x b i → AwPromise sheet block start state y c j
    → (x ≡ y) × (b ≡ c) × (i ≡ j)
aw_fixed sheet block start state x y b c i j p q = (p.0 ∙ sym q.0, p.1 ∙ sym q.1, p.2 ∙ sym q.2)
