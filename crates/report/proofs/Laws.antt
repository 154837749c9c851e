-- The range of a machine that was read, and an answer whose refusal was turned into another.
use Rattle.std.specs.Prelude.{◌≡◌, Result, Ok, Err, List, ℕ, ◌*◌, ◌≤◌}
use Rattle.std.specs.Result.{MatchResult, IsErrAnd}
use Rattle.std.proofs.Common.{refl, subst, mul-le-mul}
use Rattle.rules.specs.Areas.{zeros}
use Rattle.rules.specs.Answer.{gives}
use Rattle.sheets.specs.declared.machines.Size as code
use Rattle.sheets.specs.MachineAnswers.{size_of}
use Rattle.sheets.specs.Machines.{read_machine}
use Rattle.report.specs.Reading.{read_sized}

pub sized : (bytes area : List ℕ) (s : code.Size) → record { answer = gives (size_of s); area = area } ≡ read_machine bytes (zeros 576)
    → (s.n * s.k ≤ 576) × (1 ≤ s.k) × (s.k ≤ 12)
sized bytes area s was = let z = read_sized bytes area (gives (size_of s)) was (size_of s) refl in (mul-le-mul z.0 z.2, z.1, z.2)

module _ {T E D : Type 0} (P : E → D → Type 0) where
  pub turned : (r : Result T E) (s : Result T D) → MatchResult r (λ x. s ≡ Ok x) (λ e. IsErrAnd s (P e)) → (d : D) → s ≡ Err d → (e : E) × (r ≡ Err e) × P e d
  turned (Ok x) s m d q = cc
  turned (Err e) s m d q = (e, refl, subst (λ (s : Result T D). IsErrAnd s (P e)) q m)

  pub unturned : (r : Result T E) (s : Result T D) → MatchResult r (λ x. s ≡ Ok x) (λ e. IsErrAnd s (P e)) → (x : T) → s ≡ Ok x → r ≡ Ok x
  unturned (Ok y) s m x q = cc
  unturned (Err e) s m x q = absurd (subst (λ (s : Result T D). IsErrAnd s (P e)) q m)
