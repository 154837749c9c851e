-- What a reading step gives, and the way from one record of a word to the next.
use Rattle.std.specs.Prelude.{◌≡◌, refl, get_or}
use Rattle.std.proofs.Common.{sym, ap}
use mathlib.Core.List.{List}
use Prim.Native.Nat.{ℕ, zero, suc, ◌+◌, ◌-◌, ◌≤◌, ◌<◌}
use native.Mathlib.Omega.{arith}
use Rattle.rules.specs.Answer.{Answer, refused, gives}
use Rattle.sheets.specs.Reading.{Parsed, bad, good}
use Rattle.sheets.specs.Steps.{outcome}
use Rattle.sheets.specs.ProofParts.{given, record_place}

-- ---- what a step gives
-- an answer is no refusal
pub clash : {A : Type 0} {x : ℕ} {a : A} → ◌≡◌ {A = Answer A} (refused x) (gives a) → ⊥
clash e = let z : ◌≡◌ {A = ℕ} 0 1 = cc in omega arith

-- a step that is refused gives its refusal, and one that gives a value came out good
pub given_refused : {A : Type 0} (p : Parsed A) (x : ℕ) → outcome p ≡ refused x → given p ≡ refused x
given_refused (bad y) x e = let h : y ≡ x = cc in ap refused h
given_refused (good a rest) x e = absurd (clash (sym e))

pub refused_given : {A : Type 0} (p : Parsed A) (x : ℕ) → given p ≡ refused x → outcome p ≡ refused x
refused_given (bad y) x e = let h : y ≡ x = cc in ap refused h
refused_given (good a rest) x e = absurd (clash (sym e))

pub given_good : {A : Type 0} (p : Parsed A) (a : A) → given p ≡ gives a → (rest : List ℕ) × (p ≡ good a rest)
given_good (bad y) a e = absurd (clash e)
given_good (good b rest) a e = (rest, cc)

-- ---- from one record to the next
pub place_more : (bytes : List ℕ) (at j : ℕ) → at ≤ record_place bytes at j
unfolding record_place
place_more bytes at zero = omega arith
place_more bytes at (suc j) = let h = place_more bytes (at + (3 + get_or bytes (at + 2) 0)) j in omega arith

pub place_next : (bytes : List ℕ) (at left : ℕ) → 0 < left → record_place bytes at left ≡ record_place bytes (at + (3 + get_or bytes (at + 2) 0)) (left - 1)
unfolding record_place
place_next bytes at zero h = absurd (omega arith)
place_next bytes at (suc left) h = let m : suc left - 1 ≡ left = omega arith in rw m

-- a record that is passed lies within what the last one lies within
pub place_within : (bytes : List ℕ) (at left n : ℕ) → 0 < left → record_place bytes at left ≤ n → at + (3 + get_or bytes (at + 2) 0) ≤ n
place_within bytes at left n h l = omega (arith, place_next bytes at left h, place_more bytes (at + (3 + get_or bytes (at + 2) 0)) (left - 1))

pub place_end : (bytes : List ℕ) (at : ℕ) → record_place bytes at 0 ≡ at
unfolding record_place
place_end bytes at = refl
