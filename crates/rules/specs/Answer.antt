-- What an operation answers, in the paper's terms: the number of a refusal, or values. Refusals are asked in the paper's order, and the
-- first that applies is given.
use Rattle.std.specs.Prelude.{Bool, true, false, ◌&&◌, ℕ, leb}

pub data Answer (A : Type 0) : Type 0 where
  refused : ℕ → Answer A
  gives : A → Answer A

-- refuse with this number unless the test passes
abbrev pub demand : Bool → ℕ → Answer (Unit {0})
demand true number = gives tt
demand false number = refused number

abbrev pub ◌>>=◌ : {A B : Type 0} → Answer A → (A → Answer B) → Answer B
◌>>=◌ (refused number) f = refused number
◌>>=◌ (gives a) f = f a

abbrev pub ◌>>◌ : {A B : Type 0} → Answer A → Answer B → Answer B
◌>>◌ (refused number) b = refused number
◌>>◌ (gives a) b = b

abbrev pub within : ℕ → ℕ → ℕ → Bool
within low high x = leb low x && leb x high
