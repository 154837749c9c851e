-- The checker's four questions in plain words. That they are what it asks, and that it is sound: proofs/CheckerLaws.
use Rattle.std.specs.Prelude.{◌≡◌, ◌≢◌, length, get_or}
use mathlib.Core.List.{[]}
use Prim.Native.Nat.{ℕ, ◌<◌}
use Rattle.rules.specs.Search.{walk}
use Rattle.rules.specs.Machine.{Machine, last_from}
use Rattle.rules.specs.Sheets.{Proof}
use Rattle.sheets.specs.Checker.{model_of, model_state}

-- ---- the four questions in plain words
-- two model states answer each column alike
abbrev pub Alike : Proof → ℕ → ℕ → Type 0
Alike P i j = (c : ℕ) → c < length P.columns → last_from (model_of P) 0 i (get_or P.columns c []) ≡ last_from (model_of P) 0 j (get_or P.columns c [])

-- at a machine state and a letter the outputs agree, and the next state's model state is the model's next
abbrev pub Step : Machine → Proof → ℕ → ℕ → Type 0
Step M P s a = (M.out s a ≡ (model_of P).out (model_state M P s) a) × (model_state M P (M.next s a) ≡ (model_of P).next (model_state M P s) a)

pub record Accepted (n k : ℕ) (M : Machine) (P : Proof) : Type 0 where
  pub states : P.n ≡ n
  pub letters : P.k ≡ k
  pub reaches : (j : ℕ) → j < P.m → walk (model_of P).next 0 (get_or P.reaching j []) ≡ j
  pub apart : (i j : ℕ) → i < P.m → j < P.m → Alike P i j → i ≡ j
  pub start : model_state M P 0 ≡ 0
  pub steps : (s a : ℕ) → s < P.n → a < P.k → model_state M P s ≢ 255 → Step M P s a
