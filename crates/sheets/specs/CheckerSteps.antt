-- The tests and the tables that the checker's code goes through step by step. What it keeps true: proofs/CheckerSteps.
use Rattle.std.specs.Prelude.{◌≡◌, true, ◌||◌, length, get_or}
use Rattle.std.proofs.Math.Bool.{Bool, not}
use mathlib.Core.List.{List, []}
use Prim.Native.Nat.{ℕ}
use Rattle.std.proofs.Math.Dec.{eqb}
use Rattle.rules.specs.Tests.{all_from}
use Rattle.rules.specs.Words.{Word}
use Rattle.rules.specs.Search.{walk}
use Rattle.rules.specs.Machine.{Machine, last_from}
use Rattle.rules.specs.Sheets.{Proof}
use Rattle.std.specs.List.{list_all}
use Rattle.machine.specs.Lent.{Sound}
use Rattle.sheets.specs.Proofs.{map_byte}
use Rattle.sheets.specs.Checker.{told_apart, model_state, step_agrees}

-- ---- 12: a state that its word reaches
abbrev pub reached : Machine → Proof → ℕ → Bool
reached N P j = eqb (walk N.next 0 (get_or P.reaching j [])) j

-- ---- 13: a column that tells two states apart
unfoldable pub tells : Machine → ℕ → ℕ → Word → Bool
unfolding last_from
tells N i j e = not (eqb (last_from N 0 i e) (last_from N 0 j e))

-- a state that is told apart from each before it
unfoldable pub apart_before : Machine → Proof → ℕ → Bool
unfolding all_from told_apart
apart_before M P i = all_from (told_apart M P i) 0 i

-- ---- 14: machine, model and map, as the code holds them
pub record Mapping (n k : ℕ) (words : List ℕ) (m : ℕ) (model map : List ℕ) : Type 0 where
  pub sound : Sound n k words
  pub model_sound : Sound m k model
  pub long : length map ≡ n
  pub bytes : list_all (map_byte m) map ≡ true

-- a sheet of which only these are looked at
abbrev pub mapped : ℕ → ℕ → ℕ → List ℕ → List ℕ → Proof
mapped n k m model map = record { m = m; k = k; n = n; c = 0; model = model; reaching = []; columns = []; state_map = map }

-- a machine state that agrees with its model state at each letter, or is asked nothing
unfoldable pub state_agrees : Machine → Proof → ℕ → Bool
unfolding all_from step_agrees
state_agrees M P s = eqb (model_state M P s) 255 || all_from (step_agrees M P s) 0 P.k
