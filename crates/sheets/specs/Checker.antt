-- Document 01, 'The checker, in order': four questions to a proof sheet that is held against a machine.
use Rattle.std.specs.Prelude.{Bool, false, ◌&&◌, ◌||◌, List, [], ◌∷◌, ℕ, get_or}
use Rattle.std.proofs.Math.Bool.{not}
use Rattle.std.proofs.Math.Dec.{eqb}
use Rattle.rules.specs.Words.{Word}
use Rattle.rules.specs.Tests.{all_from}
use Rattle.rules.specs.Search.{walk}
use Rattle.rules.specs.Machine.{Machine, lent, last_from}
use Rattle.rules.specs.Answer.{Answer, refused, demand, ◌>>◌}
use Rattle.rules.specs.Sheets.{Proof}
use Rattle.machine.specs.Lent.{link, lent_check}
use Rattle.sheets.specs.Reading.{Parsed, bad, good}
use Rattle.sheets.specs.Proofs.{proof_sheet}

-- some word of a list passes
unfoldable pub some_word : (Word → Bool) → List Word → Bool
some_word p [] = false
some_word p (w ∷ words) = p w || some_word p words

-- the model on a sheet
abbrev pub model_of : Proof → Machine
model_of P = link P.m P.k P.model

module _ (M : Machine) (P : Proof) where
  -- 12: each AW word leads the model from 0 to its state
  unfoldable pub reaches_all : Bool
  unfolding all_from lent
  reaches_all = all_from (λ (j : ℕ). eqb (walk (model_of P).next 0 (get_or P.reaching j [])) j) 0 P.m

  -- 13: any two model states answer some column differently, by the last output
  unfoldable pub told_apart : ℕ → ℕ → Bool
  unfolding some_word last_from lent
  told_apart i j = some_word (λ (e : Word). not (eqb (last_from (model_of P) 0 i e) (last_from (model_of P) 0 j e))) P.columns

  unfoldable pub all_apart : Bool
  unfolding told_apart all_from
  all_apart = all_from (λ (i : ℕ). all_from (λ (j : ℕ). eqb i j || told_apart i j) 0 P.m) 0 P.m

  -- 14: machine state 0 has model state 0, and for each machine state with a model state and each letter the outputs agree and the next
  -- state's model state is the model's next. A state marked 255 is asked nothing itself.
  abbrev pub model_state : ℕ → ℕ
  model_state s = get_or P.state_map s 255

  unfoldable pub step_agrees : ℕ → ℕ → Bool
  unfolding lent
  step_agrees s a =
      eqb (M.out s a) ((model_of P).out (model_state s) a)
      && eqb (model_state (M.next s a)) ((model_of P).next (model_state s) a)

  unfoldable pub map_holds : Bool
  unfolding step_agrees all_from
  map_holds =
      eqb (model_state 0) 0
      && all_from (λ (s : ℕ). eqb (model_state s) 255 || all_from (λ (a : ℕ). step_agrees s a) 0 P.k) 0 P.n

-- sheet's n and k are the machine's; then the three questions
unfoldable pub judge : ℕ → ℕ → Machine → Proof → Answer (Unit {0})
unfolding reaches_all all_apart map_holds
judge n k M P = do
  demand (eqb P.n n && eqb P.k k) 11
  demand (reaches_all M P) 12
  demand (all_apart M P) 13
  demand (map_holds M P) 14

abbrev pub judge_sheet : ℕ → ℕ → Machine → Parsed Proof → Answer (Unit {0})
judge_sheet n k M (bad number) = refused number
judge_sheet n k M (good P rest) = judge n k M P

-- checker: machine, sheet, 11 to 14; it writes nothing
unfoldable pub check : ℕ → ℕ → List ℕ → List ℕ → Answer (Unit {0})
unfolding lent_check proof_sheet judge lent
check n k words sheet = do
  lent_check n k words
  judge_sheet n k (link n k words) (proof_sheet sheet)
