-- The word that a counterexample is, in plain words: the least that two machines answer differently, and only its last outputs differ.
use Rattle.std.specs.Prelude.{◌≡◌, ◌≢◌, [], ◌∷◌, ◌++◌, ℕ, ◌<◌, length}
use Rattle.std.proofs.Math.Option.{some}
use Rattle.std.proofs.Common.{arith, length-append}
use Rattle.rules.specs.Words.{Word, LeastWord}
use Rattle.rules.specs.Machine.{Machine, Complete, answer, ask}
use Rattle.rules.specs.MachineLaws.{ask_snoc}
use Rattle.rules.specs.Difference.{difference}
use Rattle.rules.specs.DifferenceLaws.{Apart, found, found_least, found_last}

pub record Differs (k : ℕ) (M N : Machine) (w : Word) : Type 0 where
  pub least : LeastWord k (λ v. answer M v ≢ answer N v)
  pub is : least.word ≡ w
  -- its last letter, and what comes before
  pub front : Word
  pub last : ℕ
  pub joined : w ≡ front ++ (last ∷ [])
  pub alike : answer M front ≡ answer N front
  pub apart : ask M w ≢ ask N w

pub difference_differs : (k : ℕ) (M N : Machine) → 0 < k → Complete k M → Complete k N → (w : Word) → difference M N k 0 0 ≡ some w → Differs k M N w
unfolding answer
difference_differs k M N pos whole whole' w e = made (found k pos M N whole whole' 0 0 whole.0 whole'.0 w e)
  where
    made : Apart k M N 0 0 w → Differs k M N w
    made f =
        let x = found_least k pos M N whole whole' 0 0 whole.0 whole'.0 w e in
        let long : length f.front < length (f.front ++ (f.last ∷ [])) = simp length-append (omega arith) in
        record {
          least = x.0;
          is = x.1;
          front = f.front;
          last = f.last;
          joined = f.joined;
          alike = found_last k pos M N whole whole' 0 0 whole.0 whole'.0 w e f.front f.letters (rw f.joined long);
          apart = rw (f.joined, ask_snoc M f.front f.last, ask_snoc N f.front f.last) f.differ;
        }
