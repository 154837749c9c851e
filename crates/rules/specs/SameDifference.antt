-- The least difference does not depend on how a machine is coded: machines that are the same at their states and letters have the same.
use Rattle.std.specs.Prelude.{◌≡◌, refl, ℕ, ◌<◌}
use Rattle.std.proofs.Common.{sym, ap, ◌∙◌, arith}
use Rattle.std.proofs.Math.Option.{Option, none, some}
use Rattle.rules.specs.Words.{Word, Below, Three, earlier, equal, later, three}
use Rattle.rules.specs.Machine.{Machine, Complete, answer_from}
use Rattle.rules.specs.Difference.{LeastDifference, difference}
use Rattle.rules.specs.DifferenceLaws.{found_least, none_agrees, agrees_none}
use Rattle.rules.specs.Same.{Same, same_complete, same_answers}

clash : {w : Word} → ◌≡◌ {A = Option Word} none (some w) → ⊥
clash e = let z : ◌≡◌ {A = ℕ} 0 1 = cc in omega arith

pub difference_same : (k : ℕ) (M N N' : Machine) → 0 < k → Complete k M → Complete k N → Same k N N' → difference M N k 0 0 ≡ difference M N' k 0 0
difference_same k M N N' pos whole wholeN same = go (difference M N k 0 0) refl (difference M N' k 0 0) refl
  where
    wholeN' : Complete k N'
    wholeN' = same_complete wholeN same

    answers : (w : Word) → Below k w → answer_from N 0 w ≡ answer_from N' 0 w
    answers w b = same_answers wholeN same 0 w wholeN.0 b

    go : (o : Option Word) → difference M N k 0 0 ≡ o → (o' : Option Word) → difference M N' k 0 0 ≡ o' → difference M N k 0 0 ≡ difference M N' k 0 0
    go none e none e' = e ∙ sym e'
    go none e (some w) e' =
        absurd (clash (sym (agrees_none k pos M N' whole wholeN' 0 0 whole.0 wholeN'.0 (λ v b. none_agrees k pos M N whole wholeN 0 0 whole.0 wholeN.0 e v b ∙ answers v b)) ∙ e'))
    go (some w) e none e' =
        absurd (clash (sym (agrees_none k pos M N whole wholeN 0 0 whole.0 wholeN.0 (λ v b. none_agrees k pos M N' whole wholeN' 0 0 whole.0 wholeN'.0 e' v b ∙ sym (answers v b))) ∙ e))
    go (some w) e (some w') e' =
        let x = found_least k pos M N whole wholeN 0 0 whole.0 wholeN.0 w e in
        let x' = found_least k pos M N' whole wholeN' 0 0 whole.0 wholeN'.0 w' e' in
        e ∙ ap {B = Option Word} some (sym x.1 ∙ one x.0 x'.0 (three x.0.word x'.0.word) ∙ x'.1) ∙ sym e'
      where
        one : (x : LeastDifference k M N 0 0) (x' : LeastDifference k M N' 0 0) → Three x.word x'.word → x.word ≡ x'.word
        one x x' (earlier b) = absurd (x'.first x.word x.letters b (λ q. x.has (q ∙ sym (answers x.word x.letters))))
        one x x' (equal q) = q
        one x x' (later b) = absurd (x.first x'.word x'.letters b (λ q. x'.has (q ∙ answers x'.word x'.letters)))
