-- The checker's answer in the paper's terms is `answered`. Its promise fixes it: two answers that meet it are equal.
use Rattle.std.specs.Prelude.{◌≡◌, Result, List, ℕ}
use Rattle.std.proofs.Common.{sym, ◌∙◌}
use Rattle.machine.specs.declared.refusal.Refusal.{Refusal}
use Rattle.machine.specs.Answers.{answered, answered_fixed}
use Rattle.sheets.specs.Checker.{check}

pub check_fixed : (n k : ℕ) (words sheet : List ℕ) (x y : Result (Unit {0}) Refusal) → answered x ≡ check n k words sheet → answered y ≡ check n k words sheet → x ≡ y
check_fixed n k words sheet x y p q = answered_fixed x y (p ∙ sym q)
