use Rattle.std.proofs.Common.{◌≡◌, ◌+◌, ◌-◌, ◌++◌, List, ℕ, length, take, drop, ap, ◌∙◌, arith}
use Rattle.std.proofs.lemmas.List.{drop-drop}
use Rattle.rules.specs.Areas.{put}
use Rattle.areas.proofs.store.put_letters.Goals as goal

pub returns : goal.returns
unfolding put
returns c =
    let a = c.args in
    let d = a.area.now in
    let size : a.at + length a.w.now - a.at ≡ length a.w.now = omega arith in
    ap (λ (l : List ℕ). take a.at d ++ (l ++ drop (a.at + length a.w.now - a.at) (drop a.at d))) c.copy_from_slice.ensures.after
    ∙ ap (λ (n : ℕ). take a.at d ++ (a.w.now ++ drop n (drop a.at d))) size
    ∙ ap (λ (rest : List ℕ). take a.at d ++ (a.w.now ++ rest)) (drop-drop (length a.w.now) a.at d)
