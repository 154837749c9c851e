use Rattle.std.proofs.Common.{◌≡◌, ℕ, length, take, replicate, ap, ◌∙◌, length-take-le}
use Rattle.std.proofs.lemmas.List.{length-replicate}
use Rattle.rules.specs.Areas.{over, zeros}
use Rattle.learning.proofs.zero.Goals as goal

pub returns : goal.returns
unfolding over zeros
returns c =
    let a = c.args in
    let n : length (take a.count a.area.now) ≡ a.count = length-take-le a.count a.area.now c.requires in
    let z : length (replicate {A = ℕ} a.count 0) ≡ a.count = length-replicate a.count 0 in
    let e : c.fill.new.self ≡ replicate a.count 0 = c.fill.ensures.after (λ y h. h) ∙ ap (λ (i : ℕ). replicate {A = ℕ} i 0) n in
    rw (e, z)
