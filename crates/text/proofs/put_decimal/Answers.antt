use mathlib.Core.Path.{ap, ◌∙◌}
use Prim.Native.Nat.{ℕ, ◌+◌}
use mathlib.Core.List.{List}
use Rattle.rules.specs.Areas.{put}
use Rattle.text.proofs.Decimal.{spelt}
use borrow.Author.Rules.{rules}
use Rattle.text.proofs.put_decimal.Goals as goal

pub put_letters-requires : goal.put_letters-requires
put_letters-requires c =
    let d = c.decimal-size in
    let is = spelt c.args.x d.result _ d.ensures.in_bounds d.ensures.len d.ensures.digits in
    rw is.0 c.requires

pub overflow_add-result : goal.overflow_add-result
overflow_add-result c =
    let d = c.decimal-size in
    let is = spelt c.args.x d.result _ d.ensures.in_bounds d.ensures.len d.ensures.digits in
    let room = c.requires in
    rw is.1 (search rules)

pub returns : goal.returns
returns c =
    let a = c.args in
    let d = c.decimal-size in
    let is = spelt a.x d.result _ d.ensures.in_bounds d.ensures.len d.ensures.digits in
    record { ends = ap (λ (n : ℕ). a.at + n) is.1; is = c.put_letters.ensures ∙ ap (λ (w : List ℕ). put a.at w a.area.now) is.0 }
